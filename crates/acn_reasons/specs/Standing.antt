-- Attributes that are given twice, and attributes that may not stand where they stand. These rules are this profile's own.
use Rattle.std.specs.Prelude.{ℕ, Bool, true, false, not, ◌&&◌, ◌||◌, nat_lt, List, [], ◌∷◌, take, length, find, Option, Some, None, option_map, is_some, if◌then◌else◌}
use Rattle.std.specs.List.{enumerate_from, list_any}
use Rattle.acn_acn_syntax.specs.declared.modules.Attr.{Attr}
use Rattle.acn_acn_syntax.specs.declared.modules.Attr.TheVariants as attr
use Rattle.acn_acn_syntax.specs.declared.modules.SizeAttr.{SizeAttr}
use Rattle.acn_acn_syntax.specs.declared.modules.SizeAttr.TheVariants as size
use Rattle.acn_sites.specs.declared.attributes.AttrKind.{AttrKind}
use Rattle.acn_sites.specs.declared.attributes.AttrKind.TheVariants as kind
use Rattle.acn_sites.specs.Places.{Place, attribute_place, earliest, found_there}
use Rattle.acn_slots.specs.Slots.{Origin, is_optional}
use Rattle.acn_sites.specs.Sites.{Position, root, part, inserted, alternative, element, content, Site, origin_place}
use Rattle.acn_sites.specs.Attributes.{kind_of, is_of, Given, nearest, brackets, place_of}
use Rattle.acn_num.specs.declared.limits.TheConstants.{MOST_STEPS}
use Rattle.acn_reasons.specs.declared.classes.Class.{Class}
use Rattle.acn_reasons.specs.Classes.{class_of, is_number, is_sized, is_integer, is_enumerated, is_boolean, is_null, is_text, is_list, is_choice, encoding_in, size_attr, encoding_attr, is_bcd, is_ascii, is_decimal, is_binary, is_ended}

-- ---- TooDeep: a path of more than MOST_STEPS steps

abbrev pub is_too_deep : Site → Bool
is_too_deep s = nat_lt MOST_STEPS (length s.path)

-- ---- RepeatedAttribute: one bracket gives it twice

-- whether an attribute stands behind one of its kind
abbrev pub stands_behind : List Attr → ℕ × Attr → Bool
stands_behind attributes a = list_any (is_of (kind_of a.1)) (take a.0 attributes)

abbrev pub repeat_at : Site → Origin → ℕ × Attr → Place × AttrKind
repeat_at s from a = (attribute_place (origin_place s from) a.0, kind_of a.1)

-- the first of a bracket that does, with its place
abbrev pub repeat_in : Site → Origin × List Attr → Option (Place × AttrKind)
repeat_in s b = option_map (repeat_at s b.0) (find (stands_behind b.1) (enumerate_from 0 b.1))

-- the first in the text of all brackets of a site
unfoldable pub repeated_attribute : Site → Option AttrKind
repeated_attribute s = found_there (earliest (repeat_in s) (brackets s))

-- ---- AttributeNotHere: the attribute doesn't stand on the type

abbrev pub size_stands : Class → Bool → SizeAttr → Bool
size_stands c decimal (size.Number n) = is_number c || is_sized c
size_stands c decimal (size.Path p) = is_sized c
size_stands c decimal size.NullTerminated = (is_integer c && decimal) || is_text c || is_list c

abbrev pub may_be_missing : Position → Bool
may_be_missing (root owner name) = false
may_be_missing (part name r) = is_optional r
may_be_missing (inserted name k) = false
may_be_missing (alternative name) = true
may_be_missing element = false
may_be_missing content = false

abbrev pub encoding_stands : Class → Attr → Bool
encoding_stands c a = is_integer c || (is_enumerated c && is_binary (encoding_in a)) || (is_text c && is_ascii (encoding_in a))

-- whether an attribute stands on the type of a site, beside its nearest attributes
abbrev pub stands_here : Site → Attr → Bool
stands_here s (attr.Size x) = size_stands (class_of s) (is_decimal (encoding_attr s)) x
stands_here s (attr.Encoding e) = encoding_stands (class_of s) (attr.Encoding e)
stands_here s (attr.Endianness e) = is_number (class_of s)
stands_here s (attr.AlignToNext a) = true
stands_here s attr.EncodeValues = is_enumerated (class_of s)
stands_here s (attr.TrueValue l) = is_boolean (class_of s)
stands_here s (attr.FalseValue l) = is_boolean (class_of s)
stands_here s (attr.Pattern l) = is_null (class_of s)
stands_here s (attr.TerminationPattern l) = is_ended (size_attr s) && not (is_bcd (encoding_attr s))
stands_here s (attr.PresentWhen cs) = may_be_missing s.position
stands_here s (attr.Determinant p) = is_choice (class_of s)
stands_here s (attr.MappingFunction n) = is_integer (class_of s) && is_some (size_attr s)

abbrev pub all_kinds : List AttrKind
all_kinds = kind.Size ∷ kind.Encoding ∷ kind.Endianness ∷ kind.AlignToNext ∷ kind.EncodeValues ∷ kind.TrueValue ∷ kind.FalseValue ∷ kind.Pattern ∷ kind.TerminationPattern ∷ kind.PresentWhen ∷ kind.Determinant ∷ kind.MappingFunction ∷ []

abbrev pub unless_here : Site → AttrKind → Option Given → Option (Place × AttrKind)
unless_here s k None = None
unless_here s k (Some g) = if stands_here s g.attr then None else Some (place_of s g, k)

-- the nearest attribute of a kind, with its place, where it may not stand here
abbrev pub stranger : Site → AttrKind → Option (Place × AttrKind)
stranger s k = unless_here s k (nearest k s)

-- the first in the text of all kinds
unfoldable pub attribute_not_here : Site → Option AttrKind
attribute_not_here s = found_there (earliest (stranger s) all_kinds)
