-- The attributes of a site. These rules are this profile's own.
use Rattle.std.specs.Prelude.{ℕ, Bool, nat_eq, List, [], ◌∷◌, map, find, Option, None, option_map}
use Rattle.std.specs.List.{enumerate_from}
use Rattle.std.specs.Option.{option_or}
use Rattle.acn_acn_syntax.specs.declared.modules.Attr.{Attr}
use Rattle.acn_acn_syntax.specs.declared.modules.Attr.TheVariants as attr
use Rattle.acn_index.specs.World.{World}
use Rattle.acn_index.specs.Lookup.{EntryAt}
use Rattle.acn_sites.specs.declared.attributes.AttrKind.{AttrKind}
use Rattle.acn_sites.specs.declared.attributes.AttrKind.TheVariants as kind
use Rattle.acn_sites.specs.Places.{Place, attribute_place}
use Rattle.acn_slots.specs.Slots.{Scope, Origin, at_use, at_entry}
use Rattle.acn_sites.specs.Sites.{Site, origin_place, origin_scope}

abbrev pub kind_of : Attr → AttrKind
kind_of (attr.Size s) = kind.Size
kind_of (attr.Encoding e) = kind.Encoding
kind_of (attr.Endianness e) = kind.Endianness
kind_of (attr.AlignToNext a) = kind.AlignToNext
kind_of attr.EncodeValues = kind.EncodeValues
kind_of (attr.TrueValue l) = kind.TrueValue
kind_of (attr.FalseValue l) = kind.FalseValue
kind_of (attr.Pattern l) = kind.Pattern
kind_of (attr.TerminationPattern l) = kind.TerminationPattern
kind_of (attr.PresentWhen cs) = kind.PresentWhen
kind_of (attr.Determinant p) = kind.Determinant
kind_of (attr.MappingFunction n) = kind.MappingFunction

-- the numbers by which faults name them
abbrev pub number_of : AttrKind → ℕ
number_of kind.Size = 1
number_of kind.Encoding = 2
number_of kind.Endianness = 3
number_of kind.AlignToNext = 4
number_of kind.EncodeValues = 5
number_of kind.TrueValue = 6
number_of kind.FalseValue = 7
number_of kind.Pattern = 8
number_of kind.TerminationPattern = 9
number_of kind.PresentWhen = 10
number_of kind.Determinant = 11
number_of kind.MappingFunction = 12

abbrev pub is_of : AttrKind → Attr → Bool
is_of k a = nat_eq (number_of (kind_of a)) (number_of k)

-- an attribute, with the bracket in which it stands and its number there
pub record Given : Type 0 where
  pub from : Origin
  pub number : ℕ
  pub attr : Attr

abbrev pub given_at : Origin → ℕ × Attr → Given
given_at from a = record { from = from; number = a.0; attr = a.1 }

-- the first of its kind in a bracket
abbrev pub given_in : AttrKind → Origin → List Attr → Option Given
given_in k from attributes = option_map (given_at from) (find (λ (a : ℕ × Attr). is_of k a.1) (enumerate_from 0 attributes))

abbrev pub given_at_entry : AttrKind → EntryAt → Option Given
given_at_entry k e = given_in k (at_entry e) e.is.attributes

-- that of the outermost of these entries that gives it, where they go from the base outward
abbrev pub given_along : AttrKind → List EntryAt → Option Given
given_along k [] = None
given_along k (e ∷ es) = option_or (given_along k es) (given_at_entry k e)

-- The attribute that decides: that of the use, and else that of the first entry that gives it, from the outermost to the base.
unfoldable pub nearest : AttrKind → Site → Option Given
nearest k s = option_or (given_in k at_use s.used.attributes) (given_along k s.chain.entries)

-- all brackets of a site
abbrev pub brackets : Site → List (Origin × List Attr)
brackets s = (at_use, s.used.attributes) ∷ map (λ (e : EntryAt). (at_entry e, e.is.attributes)) s.chain.entries

-- where an attribute stands, and the scope in which its paths are read
abbrev pub place_of : Site → Given → Place
place_of s g = attribute_place (origin_place s g.from) g.number

abbrev pub scope_of : World → Site → Given → Scope
scope_of w s g = origin_scope w s g.from
