-- The value behind DEFAULT, and whether the type of its component permits it (X.680 clause 25: it is a value of that type). That it is one of the numbers
-- that are left for the coding, has the size that `size` gives, and ends where its terminator first stands, is this profile's own.
use Rattle.std.specs.Prelude.{ℕ, Bool, true, false, not, ◌&&◌, List, [], ◌∷◌, length, Option, Some, None, option_map, is_some, ℤ, pos}
use Rattle.std.specs.List.{list_any, list_all}
use Rattle.std.specs.Str.{bytes_eq}
use Rattle.acn_num.specs.Bits.{octets}
use Rattle.acn_num.specs.Ranges.{Ranges, has}
use Rattle.acn_asn_syntax.specs.Mirror.{AsnBase, enumerated}
use Rattle.acn_asn_syntax.specs.declared.types.Item.{Item}
use Rattle.acn_asn_syntax.specs.declared.types.Rest.{Rest}
use Rattle.acn_asn_syntax.specs.declared.types.Rest.TheVariants as rest
use Rattle.acn_asn_syntax.specs.declared.values.AsnValue.{AsnValue}
use Rattle.acn_asn_syntax.specs.declared.values.AsnValue.TheVariants as value
use Rattle.acn_index.specs.World.{World}
use Rattle.acn_index.specs.Values.{Worth, value_of}
use Rattle.acn_set_elements.specs.Written.{number_in, named_of, text_in}
use Rattle.acn_slots.specs.Slots.{Frame}
use Rattle.acn_sites.specs.Sites.{Position, part, Site, base_of, content_of}
use Rattle.acn_reasons.specs.declared.classes.Class.{Class}
use Rattle.acn_reasons.specs.declared.classes.Class.TheVariants as class
use Rattle.acn_reasons.specs.Classes.{class_of}
use Rattle.acn_codings.specs.Literals.{text_bits}
use Rattle.acn_grammar.specs.Meets.{first_end}
use Rattle.acn_grammar.specs.Spell.{octet_numbers}
use Rattle.acn_written.specs.Numbers.{Numbers, numbers_at}
use Rattle.acn_written.specs.Sizes.{sizes_at, characters_at}
use Rattle.acn_written.specs.Ends.{ended_by}

-- ---- the value behind DEFAULT

abbrev pub value_behind : Rest → Option AsnValue
value_behind (rest.Default v) = Some v
value_behind _ = None

abbrev pub value_at : Position → Option AsnValue
value_at (part name r) = value_behind r
value_at _ = None

-- the module in whose text it stands: that of the SEQUENCE that was entered last
abbrev pub owner_in : List Frame → Option ℕ
owner_in [] = None
owner_in (f ∷ fs) = Some f.owner

-- the value itself, or the one to which an identifier leads (X.680 clause 17)
abbrev pub value_in : World → ℕ → AsnValue → Option AsnValue
value_in w k (value.Ref name) = option_map (λ (v : Worth). v.is) (value_of w k name)
value_in w k v = Some v

-- ---- the values of each type

-- TRUE or FALSE (X.680 clause 18)
abbrev pub is_truth : Option AsnValue → Bool
is_truth (Some value.True) = true
is_truth (Some value.False) = true
is_truth _ = false

-- NULL (X.680 clause 24)
abbrev pub is_null_value : Option AsnValue → Bool
is_null_value (Some value.Null) = true
is_null_value _ = false

-- a number (X.680 clause 19) of those that are left for the coding
abbrev pub is_among : Ranges → Option ℤ → Bool
is_among s None = false
is_among s (Some x) = has s x

abbrev pub is_left : Option Numbers → Option ℤ → Bool
is_left None x = false
is_left (Some n) x = is_among n.left x

-- the name of an item (X.680 clause 20); no other identifier leads to one
abbrev pub is_item : List Item → AsnValue → Bool
is_item items (value.Ref name) = list_any (λ (i : Item). bytes_eq i.name name) items
is_item items _ = false

abbrev pub is_item_of : AsnBase → AsnValue → Bool
is_item_of (enumerated items) v = is_item items v
is_item_of _ v = false

-- how many bits a literal has (X.680 clause 22)
abbrev pub bits_of : Option AsnValue → Option ℕ
bits_of (Some (value.Bits t)) = Some (length (text_bits false t))
bits_of (Some (value.Hex t)) = Some (length (text_bits true t))
bits_of _ = None

abbrev pub has_count : Ranges → Option ℕ → Bool
has_count sizes None = false
has_count sizes (Some n) = has sizes (pos n)

-- a text ends where its terminator first stands, if it has one
abbrev pub ends_well : Option (List Bool) → List ℕ → Bool
ends_well None cs = true
ends_well (Some end) cs = not (is_some (first_end (octet_numbers end) cs))

-- a text (X.680 clause 41) of a permitted size and of permitted characters
abbrev pub permits_text : (sizes characters : Ranges) → Option (List Bool) → Option (List ℕ) → Bool
permits_text sizes characters end None = false
permits_text sizes characters end (Some cs) = has sizes (pos (length cs)) && (list_all (λ c. has characters (pos c)) cs && ends_well end cs)

-- Whether a type permits a value that stands in a module. A literal of bits stands for an OCTET STRING with the fewest zeros behind it that make whole octets
-- (X.680 clause 23), and never for octets that contain a type. The other types have no values that are written so.
abbrev pub permits : World → Site → ℕ → AsnValue → Class → Bool
permits w s k v class.Boolean = is_truth (value_in w k v)
permits w s k v class.Null = is_null_value (value_in w k v)
permits w s k v class.Integer = is_left (numbers_at w s) (number_in w (named_of (base_of s)) k v)
permits w s k v class.Enumerated = is_item_of (base_of s) v
permits w s k v class.Octets = not (is_some (content_of s.chain)) && has_count (sizes_at w s) (option_map octets (bits_of (value_in w k v)))
permits w s k v class.Bits = has_count (sizes_at w s) (bits_of (value_in w k v))
permits w s k v class.Text = permits_text (sizes_at w s) (characters_at w s) (ended_by s) (text_in w k v)
permits w s k v _ = false

-- what isn't permitted, or stands in no SEQUENCE
abbrev pub is_refused : World → Site → Option AsnValue → Option ℕ → Bool
is_refused w s None k = false
is_refused w s (Some v) None = true
is_refused w s (Some v) (Some k) = not (permits w s k v (class_of s))

unfoldable pub bad_default : World → Site → Bool
bad_default w s = is_refused w s (value_at s.position) (owner_in s.scope.frames)
