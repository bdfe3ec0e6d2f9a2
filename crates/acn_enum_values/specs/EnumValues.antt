-- Items of an enumeration that have one number, or that lack one. (X.680, 20.3: the numbers of the items differ. That braces in ACN give each item another
-- number is this profile's own.)
use Rattle.std.specs.Prelude.{Bool, not, ℤ, List, [], ◌∷◌, ◌++◌, find, Option, Some, None, option_map}
use Rattle.std.specs.List.{list_any}
use Rattle.std.specs.Option.{option_or}
use Rattle.std.specs.Ordering.{int_eq}
use Rattle.std.specs.Str.{bytes_eq}
use Rattle.acn_num.specs.Names.{Name}
use Rattle.acn_asn_syntax.specs.Mirror.{AsnBase, enumerated}
use Rattle.acn_asn_syntax.specs.declared.types.Item.{Item}
use Rattle.acn_acn_syntax.specs.Mirror.{Field}
use Rattle.acn_sites.specs.Sites.{Site, base_of}
use Rattle.acn_slots.specs.Slots.{braces_origin, braces_at}
use Rattle.acn_written.specs.Items.{Numbered, item_numbers, field_numbers}

-- the name of the first of them with a number
abbrev pub with_number : List Numbered → ℤ → Option Name
with_number is x = option_map (λ (i : Numbered). i.0) (find (λ (i : Numbered). int_eq x i.1) is)

-- the first that has the number of one before it, behind that one
abbrev pub twins_behind : (before : List Numbered) → List Numbered → Option (Name × Name)
twins_behind before [] = None
twins_behind before (i ∷ is) = option_or (option_map (λ (earlier : Name). (earlier, i.0)) (with_number before i.1)) (twins_behind (before ++ i ∷ []) is)

abbrev pub twins : List Numbered → Option (Name × Name)
twins is = twins_behind [] is

abbrev pub has_number : List Numbered → Name → Bool
has_number given name = list_any (λ (g : Numbered). bytes_eq name g.0) given

abbrev pub lacks : List Numbered → Item → Bool
lacks given i = not (has_number given i.name)

-- the first item that has no number there, twice
abbrev pub lacking : List Numbered → List Item → Option (Name × Name)
lacking given items = option_map (λ (i : Item). (i.name, i.name)) (find (lacks given) items)

abbrev pub braces_fault : List Item → Option (List Field) → Option (Name × Name)
braces_fault items None = None
braces_fault items (Some fs) = option_or (twins (field_numbers fs)) (lacking (field_numbers fs) items)

abbrev pub fault_of : AsnBase → Option (List Field) → Option (Name × Name)
fault_of (enumerated items) bs = option_or (twins (item_numbers items)) (braces_fault items bs)
fault_of _ bs = None

-- ASN.1's numbers before ACN's, and equal numbers before an item that lacks one
unfoldable pub enum_values : Site → Option (Name × Name)
enum_values s = fault_of (base_of s) (braces_at s.used (braces_origin s.chain s.used))
