-- The items of an enumeration with their numbers. (X.680, 20.3; that braces in ACN give each item another number is this profile's own.)
use Rattle.std.specs.Prelude.{ℤ, List, map, filter_map, Option, Some, None}
use Rattle.std.specs.List.{zip}
use Rattle.acn_num.specs.Names.{Name}
use Rattle.acn_asn_syntax.specs.declared.types.Item.{Item}
use Rattle.acn_acn_syntax.specs.Mirror.{Field, plain, inserted, number}
use Rattle.acn_codings.specs.Items.{numbers_of}
use Rattle.acn_codings.specs.Tables.{number_of}

-- a name with its number
abbrev pub Numbered : Type 0
Numbered = Name × ℤ

-- the items with their numbers in ASN.1, in the order of the text
abbrev pub item_numbers : List Item → List Numbered
item_numbers items = zip (map (λ (i : Item). i.name) items) (numbers_of items)

abbrev pub number_in : Field → Option Numbered
number_in (number name n) = Some (name, number_of n)
number_in (plain name arguments attributes bs) = None
number_in (inserted name k attributes) = None

-- the items with the numbers that braces in ACN give them
abbrev pub field_numbers : List Field → List Numbered
field_numbers fs = filter_map number_in fs
