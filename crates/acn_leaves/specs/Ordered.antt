-- The items of an enumeration in the order of their numbers. (X.691, 14.1: an index is the place of an item in ascending order of the numbers of
-- X.680, 20.3.)
use Rattle.std.specs.Prelude.{ℤ, int_le, List, [], ◌∷◌, map, Option, cond}
use Rattle.std.specs.List.{zip}
use Rattle.acn_asn_syntax.specs.declared.types.Item.{Item}
use Rattle.acn_acn_syntax.specs.Mirror.{Field}
use Rattle.acn_written.specs.Items.{Numbered, item_numbers}
use Rattle.acn_written.specs.Numbers.{values_of}

module _ {X : Type 0} (key : X → ℤ) where
  abbrev pub put : X → List X → List X
  put i [] = i ∷ []
  put i (j ∷ js) = cond (int_le (key i) (key j)) (i ∷ j ∷ js) (j ∷ put i js)

  -- ascending by their numbers, those with one number as they stood
  abbrev pub ascending : List X → List X
  ascending [] = []
  ascending (i ∷ is) = put i (ascending is)

-- an item with the number that is written for it, behind its number in ASN.1
abbrev pub Ranked : Type 0
Ranked = ℤ × Numbered

abbrev pub rank : Ranked → ℤ
rank r = r.0

-- each number in ASN.1 with the item and the number that `encode-values` writes for it
abbrev pub ranked : List Item → Option (List Field) → List Ranked
ranked items braces = zip (map (λ (i : Numbered). i.1) (item_numbers items)) (values_of items braces)

unfoldable pub items_in_order : List Item → Option (List Field) → List Numbered
items_in_order items braces = map (λ (r : Ranked). r.1) (ascending rank (ranked items braces))
