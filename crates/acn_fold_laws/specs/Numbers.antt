-- Laws on the least and the greatest number of a set and of the items of an enumeration, and on the least number that can't be written.
use Rattle.std.specs.Prelude.{Bool, not, ◌&&◌, ℤ, List, map, if◌then◌else◌}
use Rattle.acn_num.specs.Ranges.{Ranges, has, AreRanges, least, greatest, among}
use Rattle.acn_asn_syntax.specs.declared.types.Item.{Item}
use Rattle.acn_codings.specs.Left.{left_of, least_lost}
use Rattle.acn_codings.specs.declared.coding.Coding.{Coding}
use Rattle.acn_constraint.specs.Constraints.{Opened, is_empty}
use Rattle.acn_leaves.specs.Leaves.{greatest_of}
use Rattle.acn_written.specs.Items.{Numbered}
use Rattle.acn_written.specs.Numbers.{least_of, is_value, valued}
use Rattle.acn_fold_laws.specs.Ends.{IsLeast, IsGreatest}

-- ---- sets

abbrev pub LeastOfASetIsTheLeast : Type 0
LeastOfASetIsTheLeast = (s : Ranges) → AreRanges s → IsLeast (has s) (least s)

abbrev pub GreatestOfASetIsTheGreatest : Type 0
GreatestOfASetIsTheGreatest = (s : Ranges) → AreRanges s → IsGreatest (has s) (greatest s)

-- ---- items

abbrev pub numbers_in : List Numbered → List ℤ
numbers_in is = map (λ (i : Numbered). i.1) is

abbrev pub LeastOfItemsIsTheLeast : Type 0
LeastOfItemsIsTheLeast = (is : List Numbered) → IsLeast (among (numbers_in is)) (least_of is)

abbrev pub GreatestOfItemsIsTheGreatest : Type 0
GreatestOfItemsIsTheGreatest = (is : List Numbered) → IsGreatest (among (numbers_in is)) (greatest_of is)

-- ---- what can't be written

-- a number of an item that isn't one of those that the coding can write, from the least one on
abbrev pub is_lost_item : Coding → List Numbered → ℤ → Bool
is_lost_item c is x = among (numbers_in is) x && not (is_value c (least_of is) x)

abbrev pub LostItemIsTheLeast : Type 0
LostItemIsTheLeast = (items : List Item) (is : List Numbered) (c : Coding) → IsLeast (is_lost_item c is) (valued items is c).lost

-- of the numbers that are left one that can't be written; of a set of which nothing is left, any
abbrev pub is_lost : (before left can : Ranges) → ℤ → Bool
is_lost before left can x = if is_empty left then has before x else (has left x && not (has can x))

abbrev pub LostNumberIsTheLeast : Type 0
LostNumberIsTheLeast = (set : Opened) (can : Ranges) → AreRanges set.numbers → AreRanges can → IsLeast (is_lost set.numbers (left_of set can) can) (least_lost set can)
