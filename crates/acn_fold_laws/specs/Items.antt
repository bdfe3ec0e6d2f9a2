-- Laws on the items of an enumeration.
use Rattle.std.specs.Prelude.{◌≡◌, ℕ, ◌≤◌, ◌<◌, ◌^◌, ℤ, ◌≤ℤ◌, List, [], ◌∷◌, ◌++◌, filter, length, Option, Some, None}
use Rattle.std.specs.List.{AllByRecursion}
use Rattle.std.specs.Ordering.{int_eq}
use Rattle.acn_num.specs.Names.{Name}
use Rattle.acn_num.specs.Widths.{IsLeastWidth}
use Rattle.acn_enum_values.specs.EnumValues.{twins}
use Rattle.acn_leaves.specs.Ordered.{Ranked, rank, ascending}
use Rattle.acn_leaves.specs.Widths.{least_width}
use Rattle.acn_written.specs.Items.{Numbered}

-- ---- items with one number

-- no two have one number
abbrev pub NumbersDiffer : List Numbered → Type 0
NumbersDiffer is = (x : ℤ) → length (filter (λ (i : Numbered). int_eq x i.1) is) ≤ 1

-- two items with one number, where no two of those before the second have one
pub record AreFirstTwins (is : List Numbered) (names : Name × Name) : Type 0 where
  pub front : List Numbered
  pub one : Numbered
  pub between : List Numbered
  pub other : Numbered
  pub behind : List Numbered
  pub there : is ≡ front ++ one ∷ (between ++ other ∷ behind)
  pub before : NumbersDiffer (front ++ one ∷ between)
  pub same : one.1 ≡ other.1
  pub first : names.0 ≡ one.0
  pub second : names.1 ≡ other.0

-- the names of the first two; none exactly where all numbers differ
abbrev pub AreTwins : List Numbered → Option (Name × Name) → Type 0
AreTwins is None = NumbersDiffer is
AreTwins is (Some names) = AreFirstTwins is names

abbrev pub TwinsAreTheFirst : Type 0
TwinsAreTheFirst = (is : List Numbered) → AreTwins is (twins is)

-- ---- items in the order of their numbers

abbrev pub Ascends : List Ranked → Type 0
Ascends [] = Unit {0}
Ascends (r ∷ rs) = AllByRecursion (λ (q : Ranked). rank r ≤ℤ rank q) rs × Ascends rs

-- ascending, with those of each number as they stood
pub record IsInOrder (rs sorted : List Ranked) : Type 0 where
  pub ascends : Ascends sorted
  pub kept : (x : ℤ) → filter (λ (r : Ranked). int_eq x (rank r)) sorted ≡ filter (λ (r : Ranked). int_eq x (rank r)) rs

abbrev pub AscendingIsInOrder : Type 0
AscendingIsInOrder = (rs : List Ranked) → IsInOrder rs (ascending rank rs)

-- ---- widths

-- the least width in bits that holds a number of 64 bits
abbrev pub LeastWidthIsTheLeast : Type 0
LeastWidthIsTheLeast = (n : ℕ) → n < 2 ^ 64 → IsLeastWidth n (least_width n)
