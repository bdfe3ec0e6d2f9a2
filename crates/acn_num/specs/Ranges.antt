-- Sets of whole numbers as ranges in ascending order.
use Rattle.std.specs.Prelude.{◌≡◌, ℕ, suc, nat_abs, int_le, int_lt, IsTrue, ◌+◌, ◌-◌, ◌<◌, Bool, true, false, not, ◌&&◌, ◌||◌, if◌then◌else◌, nat_lt, ℤ, pos, negsuc, ◌≤ℤ◌, ◌<ℤ◌, ◌+ℤ◌, ◌-ℤ◌, List, [], ◌∷◌, ◌++◌, Option, Some, None}
use Rattle.std.specs.Int.{int_max, int_min}

abbrev pub Ranges : Type 0
Ranges = List (ℤ × ℤ)

-- the two ends, which stand for "without bound"
abbrev pub bottom : ℤ
bottom = negsuc 9223372036854775808

abbrev pub top : ℤ
top = pos 18446744073709551616

abbrev pub is_in : ℤ → ℤ × ℤ → Bool
is_in x r = int_le r.0 x && int_le x r.1

-- whether the number is in the set
abbrev pub has : Ranges → ℤ → Bool
has [] x = false
has (r ∷ rest) x = is_in x r || has rest x

abbrev pub In : Ranges → ℤ → Type 0
In rs x = IsTrue (has rs x)

-- ascending above b and up to the top, none empty, and no two overlap or touch
abbrev pub Above : ℤ → Ranges → Type 0
Above b [] = Unit {0}
Above b (r ∷ rest) = (b <ℤ r.0) × (r.0 ≤ℤ r.1) × (r.1 ≤ℤ top) × Above (r.1 +ℤ pos 1) rest

abbrev pub AreRanges : Ranges → Type 0
AreRanges s = Above (bottom -ℤ pos 1) s

-- one range, or none where its ends are out of order
abbrev pub some_range : ℤ → ℤ → Ranges
some_range low high = if int_le low high then (low, high) ∷ [] else []

-- the numbers of both ranges
abbrev pub piece : ℤ × ℤ → ℤ × ℤ → Ranges
piece r s = some_range (int_max r.0 s.0) (int_min r.1 s.1)

abbrev pub clip : ℤ × ℤ → Ranges → Ranges
clip r [] = []
clip r (s ∷ rest) = piece r s ++ clip r rest

abbrev pub meet : Ranges → Ranges → Ranges
meet [] s = []
meet (r ∷ rest) s = clip r s ++ meet rest s

-- the numbers above b and below l
abbrev pub gap : ℤ → ℤ → Ranges
gap b l = some_range (b +ℤ pos 1) (l -ℤ pos 1)

abbrev pub outside_from : ℤ → Ranges → Ranges
outside_from b [] = gap b (top +ℤ pos 1)
outside_from b (r ∷ rest) = gap b r.0 ++ outside_from r.1 rest

unfoldable pub outside : Ranges → Ranges
outside s = outside_from (bottom -ℤ pos 1) s

-- not empty, and in the ends
pub record IsRange (r : ℤ × ℤ) : Type 0 where
  pub low : bottom ≤ℤ r.0
  pub order : r.0 ≤ℤ r.1
  pub high : r.1 ≤ℤ top

unfoldable pub except : Ranges → Ranges → Ranges
except a b = meet a (outside b)

unfoldable pub union : Ranges → Ranges → Ranges
union a b = outside (meet (outside a) (outside b))

-- the least number, and the greatest
abbrev pub least : Ranges → Option ℤ
least [] = None
least (r ∷ rest) = Some r.0

abbrev pub greatest : Ranges → Option ℤ
greatest [] = None
greatest (r ∷ []) = Some r.1
greatest (r ∷ q ∷ rest) = greatest (q ∷ rest)

-- how far apart two numbers are
abbrev pub distance : (low high : ℤ) → ℕ
distance low high = nat_abs (high -ℤ low)

-- how many numbers a range has, and ranges that share none
abbrev pub size_of : ℤ × ℤ → ℕ
size_of r = suc (distance r.0 r.1)

abbrev pub count : Ranges → ℕ
count [] = 0
count (r ∷ rest) = size_of r + count rest

-- the number at place n from the least
abbrev pub nth : Ranges → ℕ → Option ℤ
nth [] n = None
nth (r ∷ rest) n = if nat_lt n (size_of r) then Some (r.0 +ℤ pos n) else nth rest (n - size_of r)

-- which numbers a set holds
abbrev pub IsUnion : Ranges → Ranges → Ranges → Type 0
IsUnion a b s = (x : ℤ) → has s x ≡ (has a x || has b x)

abbrev pub IsMeet : Ranges → Ranges → Ranges → Type 0
IsMeet a b s = (x : ℤ) → has s x ≡ (has a x && has b x)

abbrev pub IsExcept : Ranges → Ranges → Ranges → Type 0
IsExcept a b s = (x : ℤ) → has s x ≡ (has a x && not (has b x))

-- a number is among these
abbrev pub among : List ℤ → ℤ → Bool
among [] x = false
among (y ∷ ys) x = (int_le y x && int_le x y) || among ys x

-- the least number of the set that isn't among these
pub record IsLeastExcept (s : Ranges) (avoided : List ℤ) (x : ℤ) : Type 0 where
  pub member : has s x ≡ true
  pub free : among avoided x ≡ false
  pub least : (y : ℤ) → has s y ≡ true → among avoided y ≡ false → x ≤ℤ y

-- a law: two sets with the same numbers are the same
abbrev pub SameNumbersSameSet : Type 0
SameNumbersSameSet = (s t : Ranges) → AreRanges s → AreRanges t → ((x : ℤ) → has s x ≡ has t x) → s ≡ t

-- each number of a set stands at a place below the count
abbrev pub EachHasAPlace : Type 0
EachHasAPlace = (s : Ranges) (x : ℤ) → AreRanges s → has s x ≡ true → (n : ℕ) × (n < count s) × (nth s n ≡ Some x)

-- and the numbers are in the set, and rise with their places
abbrev pub NumbersRise : Type 0
NumbersRise = (s : Ranges) (m n : ℕ) (x y : ℤ) → AreRanges s → m < n → nth s m ≡ Some x → nth s n ≡ Some y → (x <ℤ y) × (has s x ≡ true) × (has s y ≡ true)

-- The same as tests, of a list of ranges in any order.

abbrev pub are_ranges_above : ℤ → Ranges → Bool
are_ranges_above bound [] = true
are_ranges_above bound (r ∷ rs) = int_lt bound r.0 && (int_le r.0 r.1 && are_ranges_above (r.1 +ℤ pos 1) rs)

-- none empty, ascending, and no two overlap or touch
abbrev pub are_ranges : Ranges → Bool
are_ranges [] = true
are_ranges (r ∷ rs) = int_le r.0 r.1 && are_ranges_above (r.1 +ℤ pos 1) rs

-- every number of the ranges lies from low to high
abbrev pub all_within : (low high : ℤ) → Ranges → Bool
all_within low high [] = true
all_within low high (r ∷ rs) = int_le low r.0 && (int_le r.1 high && all_within low high rs)
