-- The least and the greatest number of the items of an enumeration, and the least number that can't be written.
use Rattle.std.proofs.Common.{◌≡◌, Bool, true, false, not, cond, ◌&&◌, ◌||◌, refl, ap, ◌∙◌, ℤ, pos, List, [], ◌∷◌, Option, Some, None, arith}
use Rattle.std.specs.Prelude.{◌-ℤ◌, ◌≤ℤ◌, int_le, filter}
use Rattle.std.proofs.lemmas.Bool.{and_from, and_parts}
use Rattle.std.proofs.lemmas.Int.{ints}
use Rattle.acn_num.specs.Ranges.{Ranges, has, AreRanges, least, greatest, among, bottom, top, some_range, meet, except, outside}
use Rattle.acn_num.proofs.Members.{true_le, le_true, or_assoc, has_except}
use Rattle.acn_num.proofs.Order.{meet_above, outside_above}
use Rattle.acn_codings.proofs.Apart.{greatest_within, least_within}
use Rattle.acn_codings.proofs.FineFront.{range_ranges}
use Rattle.acn_codings.specs.Left.{left_by, lost_from, end_or}
use Rattle.acn_written.specs.Items.{Numbered}
use Rattle.acn_leaves.specs.Leaves.{greater_of, greatest_behind, greatest_of}
use Rattle.acn_written.specs.Numbers.{least_behind, least_of}
use Rattle.acn_codings.specs.Tables.{lesser}
use Rattle.acn_fold_laws.specs.Ends.{IsLeastThat, IsGreatestThat, IsLeast, IsGreatest}
use Rattle.acn_fold_laws.specs.Numbers.{numbers_in, is_lost}
use Rattle.acn_fold_laws.proofs.Ends.{least_same, greatest_same, least_or, greatest_or}
use Rattle.acn_fold_laws.proofs.Sets.{least_in}

-- ---- items

abbrev is_one : ℤ → ℤ → Bool
is_one y x = int_le y x && int_le x y

self_le : (x : ℤ) → int_le x x ≡ true
self_le x = le_true x x (omega (arith, ints))

one_self : (y : ℤ) → is_one y y ≡ true
one_self y = and_from (int_le y y) (int_le y y) (self_le y) (self_le y)

one_least : (y : ℤ) → IsLeastThat (is_one y) y
one_least y = record { passes = one_self y; least = λ z t. true_le y z (and_parts (int_le y z) (int_le z y) t).0 }

one_greatest : (y : ℤ) → IsGreatestThat (is_one y) y
one_greatest y = record { passes = one_self y; greatest = λ z t. true_le z y (and_parts (int_le y z) (int_le z y) t).1 }

or_none : (a : Bool) → a ≡ (a || false)
or_none true = refl
or_none false = refl

turned : (a b c : Bool) → ((a || b) || c) ≡ (b || (a || c))
turned true true c = refl
turned true false c = refl
turned false b c = refl

least_from : (p : ℤ → Bool) (best : Option ℤ) (is : List Numbered) → IsLeast p best → IsLeast (λ x. p x || among (numbers_in is) x) (least_behind best is)
least_from p best [] h = least_same p (λ x. p x || false) best (λ x. or_none (p x)) h
least_from p best (i ∷ is) h =
    least_same (λ x. (is_one i.1 x || p x) || among (numbers_in is) x) (λ x. p x || (is_one i.1 x || among (numbers_in is) x)) (least_behind (lesser (Some i.1) best) is)
    (λ x. turned (is_one i.1 x) (p x) (among (numbers_in is) x))
    (least_from (λ x. is_one i.1 x || p x) (lesser (Some i.1) best) is (least_or (is_one i.1) p (Some i.1) best (one_least i.1) h))

pub least_item : (is : List Numbered) → IsLeast (among (numbers_in is)) (least_of is)
least_item is = least_from (λ x. false) None is (λ y. refl)

greatest_from : (p : ℤ → Bool) (best : Option ℤ) (is : List Numbered) → IsGreatest p best → IsGreatest (λ x. p x || among (numbers_in is) x) (greatest_behind best is)
greatest_from p best [] h = greatest_same p (λ x. p x || false) best (λ x. or_none (p x)) h
greatest_from p best (i ∷ is) h =
    greatest_same (λ x. (p x || is_one i.1 x) || among (numbers_in is) x) (λ x. p x || (is_one i.1 x || among (numbers_in is) x)) (greatest_behind (Some (greater_of best i.1)) is)
    (λ x. or_assoc (p x) (is_one i.1 x) (among (numbers_in is) x))
    (greatest_from (λ x. p x || is_one i.1 x) (Some (greater_of best i.1)) is (greatest_or p (is_one i.1) best i.1 h (one_greatest i.1)))

pub greatest_item : (is : List Numbered) → IsGreatest (among (numbers_in is)) (greatest_of is)
greatest_item is = greatest_from (λ x. false) None is (λ y. refl)

-- ---- items that can't be written

same_one : (y x : ℤ) → is_one y x ≡ true → x ≡ y
same_one y x h = (let a = true_le y x (and_parts (int_le y x) (int_le x y) h).0 in let b = true_le x y (and_parts (int_le y x) (int_le x y) h).1 in omega (arith, ints, a, b))

kept_one : (a o v : Bool) → (o ≡ true → v ≡ false) → (o || (a && not v)) ≡ ((o || a) && not v)
kept_one a true v h = (let e = h refl in rw e refl)
kept_one a false v h = refl

left_out : (a o v : Bool) → (o ≡ true → v ≡ true) → (a && not v) ≡ ((o || a) && not v)
left_out true true v h = refl
left_out false true v h = (let e = h refl in rw e refl)
left_out a false v h = refl

-- the numbers of the items that don't pass a test
among_lost : (t : ℤ → Bool) (is : List Numbered) (x : ℤ) → among (numbers_in (filter (λ (i : Numbered). not (t i.1)) is)) x ≡ (among (numbers_in is) x && not (t x))
among_lost t [] x = refl
among_lost t (i ∷ is) x = by (t i.1) refl (among_lost t is x)
  where
    by : (u : Bool) → t i.1 ≡ u → among (numbers_in (filter (λ (j : Numbered). not (t j.1)) is)) x ≡ (among (numbers_in is) x && not (t x))
        → among (numbers_in (cond (not u) (i ∷ filter (λ (j : Numbered). not (t j.1)) is) (filter (λ (j : Numbered). not (t j.1)) is))) x ≡ ((is_one i.1 x || among (numbers_in is) x) && not (t x))
    by true e h = h ∙ left_out (among (numbers_in is) x) (is_one i.1 x) (t x) (λ o. ap t (same_one i.1 x o) ∙ e)
    by false e h = ap (λ b. is_one i.1 x || b) h ∙ kept_one (among (numbers_in is) x) (is_one i.1 x) (t x) (λ o. ap t (same_one i.1 x o) ∙ e)

pub lost_item : (t : ℤ → Bool) (is : List Numbered) → IsLeast (λ x. among (numbers_in is) x && not (t x)) (least_of (filter (λ (i : Numbered). not (t i.1)) is))
lost_item t is =
    least_same (among (numbers_in (filter (λ (i : Numbered). not (t i.1)) is))) (λ x. among (numbers_in is) x && not (t x)) (least_of (filter (λ (i : Numbered). not (t i.1)) is))
    (among_lost t is) (least_item (filter (λ (i : Numbered). not (t i.1)) is))

-- ---- numbers that can't be written

except_ranges : (a b : Ranges) → AreRanges a → AreRanges b → AreRanges (except a b)
unfolding except outside
except_ranges a b h k = meet_above (bottom -ℤ pos 1) (bottom -ℤ pos 1) a _ h (outside_above (bottom -ℤ pos 1) b k)

except_has : (a b : Ranges) (x : ℤ) → AreRanges a → AreRanges b → has (except a b) x ≡ (has a x && not (has b x))
unfolding except
except_has a b x h k = has_except a b x h k

meet_ranges : (a b : Ranges) → AreRanges a → AreRanges b → AreRanges (meet a b)
meet_ranges a b h k = meet_above (bottom -ℤ pos 1) (bottom -ℤ pos 1) a b h k

ends_order : (bottom ≤ℤ bottom) × (top ≤ℤ top)
ends_order = (omega (arith, ints), omega (arith, ints))

left_ranges : (below above : Bool) (s can : Ranges) → AreRanges s → AreRanges can → AreRanges (left_by below above s can)
left_ranges true true s can h k = meet_ranges s can h k
left_ranges false true s can h k = meet_ranges s (some_range bottom (end_or bottom (greatest can))) h (range_ranges bottom (end_or bottom (greatest can)) ends_order.0 (greatest_within can k).1)
left_ranges true false s can h k = meet_ranges s (some_range (end_or top (least can)) top) h (range_ranges (end_or top (least can)) top (least_within can k).0 ends_order.1)
left_ranges false false s can h k = h

lost_of : (before left can : Ranges) → AreRanges before → AreRanges left → AreRanges can → IsLeast (is_lost before left can) (lost_from before left can)
lost_of before [] can h l k = least_in (bottom -ℤ pos 1) before h
lost_of before (r ∷ left) can h l k =
    least_same (has (except (r ∷ left) can)) (λ x. has (r ∷ left) x && not (has can x)) (least (except (r ∷ left) can)) (λ x. except_has (r ∷ left) can x l k)
    (least_in (bottom -ℤ pos 1) (except (r ∷ left) can) (except_ranges (r ∷ left) can l k))

pub lost_number : (below above : Bool) (before can : Ranges) → AreRanges before → AreRanges can → IsLeast (is_lost before (left_by below above before can) can) (lost_from before (left_by below above before can) can)
lost_number below above before can h k = lost_of before (left_by below above before can) can h (left_ranges below above before can h k) k
