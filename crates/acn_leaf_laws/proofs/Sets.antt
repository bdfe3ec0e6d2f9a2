-- Tests and ends of sets that are made of ranges in order.
use Rattle.std.proofs.Common.{◌≡◌, ℕ, ◌+◌, Bool, true, false, ◌&&◌, [], ◌∷◌, Option, Some, None, refl, sym, ap, subst, ◌∙◌, ℤ, pos, ◌+ℤ◌, arith}
use Rattle.std.specs.Prelude.{◌-ℤ◌, ◌≤ℤ◌, ◌<ℤ◌, int_le, int_lt, if◌then◌else◌}
use Rattle.std.specs.Int.{int_min, int_max}
use Rattle.std.proofs.lemmas.Bool.{and_parts, and_from, or_left, or_right}
use Rattle.std.proofs.lemmas.Int.{ints, clamps}
use Rattle.acn_num.specs.Ranges.{Ranges, has, Above, AreRanges, some_range, meet, bottom, top, least, greatest, size_of, count, are_ranges, are_ranges_above, all_within}
use Rattle.acn_num.proofs.Members.{above_weaker, has_meet}
use Rattle.acn_num.proofs.Order.{meet_above}
use Rattle.acn_codings.specs.Items.{or_zero}
use Rattle.acn_constraint.specs.Constraints.{starts_negative}
use Rattle.acn_grammar.specs.Images.{ends, ends_from}
use Rattle.acn_grammar.proofs.RangeEnds.{first_in, from_least, to_greatest}
use Rattle.acn_grammar.proofs.WholeTests.{either, le_fact, le_test, lt_test, le_self, ge_fact}
use Rattle.acn_grammar.proofs.Within.{between}

pub le_trans : (a b c : ℤ) → a ≤ℤ b → b ≤ℤ c → a ≤ℤ c
le_trans a b c h k = omega (arith, ints, h, k)

-- ---- the tests of order

above_test : (b : ℤ) (s : Ranges) → Above b s → are_ranges_above b s ≡ true
above_test b [] h = refl
above_test b (r ∷ s) h =
    and_from (int_lt b r.0) (int_le r.0 r.1 && are_ranges_above (r.1 +ℤ pos 1) s) (lt_test b r.0 h.0)
    (and_from (int_le r.0 r.1) (are_ranges_above (r.1 +ℤ pos 1) s) (le_test r.0 r.1 h.1) (above_test (r.1 +ℤ pos 1) s h.3))

pub in_order : (s : Ranges) → AreRanges s → are_ranges s ≡ true
in_order [] h = refl
in_order (r ∷ s) h = and_from (int_le r.0 r.1) (are_ranges_above (r.1 +ℤ pos 1) s) (le_test r.0 r.1 h.1) (above_test (r.1 +ℤ pos 1) s h.3)

-- ---- members

pub one_range : (low high : ℤ) → bottom ≤ℤ low → low ≤ℤ high → high ≤ℤ top → AreRanges ((low, high) ∷ [])
one_range low high l o h = (omega (arith, ints, l), o, h, tt)

pub in_one : (low high x : ℤ) → has ((low, high) ∷ []) x ≡ true → (low ≤ℤ x) × (x ≤ℤ high)
in_one low high x h = either {F = (low ≤ℤ x) × (x ≤ℤ high)} (int_le low x && int_le x high) false h (between low high x) (λ o. cc)

pub one_has : (low high x : ℤ) → low ≤ℤ x → x ≤ℤ high → has ((low, high) ∷ []) x ≡ true
one_has low high x l h = or_left (int_le low x && int_le x high) false (and_from (int_le low x) (int_le x high) (le_test low x l) (le_test x high h))

pub range_has : (low high x : ℤ) → low ≤ℤ x → x ≤ℤ high → has (some_range low high) x ≡ true
range_has low high x l h = ap (λ (t : Bool). has (if t then (low, high) ∷ [] else []) x) (le_test low high (omega (arith, ints, l, h))) ∙ one_has low high x l h

pub in_both : (a b : Ranges) (x : ℤ) → has (meet a b) x ≡ true → (has a x ≡ true) × (has b x ≡ true)
in_both a b x h = and_parts (has a x) (has b x) (sym (has_meet a b x) ∙ h)

pub both_have : (a b : Ranges) (x : ℤ) → has a x ≡ true → has b x ≡ true → has (meet a b) x ≡ true
both_have a b x h k = has_meet a b x ∙ and_from (has a x) (has b x) h k

pub none_in : (s : Ranges) → least s ≡ None → (x : ℤ) → has s x ≡ false
none_in [] h x = refl
none_in (r ∷ s) h x = cc

pub meet_ranges : (a b : Ranges) → AreRanges a → AreRanges b → AreRanges (meet a b)
meet_ranges a b h k = meet_above (bottom -ℤ pos 1) (bottom -ℤ pos 1) a b h k

last_in : (r : ℤ × ℤ) (s : Ranges) → r.0 ≤ℤ r.1 → has (r ∷ s) r.1 ≡ true
last_in r s h = or_left (int_le r.0 r.1 && int_le r.1 r.1) (has s r.1) (and_from (int_le r.0 r.1) (int_le r.1 r.1) (le_test r.0 r.1 h) (le_self r.1))

pub first_has : (r : ℤ × ℤ) (s : Ranges) → AreRanges (r ∷ s) → has (r ∷ s) r.0 ≡ true
first_has r s h = first_in r s h.1

pub least_below : (s : Ranges) (x z : ℤ) → AreRanges s → has s x ≡ true → least s ≡ Some z → z ≤ℤ x
least_below s x z h m e = from_least (bottom -ℤ pos 1) s x z (above_test (bottom -ℤ pos 1) s h) m e

pub greatest_above : (s : Ranges) (x z : ℤ) → AreRanges s → has s x ≡ true → greatest s ≡ Some z → x ≤ℤ z
greatest_above s x z h m e = to_greatest (bottom -ℤ pos 1) s x z (above_test (bottom -ℤ pos 1) s h) m e

greatest_from : (b : ℤ) (s : Ranges) (z : ℤ) → Above b s → greatest s ≡ Some z → has s z ≡ true
greatest_from b [] z h e = cc
greatest_from b (r ∷ []) z h e = let i : r.1 ≡ z = cc in subst (λ (y : ℤ). has (r ∷ []) y ≡ true) i (last_in r [] h.1)
greatest_from b (r ∷ q ∷ s) z h e = or_right (int_le r.0 z && int_le z r.1) (has (q ∷ s) z) (greatest_from (r.1 +ℤ pos 1) (q ∷ s) z h.3 e)

pub greatest_has : (s : Ranges) (z : ℤ) → AreRanges s → greatest s ≡ Some z → has s z ≡ true
greatest_has s z h e = greatest_from (bottom -ℤ pos 1) s z h e

-- a set that isn't empty has a greatest number
pub some_greatest : (r : ℤ × ℤ) (s : Ranges) → greatest (r ∷ s) ≡ Some (or_zero (greatest (r ∷ s)))
some_greatest r [] = refl
some_greatest r (q ∷ s) = some_greatest q s

-- a set that begins at 0 or above has no number below
pub from_zero : (s : Ranges) → AreRanges s → starts_negative (least s) ≡ false → (x : ℤ) → has s x ≡ true → pos 0 ≤ℤ x
from_zero [] h e x m = cc
from_zero (r ∷ s) h e x m =
    let low = ge_fact r.0 (pos 0) e in
    let up = least_below (r ∷ s) x r.0 h m refl in
    omega (arith, ints, low, up)

-- ---- all numbers lie between two

within_above : (b low high : ℤ) (s : Ranges) → Above b s → ((x : ℤ) → has s x ≡ true → (low ≤ℤ x) × (x ≤ℤ high)) → all_within low high s ≡ true
within_above b low high [] h f = refl
within_above b low high (r ∷ s) h f =
    and_from (int_le low r.0) (int_le r.1 high && all_within low high s) (le_test low r.0 (f r.0 (first_in r s h.1)).0)
    (and_from (int_le r.1 high) (all_within low high s) (le_test r.1 high (f r.1 (last_in r s h.1)).1)
    (within_above (r.1 +ℤ pos 1) low high s h.3 (λ x m. f x (or_right (int_le r.0 x && int_le x r.1) (has s x) m))))

pub within : (low high : ℤ) (s : Ranges) → AreRanges s → ((x : ℤ) → has s x ≡ true → (low ≤ℤ x) × (x ≤ℤ high)) → all_within low high s ≡ true
within low high s h f = within_above (bottom -ℤ pos 1) low high s h f

-- ---- ends

lesser_is : (a b : ℤ) → a ≤ℤ b → int_min a b ≡ a
lesser_is a b h = omega (arith, ints, clamps)

greater_is : (a b : ℤ) → a ≤ℤ b → int_max a b ≡ b
greater_is a b h = omega (arith, ints, clamps)

same_ends : (a b c d : ℤ) → a ≡ b → c ≡ d → ◌≡◌ {A = ℤ × ℤ} (a, c) (b, d)
same_ends a b c d e f = cc

by_high : (x y high : ℤ) (s : Ranges) → greatest ((x, high) ∷ s) ≡ greatest ((y, high) ∷ s)
by_high x y high [] = refl
by_high x y high (q ∷ s) = refl

ends_above : (low high : ℤ) (s : Ranges) → low ≤ℤ high → Above (high +ℤ pos 1) s → ends_from (low, high) s ≡ (low, or_zero (greatest ((low, high) ∷ s)))
ends_above low high [] o h = refl
ends_above low high (r ∷ s) o h =
    let a = h.0 in
    let b = h.1 in
    ap (λ (e : ℤ × ℤ). ends_from e s) (same_ends (int_min low r.0) low (int_max high r.1) r.1 (lesser_is low r.0 (omega (arith, ints, o, a))) (greater_is high r.1 (omega (arith, ints, a, b))))
    ∙ (ends_above low r.1 s (omega (arith, ints, o, a, b)) h.3 ∙ ap (λ (g : Option ℤ). (low, or_zero g)) (by_high low r.0 r.1 s))

-- those of a set are its least and its greatest number
pub ends_are : (r : ℤ × ℤ) (s : Ranges) → AreRanges (r ∷ s) → ends (r ∷ s) ≡ Some (r.0, or_zero (greatest (r ∷ s)))
ends_are r s h = ap (λ (e : ℤ × ℤ). Some e) (ends_above r.0 r.1 s h.1 h.3)

both_ends : (low high : ℤ) (e : ℤ × ℤ) (rs : Ranges) → low ≤ℤ e.0 → e.1 ≤ℤ high → all_within low high rs ≡ true → (low ≤ℤ (ends_from e rs).0) × ((ends_from e rs).1 ≤ℤ high)
both_ends low high e [] l h w = (l, h)
both_ends low high e (r ∷ rs) l h w =
    let a = and_parts (int_le low r.0) (int_le r.1 high && all_within low high rs) w in
    let b = and_parts (int_le r.1 high) (all_within low high rs) a.1 in
    let c = le_fact low r.0 a.0 in
    let d = le_fact r.1 high b.0 in
    both_ends low high (int_min e.0 r.0, int_max e.1 r.1) rs (omega (arith, ints, clamps, l, c)) (omega (arith, ints, clamps, h, d)) b.1

-- the ends of ranges in any order lie where all of them lie
pub ends_within : (low high : ℤ) (r : ℤ × ℤ) (rs : Ranges) → all_within low high (r ∷ rs) ≡ true → (low ≤ℤ (ends_from r rs).0) × ((ends_from r rs).1 ≤ℤ high)
ends_within low high r rs w =
    let a = and_parts (int_le low r.0) (int_le r.1 high && all_within low high rs) w in
    let b = and_parts (int_le r.1 high) (all_within low high rs) a.1 in
    both_ends low high r rs (le_fact low r.0 a.0) (le_fact r.1 high b.0) b.1

-- ---- counts

size_below : (b high : ℤ) (r : ℤ × ℤ) (n : ℕ) → b <ℤ r.0 → r.0 ≤ℤ r.1 → pos n ≤ℤ (high -ℤ r.1) → pos (size_of r + n) ≤ℤ (high -ℤ b)
size_below b high r n low order rest = omega (arith, ints, low, order, rest)

-- a set above a number and up to another has no more numbers than there are
pub few : (b high : ℤ) (s : Ranges) → Above b s → ((x : ℤ) → has s x ≡ true → x ≤ℤ high) → b ≤ℤ high → pos (count s) ≤ℤ (high -ℤ b)
few b high [] h f o = omega (arith, ints, o)
few b high (r ∷ s) h f o =
    size_below b high r (count s) h.0 h.1
    (few r.1 high s (above_weaker (r.1 +ℤ pos 1) r.1 s h.3 (omega (arith, ints))) (λ x m. f x (or_right (int_le r.0 x && int_le x r.1) (has s x) m)) (f r.1 (last_in r s h.1)))
