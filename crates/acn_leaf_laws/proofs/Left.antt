-- What is left of the numbers of an INTEGER for its coding, where none is lost.
use Rattle.std.proofs.Common.{◌≡◌, Bool, true, false, not, ◌&&◌, [], ◌∷◌, None, refl, sym, ap, ◌∙◌, ℤ, pos, arith}
use Rattle.std.specs.Prelude.{◌≤ℤ◌, ◌<ℤ◌}
use Rattle.std.proofs.lemmas.Bool.{true≢false}
use Rattle.std.proofs.lemmas.Int.{ints}
use Rattle.acn_num.specs.Ranges.{Ranges, has, AreRanges, some_range, meet, except, bottom, top, least, greatest}
use Rattle.acn_num.proofs.Members.{has_except, in_low}
use Rattle.acn_codings.specs.Left.{end_or, left_by, left_of, lost_from, least_lost}
use Rattle.acn_codings.proofs.Apart.{greatest_within, least_within}
use Rattle.acn_codings.proofs.FineFront.{range_ranges, in_range}
use Rattle.acn_constraint.specs.Constraints.{Opened, is_empty, starts_negative}
use Rattle.acn_grammar.specs.Leaves.{begins_below_zero}
use Rattle.acn_grammar.proofs.WholeTests.{lt_fact, lt_test}
use Rattle.acn_leaf_laws.proofs.Constrained.{IsBounded}
use Rattle.acn_leaf_laws.proofs.Sets.{none_in, meet_ranges, le_trans, range_has, in_both, both_have, first_has, least_below}

-- ---- none is lost

not_outside : (a b : Bool) → (a && not b) ≡ false → a ≡ true → b ≡ true
not_outside true true h e = refl
not_outside true false h e = cc
not_outside false b h e = cc

except_has : (a b : Ranges) (x : ℤ) → AreRanges a → AreRanges b → has (except a b) x ≡ (has a x && not (has b x))
unfolding except
except_has a b x h k = has_except a b x h k

some_left : (before left can : Ranges) → is_empty before ≡ false → lost_from before left can ≡ None → is_empty left ≡ false
some_left [] left can some h = cc
some_left (b ∷ before) [] can some h = cc
some_left (b ∷ before) (r ∷ left) can some h = refl

all_written : (before left can : Ranges) → AreRanges left → AreRanges can → lost_from before left can ≡ None → (x : ℤ) → has left x ≡ true → has can x ≡ true
all_written before [] can h k lost x m = cc
all_written before (r ∷ left) can h k lost x m =
    not_outside (has (r ∷ left) x) (has can x) (sym (except_has (r ∷ left) can x h k) ∙ none_in (except (r ∷ left) can) lost x) m

-- ---- the sets that may be left

record IsPart (open_below : Bool) (s left : Ranges) : Type 0 where
  ranges : AreRanges left
  inside : (x : ℤ) → has left x ≡ true → has s x ≡ true
  sign : open_below ≡ false → is_empty left ≡ false → starts_negative (least s) ≡ true → begins_below_zero left ≡ true

begins : (s : Ranges) → starts_negative (least s) ≡ true → begins_below_zero s ≡ true
begins [] h = cc
begins (r ∷ s) h = h

less : (a b : ℤ) → a ≤ℤ b → b <ℤ pos 0 → a <ℤ pos 0
less a b i j = omega (arith, ints, i, j)

-- a set of which only what lies above a number is lost begins as it did
begins_still : (s : Ranges) (high : ℤ) → AreRanges s → high ≤ℤ top → is_empty (meet s (some_range bottom high)) ≡ false → starts_negative (least s) ≡ true → begins_below_zero (meet s (some_range bottom high)) ≡ true
begins_still [] high h up some below = cc
begins_still (p ∷ s) high h up some below =
    by (meet (p ∷ s) (some_range bottom high)) refl some (meet_ranges (p ∷ s) (some_range bottom high) h (range_ranges bottom high (omega (arith, ints)) up))
  where
    by : (left : Ranges) → meet (p ∷ s) (some_range bottom high) ≡ left → is_empty left ≡ false → AreRanges left → begins_below_zero left ≡ true
    by [] e n o = cc
    by (r ∷ left) e n o =
        let there : has (meet (p ∷ s) (some_range bottom high)) r.0 ≡ true = ap (λ (z : Ranges). has z r.0) e ∙ first_has r left o in
        let both = in_both (p ∷ s) (some_range bottom high) r.0 there in
        let one = least_below (p ∷ s) r.0 p.0 h both.0 refl in
        let two = (in_range bottom high r.0 both.1).1 in
        let first = first_has p s h in
        let kept = both_have (p ∷ s) (some_range bottom high) p.0 first (range_has bottom high p.0 (in_low (p ∷ s) p.0 h first) (le_trans p.0 r.0 high one two)) in
        let three = least_below (r ∷ left) p.0 r.0 o (ap (λ (z : Ranges). has z p.0) (sym e) ∙ kept) refl in
        lt_test r.0 (pos 0) (less r.0 p.0 three (lt_fact p.0 (pos 0) below))

part : (below above : Bool) (s can : Ranges) → AreRanges s → AreRanges can → IsPart below s (left_by below above s can)
part true true s can h k = record { ranges = meet_ranges s can h k; inside = λ x m. (in_both s can x m).0; sign = λ e n m. absurd (true≢false e) }
part false true s can h k =
    let high = end_or bottom (greatest can) in
    let up = (greatest_within can k).1 in
    record {
      ranges = meet_ranges s (some_range bottom high) h (range_ranges bottom high (omega (arith, ints)) up);
      inside = λ x m. (in_both s (some_range bottom high) x m).0;
      sign = λ e n m. begins_still s high h up n m;
    }
part true false s can h k =
    let low = end_or top (least can) in
    record {
      ranges = meet_ranges s (some_range low top) h (range_ranges low top (least_within can k).0 (omega (arith, ints)));
      inside = λ x m. (in_both s (some_range low top) x m).0;
      sign = λ e n m. absurd (true≢false e);
    }
part false false s can h k = record { ranges = h; inside = λ x m. m; sign = λ e n m. begins s m }

-- ---- all of it

pub record IsLeft (set : Opened) (can left : Ranges) : Type 0 where
  pub ranges : AreRanges left
  pub some : is_empty left ≡ false
  pub inside : (x : ℤ) → has left x ≡ true → has set.numbers x ≡ true
  pub written : (x : ℤ) → has left x ≡ true → has can x ≡ true
  pub sign : set.open_below ≡ false → starts_negative (least set.numbers) ≡ true → begins_below_zero left ≡ true

pub left_is : (set : Opened) (can : Ranges) → IsBounded set → AreRanges can → least_lost set can ≡ None → IsLeft set can (left_of set can)
unfolding least_lost left_of
left_is set can b k lost =
    let p = part set.open_below set.open_above set.numbers can b.ranges k in
    let left = left_by set.open_below set.open_above set.numbers can in
    let some = some_left set.numbers left can b.some lost in
    record {
      ranges = p.ranges;
      some = some;
      inside = p.inside;
      written = all_written set.numbers left can p.ranges k lost;
      sign = λ e m. p.sign e some m;
    }
