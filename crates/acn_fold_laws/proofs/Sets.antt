-- The least and the greatest number of a set.
use Rattle.std.proofs.Common.{◌≡◌, Bool, true, false, refl, sym, ◌∙◌, ℤ, pos, [], ◌∷◌, Option, Some, None, arith}
use Rattle.std.specs.Prelude.{◌≤ℤ◌, ◌<ℤ◌, ◌+ℤ◌, ◌-ℤ◌, int_le}
use Rattle.std.proofs.Common.{inl, inr}
use Rattle.std.proofs.lemmas.Bool.{or_left, or_right, or_cases, and_from, and_parts, true≢false}
use Rattle.std.proofs.lemmas.Int.{ints}
use Rattle.acn_num.specs.Ranges.{Ranges, is_in, has, Above, least, greatest}
use Rattle.acn_num.proofs.Members.{true_le, false_le, le_true, not_below}
use Rattle.acn_fold_laws.specs.Ends.{IsLeast, IsGreatest}

in_range : (r : ℤ × ℤ) (x : ℤ) → r.0 ≤ℤ x → x ≤ℤ r.1 → is_in x r ≡ true
in_range r x h k = and_from (int_le r.0 x) (int_le x r.1) (le_true r.0 x h) (le_true x r.1 k)

le_self : (x : ℤ) → x ≤ℤ x
le_self x = omega (arith, ints)

-- what a set above a number holds lies above it
pub member_above : (b y : ℤ) (s : Ranges) → Above b s → has s y ≡ true → b <ℤ y
member_above b y s h m = by (int_le y b) refl
  where
    by : (t : Bool) → int_le y b ≡ t → b <ℤ y
    by true e = absurd (true≢false (sym m ∙ not_below b y s h (true_le y b e)))
    by false e = false_le y b e

pub least_in : (b : ℤ) (s : Ranges) → Above b s → IsLeast (has s) (least s)
least_in b [] h = λ y. refl
least_in b (r ∷ s) h = record {
  passes = or_left (is_in r.0 r) (has s r.0) (in_range r r.0 (le_self r.0) h.1);
  least = λ y m. (let k = member_above (r.0 -ℤ pos 1) y (r ∷ s) (before r.0, h.1, h.2, h.3) m in omega (arith, ints, k));
}
  where
    before : (x : ℤ) → (x -ℤ pos 1) <ℤ x
    before x = omega (arith, ints)

high_in : (r : ℤ × ℤ) (s : Ranges) → r.0 ≤ℤ r.1 → has (r ∷ s) r.1 ≡ true
high_in r s h = or_left (is_in r.1 r) (has s r.1) (in_range r r.1 h (le_self r.1))

pub greatest_in : (b : ℤ) (s : Ranges) → Above b s → IsGreatest (has s) (greatest s)
greatest_in b [] h = λ y. refl
greatest_in b (r ∷ []) h = record {
  passes = high_in r [] h.1;
  greatest = λ y m. elim (or_cases (is_in y r) false m) [ inl one ↦ true_le y r.1 (and_parts (int_le r.0 y) (int_le y r.1) one).1 | inr two ↦ absurd (true≢false (sym two)) ];
}
greatest_in b (r ∷ q ∷ s) h = by (greatest (q ∷ s)) (greatest_in (r.1 +ℤ pos 1) (q ∷ s) h.3)
  where
    first_in : has (q ∷ s) q.0 ≡ true
    first_in = or_left (is_in q.0 q) (has s q.0) (in_range q q.0 (le_self q.0) h.3.1)

    by : (o : Option ℤ) → IsGreatest (has (q ∷ s)) o → IsGreatest (has (r ∷ q ∷ s)) o
    by None g = absurd (true≢false (sym first_in ∙ g q.0))
    by (Some z) g = record {
      passes = or_right (is_in z r) (has (q ∷ s) z) g.passes;
      greatest = λ y m. elim (or_cases (is_in y r) (has (q ∷ s) y) m) [
        | inl one ↦ (let k = true_le y r.1 (and_parts (int_le r.0 y) (int_le y r.1) one).1 in let o = member_above (r.1 +ℤ pos 1) z (q ∷ s) h.3 g.passes in omega (arith, ints, k, o))
        | inr two ↦ g.greatest y two
      ];
    }
