-- The least width, by the first of the widths in which a number stands.
use Rattle.std.proofs.Common.{◌≡◌, ℕ, zero, suc, ◌+◌, ◌^◌, ◌<◌, ◌≤◌, ℤ, pos, Bool, true, false, cond, Option, Some, None, refl, sym, ap, ◌∙◌, arith}
use Rattle.std.specs.Prelude.{find, nat_lt, int_le}
use Rattle.std.specs.List.{range_with_len}
use Rattle.std.proofs.lemmas.Bool.{cond-true, cond-false}
use Rattle.std.proofs.lemmas.Bool.Decides.{nat_tests}
use Rattle.std.proofs.lemmas.Int.{ints}
use Rattle.std.proofs.Math.Nat.{pow-le-pow_right}
use Rattle.acn_num.specs.Widths.{IsLeastWidth}
use Rattle.acn_leaves.specs.Widths.{least_width, or_word}

holds : (n p : ℕ) → nat_lt n p ≡ true → n < p
holds n p e = grind (arith, nat_tests)

exceeds : (n p : ℕ) → nat_lt n p ≡ false → p ≤ n
exceeds n p e = grind (arith, nat_tests)

abbrev stands : ℕ → ℕ → Bool
stands n width = nat_lt n (2 ^ width)

-- the first of the widths from a on
found_from : (n w k a : ℕ) → n < 2 ^ w → ((v : ℕ) → n < 2 ^ v → w ≤ v) → a ≤ w → w < a + k → find (stands n) (range_with_len a k) ≡ Some w
found_from n w zero a h l ge lt = absurd (omega (arith, ge, lt))
found_from n w (suc k) a h l ge lt = by (stands n a) refl (λ above. found_from n w k (a + 1) h l above (omega (arith, lt)))
  where
    by : (b : Bool) → stands n a ≡ b → (a + 1 ≤ w → find (stands n) (range_with_len (a + 1) k) ≡ Some w) → find (stands n) (range_with_len a (suc k)) ≡ Some w
    by true e rest =
        let low : w ≤ a = l a (holds n (2 ^ a) e) in
        cond-true _ _ _ e ∙ ap Some (omega (arith, low, ge))
    by false e rest =
        let high = exceeds n (2 ^ a) e in
        let more : w ≤ a → 2 ^ w ≤ 2 ^ a = λ le. pow-le-pow_right {n = 2} (omega arith) {i = w} {j = a} le in
        cond-false _ _ _ e ∙ rest (grind (arith, more, high, h, ge))

none_from : (n k a : ℕ) → ((v : ℕ) → v < a + k → 2 ^ v ≤ n) → find (stands n) (range_with_len a k) ≡ None
none_from n zero a h = refl
none_from n (suc k) a h = by (stands n a) refl (none_from n k (a + 1) (λ v lt. h v (omega (arith, lt))))
  where
    by : (b : Bool) → stands n a ≡ b → find (stands n) (range_with_len (a + 1) k) ≡ None → find (stands n) (range_with_len a (suc k)) ≡ None
    by true e rest = let less = holds n (2 ^ a) e in let more = h a (omega arith) in absurd (omega (arith, less, more))
    by false e rest = cond-false _ _ _ e ∙ rest

pub least_found : (n r : ℕ) → IsLeastWidth n r → r ≤ 64 → r ≡ least_width n
unfolding least_width
least_found n r l few = sym (ap or_word (found_from n r 65 0 l.holds l.least (omega arith) (omega (arith, few))))

pub none_found : (n : ℕ) → 2 ^ 64 ≤ n → 64 ≡ least_width n
unfolding least_width
none_found n h = sym (ap or_word (none_from n 65 0 (λ v lt. let le = pow-le-pow_right {n = 2} (omega arith) {i = v} {j = 64} (omega (arith, lt)) in omega (arith, le, h))))

-- A number is beyond a width where its own is greater.
pub beyond : (n w r : ℕ) → IsLeastWidth n r → nat_lt w r ≡ int_le (pos (2 ^ w)) (pos n)
beyond n w r l = by (nat_lt w r) refl
  where
    by : (b : Bool) → nat_lt w r ≡ b → b ≡ int_le (pos (2 ^ w)) (pos n)
    by true e = let lt = holds w r e in let least = l.least w in grind (arith, ints, nat_tests, lt, least)
    by false e =
        let le = exceeds w r e in
        let more = pow-le-pow_right {n = 2} (omega arith) {i = r} {j = w} le in
        let here = l.holds in
        grind (arith, ints, nat_tests, more, here)

pub far_beyond : (n w : ℕ) → w ≤ 64 → 2 ^ 64 ≤ n → true ≡ int_le (pos (2 ^ w)) (pos n)
far_beyond n w few h = let le = pow-le-pow_right {n = 2} (omega arith) {i = w} {j = 64} few in grind (arith, ints, nat_tests, le, h)
