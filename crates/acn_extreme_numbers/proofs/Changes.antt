-- Where the lengths of codes change: a number whose code has another length than that of the number before it is one of the steps.
use Rattle.std.proofs.Common.{◌≡◌, ℕ, zero, suc, ◌+◌, ◌-◌, ◌*◌, ◌^◌, ◌<◌, ◌≤◌, ℤ, pos, neg_ℤ, Bool, true, false, not, ◌&&◌, List, [], ◌∷◌, ◌++◌, refl, sym, ap, ◌∙◌, arith, inl, inr, ◌⊎◌, subst, cond, nat_le, length}
use Rattle.std.proofs.lemmas.Bool.{le-leb}
use Rattle.std.proofs.lemmas.Bool.Decides.{nat_tests}
use Rattle.std.proofs.lemmas.Int.{ints}
use Rattle.std.proofs.lemmas.List.Sums.{sum_by-cons}
use Rattle.std.specs.Ordering.{int_eq}
use Rattle.std.specs.Prelude.{◌-ℤ◌, ◌≤ℤ◌, ◌<ℤ◌, int_le, int_lt, count_by, map, nat_abs}
use Rattle.std.specs.List.{range_with_len}
use native.Mathlib.Decide.{dec_le}
use Rattle.acn_grammar.specs.Interval.{origin}
use Rattle.acn_grammar.specs.Length.{least_octets, least_signed_octets, fits_octets, digit_count, sign_width, coding_length}
use Rattle.acn_grammar.specs.declared.node.NumCoding.{NumCoding}
use Rattle.acn_grammar.specs.declared.node.NumCoding.TheVariants.{Range, CountedFrom, CountedSigned, PosInt, Twos, Bcd, BcdEnded, Ascii, AsciiEnded, Flag, Fixed}
use Rattle.acn_grammar.proofs.Counts.{le_false}
use Rattle.acn_grammar.proofs.Monotone.{Varies}
use Rattle.acn_grammar.proofs.WholeTests.{eq_fact, eq_self, lt_fact, ge_fact, le_fact, gt_fact, le_test, lt_test, gt_test}
use Rattle.acn_extreme_laws.proofs.Codes.{Among, among_left, among_right}
use Rattle.acn_extreme_numbers.specs.Tries.{digit_steps, steps}

-- one of these numbers, or none
neither : (k x : ℤ) (xs : List ℤ) → int_eq k x ≡ false → (Among k xs → ⊥) → (k ≡ x) ⊎ Among k xs → ⊥
neither k x xs e n (inl q) = apart (sym e ∙ (ap (int_eq k) (sym q) ∙ eq_self k))
  where
    apart : false ≡ true → ⊥
    apart h = cc
neither k x xs e n (inr h) = n h

find : (k : ℤ) (xs : List ℤ) → Among k xs ⊎ (Among k xs → ⊥)
find k [] = inr (λ h. h)
find k (x ∷ xs) = by (int_eq k x) refl (find k xs)
  where
    by : (t : Bool) → int_eq k x ≡ t → Among k xs ⊎ (Among k xs → ⊥) → ((k ≡ x) ⊎ Among k xs) ⊎ ((k ≡ x) ⊎ Among k xs → ⊥)
    by true e r = inl (inl (eq_fact k x e))
    by false e (inl h) = inl (inr h)
    by false e (inr n) = inr (neither k x xs e n)

in_map : (f : ℕ → ℤ) (a n j : ℕ) → a ≤ j → j < a + n → Among (f j) (map f (range_with_len a n))
in_map f a zero j h l = absurd (omega arith)
in_map f a (suc n) j h l = elim (dec_le (a + 1) j) [
  | yes p ↦ inr (in_map f (a + 1) n j p (omega arith))
  | no p ↦ (let same : j ≡ a = omega arith in inl (ap f same))
]

-- tests that answer the same count the same
count_same : (p q : ℕ → Bool) (a n : ℕ) → ((j : ℕ) → a ≤ j → j < a + n → p j ≡ q j) → count_by p (range_with_len a n) ≡ count_by q (range_with_len a n)
count_same p q a zero h = refl
count_same p q a (suc n) h =
    let rest = count_same p q (a + 1) n (λ j u v. h j (omega arith) (omega arith)) in
    let one = sum_by-cons (λ x. cond (p x) 1 0) a (range_with_len (a + 1) n) in
    let two = sum_by-cons (λ x. cond (q x) 1 0) a (range_with_len (a + 1) n) in
    let here : cond {A = ℕ} (p a) 1 0 ≡ cond {A = ℕ} (q a) 1 0 = ap (λ (b : Bool). cond {A = ℕ} b 1 0) (h a (omega arith) (omega arith)) in
    omega arith

-- only at a itself
le_same : (a k : ℕ) → (k + 1 ≡ a → ⊥) → nat_le a k ≡ nat_le a (k + 1)
le_same a k n = elim (dec_le a k) [
  | yes p ↦ le-leb a k p ∙ sym (le-leb a (k + 1) (omega arith))
  | no p ↦ elim (dec_le a (k + 1)) [
    | yes q ↦ absurd (n (omega arith))
    | no q ↦ le_false a k (omega arith) ∙ sym (le_false a (k + 1) (omega arith))
  ]
]

-- Octets and digits of natural numbers.

octets_same : (k : ℕ) → ((j : ℕ) → 1 ≤ j → j < 8 → k + 1 ≡ 256 ^ j → ⊥) → least_octets k ≡ least_octets (k + 1)
octets_same k n = ap (λ (c : ℕ). 1 + c) (count_same (λ c. nat_le (256 ^ c) k) (λ c. nat_le (256 ^ c) (k + 1)) 1 7 (λ j u v. le_same (256 ^ j) k (n j u v)))

digits_same : (k : ℕ) → ((j : ℕ) → 1 ≤ j → j < 20 → k + 1 ≡ 10 ^ j → ⊥) → digit_count k ≡ digit_count (k + 1)
digits_same k n = ap (λ (c : ℕ). 1 + c) (count_same (λ e. nat_le (10 ^ e) k) (λ e. nat_le (10 ^ e) (k + 1)) 1 19 (λ j u v. le_same (10 ^ j) k (n j u v)))

-- Octets of two's complement.

above : (m y : ℤ) → m ≤ℤ y → (y ≡ m → ⊥) → m <ℤ y
above m y l n = by (int_lt m y) refl
  where
    by : (t : Bool) → int_lt m y ≡ t → m <ℤ y
    by true e = lt_fact m y e
    by false e = (let q = ge_fact m y e in absurd (n (omega (arith, ints))))

not_lt : (x y : ℤ) → y ≤ℤ x → int_lt x y ≡ false
not_lt x y h = grind (arith, ints, nat_tests)

low_same : (m y : ℤ) → (y ≡ m → ⊥) → int_le m (y -ℤ pos 1) ≡ int_le m y
low_same m y n = by (int_le m y) refl
  where
    by : (t : Bool) → int_le m y ≡ t → int_le m (y -ℤ pos 1) ≡ t
    by true e = (let q = above m y (le_fact m y e) n in le_test m (y -ℤ pos 1) (omega (arith, ints)))
    by false e = (let q = gt_fact m y e in gt_test m (y -ℤ pos 1) (omega (arith, ints)))

high_same : (m y : ℤ) → (y ≡ m → ⊥) → int_lt (y -ℤ pos 1) m ≡ int_lt y m
high_same m y n = by (int_lt y m) refl
  where
    by : (t : Bool) → int_lt y m ≡ t → int_lt (y -ℤ pos 1) m ≡ t
    by true e = (let q = lt_fact y m e in lt_test (y -ℤ pos 1) m (omega (arith, ints)))
    by false e = (let q = above m y (ge_fact y m e) n in not_lt (y -ℤ pos 1) m (omega (arith, ints)))

fits_same : (y : ℤ) (c : ℕ) → (y ≡ neg_ℤ (pos (2 ^ (8 * c - 1))) → ⊥) → (y ≡ pos (2 ^ (8 * c - 1)) → ⊥) → fits_octets (y -ℤ pos 1) c ≡ fits_octets y c
fits_same y c n m =
    ap (λ (b : Bool). b && int_lt (y -ℤ pos 1) (pos (2 ^ (8 * c - 1)))) (low_same (neg_ℤ (pos (2 ^ (8 * c - 1)))) y n)
    ∙ ap (λ (b : Bool). int_le (neg_ℤ (pos (2 ^ (8 * c - 1)))) y && b) (high_same (pos (2 ^ (8 * c - 1))) y m)

signed_same : (y : ℤ) → ((j : ℕ) → 1 ≤ j → j < 8 → y ≡ neg_ℤ (pos (2 ^ (8 * j - 1))) → ⊥) → ((j : ℕ) → 1 ≤ j → j < 8 → y ≡ pos (2 ^ (8 * j - 1)) → ⊥)
    → least_signed_octets (y -ℤ pos 1) ≡ least_signed_octets y
signed_same y n m =
    ap (λ (c : ℕ). 1 + c) (count_same (λ c. not (fits_octets (y -ℤ pos 1) c)) (λ c. not (fits_octets y c)) 1 7 (λ j u v. ap not (fits_same y j (n j u v) (m j u v))))

-- The steps, by their powers.

octet_step : ℕ → ℤ
octet_step j = pos (256 ^ j)

octets_are : map octet_step (range_with_len 1 7) ≡ steps (CountedFrom (pos 0))
unfolding octet_step
octets_are = refl

low_step : ℕ → ℤ
low_step j = neg_ℤ (pos (2 ^ (8 * (8 - j) - 1)))

high_step : ℕ → ℤ
high_step j = pos (2 ^ (8 * j - 1))

signed_are : map low_step (range_with_len 1 7) ++ map high_step (range_with_len 1 7) ≡ steps CountedSigned
unfolding low_step high_step
signed_are = refl

low_digit : ℕ → ℤ
low_digit j = pos 1 -ℤ pos (10 ^ (19 - j))

high_digit : ℕ → ℤ
high_digit j = pos (10 ^ j)

digits_are : map low_digit (range_with_len 1 18) ++ map high_digit (range_with_len 1 19) ≡ digit_steps
unfolding low_digit high_digit
digits_are = refl

octet_there : (z : ℤ) (j : ℕ) → 1 ≤ j → j < 8 → z ≡ pos (256 ^ j) → Among z (steps (CountedFrom (pos 0)))
unfolding octet_step
octet_there z j u v e = subst (Among z) octets_are (subst (λ (x : ℤ). Among x (map octet_step (range_with_len 1 7))) (sym e) (in_map octet_step 1 7 j u v))

low_there : (z : ℤ) (j : ℕ) → 1 ≤ j → j < 8 → z ≡ neg_ℤ (pos (2 ^ (8 * j - 1))) → Among z (steps CountedSigned)
unfolding low_step
low_there z j u v e =
    let same : 8 - (8 - j) ≡ j = omega arith in
    let is : low_step (8 - j) ≡ z = ap (λ (i : ℕ). neg_ℤ (pos (2 ^ (8 * i - 1)))) same ∙ sym e in
    subst (Among z) signed_are (among_left z (map low_step (range_with_len 1 7)) (map high_step (range_with_len 1 7)) (subst (λ (x : ℤ). Among x (map low_step (range_with_len 1 7))) is (in_map low_step 1 7 (8 - j) (omega arith) (omega arith))))

high_there : (z : ℤ) (j : ℕ) → 1 ≤ j → j < 8 → z ≡ pos (2 ^ (8 * j - 1)) → Among z (steps CountedSigned)
unfolding high_step
high_there z j u v e =
    subst (Among z) signed_are (among_right z (map low_step (range_with_len 1 7)) (map high_step (range_with_len 1 7)) (subst (λ (x : ℤ). Among x (map high_step (range_with_len 1 7))) (sym e) (in_map high_step 1 7 j u v)))

low_digit_there : (z : ℤ) (j : ℕ) → 1 ≤ j → j < 19 → z ≡ pos 1 -ℤ pos (10 ^ j) → Among z digit_steps
unfolding low_digit
low_digit_there z j u v e =
    let same : 19 - (19 - j) ≡ j = omega arith in
    let is : low_digit (19 - j) ≡ z = ap (λ (i : ℕ). pos 1 -ℤ pos (10 ^ i)) same ∙ sym e in
    subst (Among z) digits_are (among_left z (map low_digit (range_with_len 1 18)) (map high_digit (range_with_len 1 19)) (subst (λ (x : ℤ). Among x (map low_digit (range_with_len 1 18))) is (in_map low_digit 1 18 (19 - j) (omega arith) (omega arith))))

high_digit_there : (z : ℤ) (j : ℕ) → 1 ≤ j → j < 20 → z ≡ pos (10 ^ j) → Among z digit_steps
unfolding high_digit
high_digit_there z j u v e =
    subst (Among z) digits_are (among_right z (map low_digit (range_with_len 1 18)) (map high_digit (range_with_len 1 19)) (subst (λ (x : ℤ). Among x (map high_digit (range_with_len 1 19))) (sym e) (in_map high_digit 1 19 j u v)))

-- Each coding.

-- numbers grow from the number before on, and aren't too far below zero
abbrev pub CanStep : NumCoding → ℤ → Type 0
CanStep (CountedFrom low) y = low ≤ℤ (y -ℤ pos 1)
CanStep BcdEnded y = neg_ℤ (pos (2 ^ 63)) ≤ℤ (y -ℤ pos 1)
CanStep (AsciiEnded end signed) y = neg_ℤ (pos (2 ^ 63)) ≤ℤ (y -ℤ pos 1)
CanStep _ y = Unit {0}

counted_change : (low y : ℤ) → low ≤ℤ (y -ℤ pos 1) → (least_octets (nat_abs ((y -ℤ pos 1) -ℤ low)) ≡ least_octets (nat_abs (y -ℤ low))) ⊎ Among (y -ℤ low) (steps (CountedFrom low))
counted_change low y h = by (find (y -ℤ low) (steps (CountedFrom low)))
  where
    next : nat_abs ((y -ℤ pos 1) -ℤ low) + 1 ≡ nat_abs (y -ℤ low)
    next = omega (arith, ints)

    whole : (a : ℕ) → nat_abs ((y -ℤ pos 1) -ℤ low) + 1 ≡ a → (y -ℤ low) ≡ pos a
    whole a e = omega (arith, ints)

    by : Among (y -ℤ low) (steps (CountedFrom low)) ⊎ (Among (y -ℤ low) (steps (CountedFrom low)) → ⊥) → (least_octets (nat_abs ((y -ℤ pos 1) -ℤ low)) ≡ least_octets (nat_abs (y -ℤ low))) ⊎ Among (y -ℤ low) (steps (CountedFrom low))
    by (inl q) = inr q
    by (inr n) = inl (octets_same (nat_abs ((y -ℤ pos 1) -ℤ low)) (λ j u v e. n (octet_there (y -ℤ low) j u v (whole (256 ^ j) e))) ∙ ap least_octets next)

signed_change : (y : ℤ) → (least_signed_octets (y -ℤ pos 1) ≡ least_signed_octets y) ⊎ Among y (steps CountedSigned)
signed_change y = by (find y (steps CountedSigned))
  where
    by : Among y (steps CountedSigned) ⊎ (Among y (steps CountedSigned) → ⊥) → (least_signed_octets (y -ℤ pos 1) ≡ least_signed_octets y) ⊎ Among y (steps CountedSigned)
    by (inl q) = inr q
    by (inr n) = inl (signed_same y (λ j u v e. n (low_there y j u v e)) (λ j u v e. n (high_there y j u v e)))

-- a power of ten below 2^63 has a lower exponent
few_digits : (j k : ℕ) → j < 20 → k + 1 ≡ 10 ^ j → k + 1 ≤ 2 ^ 63 → j < 19
few_digits j k v e small = elim (dec_le 19 j) [
  | yes p ↦ (let same : j ≡ 19 = omega arith in let is : k + 1 ≡ 10 ^ 19 = e ∙ ap (λ (i : ℕ). 10 ^ i) same in absurd (omega arith))
  | no p ↦ omega arith
]

digit_change : (y : ℤ) → neg_ℤ (pos (2 ^ 63)) ≤ℤ (y -ℤ pos 1) → (digit_count (nat_abs (y -ℤ pos 1)) ≡ digit_count (nat_abs y)) ⊎ Among y digit_steps
digit_change y h = by (find y digit_steps)
  where
    rises : pos 1 ≤ℤ y → nat_abs (y -ℤ pos 1) + 1 ≡ nat_abs y
    rises l = omega (arith, ints)

    falls : y ≤ℤ pos 0 → nat_abs y + 1 ≡ nat_abs (y -ℤ pos 1)
    falls l = omega (arith, ints)

    whole : pos 1 ≤ℤ y → (a : ℕ) → nat_abs (y -ℤ pos 1) + 1 ≡ a → y ≡ pos a
    whole l a e = omega (arith, ints)

    below : y ≤ℤ pos 0 → (a : ℕ) → nat_abs y + 1 ≡ a → y ≡ pos 1 -ℤ pos a
    below l a e = omega (arith, ints)

    small : y ≤ℤ pos 0 → nat_abs y + 1 ≤ 2 ^ 63
    small l = omega (arith, ints)

    side : (Among y digit_steps → ⊥) → (t : Bool) → int_le (pos 1) y ≡ t → digit_count (nat_abs (y -ℤ pos 1)) ≡ digit_count (nat_abs y)
    side n true e =
        let l = le_fact (pos 1) y e in
        digits_same (nat_abs (y -ℤ pos 1)) (λ j u v q. n (high_digit_there y j u v (whole l (10 ^ j) q))) ∙ ap digit_count (rises l)
    side n false e =
        let g = gt_fact (pos 1) y e in
        let l : y ≤ℤ pos 0 = omega (arith, ints) in
        sym (digits_same (nat_abs y) (λ j u v q. n (low_digit_there y j u (few_digits j (nat_abs y) v q (small l)) (below l (10 ^ j) q))) ∙ ap digit_count (falls l))

    by : Among y digit_steps ⊎ (Among y digit_steps → ⊥) → (digit_count (nat_abs (y -ℤ pos 1)) ≡ digit_count (nat_abs y)) ⊎ Among y digit_steps
    by (inl q) = inr q
    by (inr n) = inl (side n (int_le (pos 1) y) refl)

lengthened : {P : Type 0} (f : ℕ → ℕ) (a b : ℕ) → (a ≡ b) ⊎ P → (f a ≡ f b) ⊎ P
lengthened f a b (inl e) = inl (ap f e)
lengthened f a b (inr h) = inr h

from_zero : (y : ℤ) → y ≡ y -ℤ pos 0
from_zero y = omega (arith, ints)

pub step_found : (coding : NumCoding) → Varies coding → (y : ℤ) → CanStep coding y → (coding_length coding (y -ℤ pos 1) ≡ coding_length coding y) ⊎ Among (y -ℤ origin coding) (steps coding)
step_found (CountedFrom low) v y h = lengthened (λ n. 8 + 8 * n) (least_octets (nat_abs ((y -ℤ pos 1) -ℤ low))) (least_octets (nat_abs (y -ℤ low))) (counted_change low y h)
step_found CountedSigned v y h = lengthened (λ n. 8 + 8 * n) (least_signed_octets (y -ℤ pos 1)) (least_signed_octets y)
    (subst (λ (z : ℤ). (least_signed_octets (y -ℤ pos 1) ≡ least_signed_octets y) ⊎ Among z (steps CountedSigned)) (from_zero y) (signed_change y))
step_found BcdEnded v y h = lengthened (λ n. 4 * (n + 1)) (digit_count (nat_abs (y -ℤ pos 1))) (digit_count (nat_abs y))
    (subst (λ (z : ℤ). (digit_count (nat_abs (y -ℤ pos 1)) ≡ digit_count (nat_abs y)) ⊎ Among z digit_steps) (from_zero y) (digit_change y h))
step_found (AsciiEnded end signed) v y h = lengthened (λ n. sign_width signed + 8 * n + length end) (digit_count (nat_abs (y -ℤ pos 1))) (digit_count (nat_abs y))
    (subst (λ (z : ℤ). (digit_count (nat_abs (y -ℤ pos 1)) ≡ digit_count (nat_abs y)) ⊎ Among z digit_steps) (from_zero y) (digit_change y h))
step_found (Range low width) v y h = absurd v
step_found (PosInt n) v y h = absurd v
step_found (Twos n) v y h = absurd v
step_found (Bcd n) v y h = absurd v
step_found (Ascii n signed) v y h = absurd v
step_found (Flag p q) v y h = absurd v
step_found (Fixed pattern) v y h = absurd v
