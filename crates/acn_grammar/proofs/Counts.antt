-- How many octets or digits a number needs.
use Rattle.std.proofs.Common.{◌≡◌, ℕ, zero, suc, ◌+◌, ◌-◌, ◌*◌, ◌^◌, ◌<◌, ◌≤◌, ℤ, pos, negsuc, Bool, true, false, not, List, [], ◌∷◌, length, refl, sym, ap, ◌∙◌, arith, nat_le, ◌&&◌}
use Rattle.std.specs.Prelude.{neg_ℤ, ◌≤ℤ◌, ◌<ℤ◌, int_le, int_lt, count_by, cond}
use Rattle.std.specs.List.{range_with_len, AllByRecursion}
use Rattle.std.proofs.lemmas.Int.{ints}
use Rattle.std.proofs.lemmas.Bool.Decides.{nat_tests}
use Rattle.std.proofs.lemmas.List.Sums.{sum_by-cons}
use Rattle.std.proofs.Math.Nat.{pow-succ', pow-le-pow_right, mod-eq_of_lt, mul-le-mul_right}
use native.Mathlib.Decide.{dec_lt}
use Rattle.std.proofs.lemmas.List.{length-append}
use Rattle.acn_num.specs.Bits.{low_bits, IsNumber, IsSigned}
use Rattle.acn_grammar.specs.Code.{Counted, AreDigits, IsMinimal, decimal_number}
use Rattle.acn_grammar.specs.Length.{least_octets, least_signed_octets, fits_octets, digit_count}
use Rattle.acn_grammar.proofs.Numbers.{signed-below, signed-above}
use Rattle.std.proofs.lemmas.Bool.{le-leb, and_parts}
use Rattle.acn_grammar.proofs.WholeTests.{le_test, lt_test, le_fact, lt_fact}
use Rattle.acn_num.proofs.BitLists.{number_below, length-low_bits, number-low_bits}

-- as many as pass of numbers of which the first m pass and the others don't
pub counts : (p : ℕ → Bool) (a n m : ℕ) → m ≤ n → ((j : ℕ) → a ≤ j → j < a + m → p j ≡ true) → ((j : ℕ) → a + m ≤ j → j < a + n → p j ≡ false) → count_by p (range_with_len a n) ≡ m
counts p a zero m h f g = omega arith
counts p a (suc n) zero h f g =
    let rest = counts p (a + 1) n zero (omega arith) (λ j u v. absurd (omega arith)) (λ j u v. g j (omega arith) (omega arith)) in
    let first : p a ≡ false = g a (omega arith) (omega arith) in
    sum_by-cons (λ x. cond (p x) 1 0) a (range_with_len (a + 1) n) ∙ rw first (rw rest (omega arith))
counts p a (suc n) (suc m) h f g =
    let rest = counts p (a + 1) n m (omega arith) (λ j u v. f j (omega arith) (omega arith)) (λ j u v. g j (omega arith) (omega arith)) in
    let first : p a ≡ true = f a (omega arith) (omega arith) in
    sum_by-cons (λ x. cond (p x) 1 0) a (range_with_len (a + 1) n) ∙ rw first (rw rest (omega arith))

-- a test that passes more numbers counts no fewer
pub count_more : (p q : ℕ → Bool) (a n : ℕ) → ((j : ℕ) → a ≤ j → p j ≡ true → q j ≡ true) → count_by p (range_with_len a n) ≤ count_by q (range_with_len a n)
count_more p q a zero h = omega arith
count_more p q a (suc n) h =
    let rest = count_more p q (a + 1) n (λ j u v. h j (omega arith) v) in
    let one = sum_by-cons (λ x. cond (p x) 1 0) a (range_with_len (a + 1) n) in
    let two = sum_by-cons (λ x. cond (q x) 1 0) a (range_with_len (a + 1) n) in
    let here = ones (p a) (q a) (h a (omega arith)) in
    omega arith
  where
    ones : (b c : Bool) → (b ≡ true → c ≡ true) → cond b 1 0 ≤ cond c 1 0
    ones false c h = omega arith
    ones true true h = omega arith
    ones true false h = let e = h refl in cc

pub le_false : (a b : ℕ) → b < a → nat_le a b ≡ false
le_false a b h = grind (arith, nat_tests)

-- Octets.

octet_powers : (c : ℕ) → 2 ^ (8 * c) ≡ 256 ^ c
octet_powers zero = refl
octet_powers (suc c) =
    let e : 8 * suc c ≡ suc (suc (suc (suc (suc (suc (suc (suc (8 * c)))))))) = omega arith in
    let h = octet_powers c in
    rw (e, pow-succ' 256 c) (omega (arith, pow-succ' 2 (8 * c), pow-succ' 2 (suc (8 * c)), pow-succ' 2 (suc (suc (8 * c))), pow-succ' 2 (suc (suc (suc (8 * c)))), pow-succ' 2 (suc (suc (suc (suc (8 * c))))), pow-succ' 2 (suc (suc (suc (suc (suc (8 * c)))))), pow-succ' 2 (suc (suc (suc (suc (suc (suc (8 * c))))))), pow-succ' 2 (suc (suc (suc (suc (suc (suc (suc (8 * c))))))))))

pub least_octets-is : (k c : ℕ) → 0 < c → c ≤ 8 → k < 256 ^ c → (1 < c → 256 ^ (c - 1) ≤ k) → least_octets k ≡ c
least_octets-is k c p l h g =
    let n = counts (λ j. nat_le (256 ^ j) k) 1 7 (c - 1) (omega arith)
    (λ j u v. le-leb (256 ^ j) k (omega (arith, g (omega arith), pow-le-pow_right {n = 256} (omega arith) {i = j} {j = c - 1} (omega arith))))
    (λ j u v. le_false (256 ^ j) k (omega (arith, pow-le-pow_right {n = 256} (omega arith) {i = c} {j = j} (omega arith)))) in
    omega arith

pub number_bits : (n k : ℕ) → k < 2 ^ n → IsNumber n k (low_bits n k)
number_bits n k h = record { width = length-low_bits n k; value = number-low_bits n k ∙ mod-eq_of_lt h }

below_or : (a b : ℕ) → (a < b → ⊥) → b ≤ a
below_or a b h = elim (dec_lt a b) [ yes p ↦ absurd (h p) | no p ↦ omega arith ]

pub counted-octets : (k : ℕ) (bs : List Bool) → k < 2 ^ 64 → Counted (λ c body. IsNumber (8 * c) k body) bs → length bs ≡ 8 + 8 * least_octets k
counted-octets k bs small t =
    let few : t.count ≤ 8 = t.least 8 (low_bits 64 k) (omega arith) (number_bits 64 k small) in
    let width = t.spells.width in
    let value = t.spells.value in
    let n = number_below t.body in
    let power : 2 ^ length t.body ≡ 256 ^ t.count = rw width (octet_powers t.count) in
    let below : k < 256 ^ t.count = omega arith in
    let least : 1 < t.count → 256 ^ (t.count - 1) ≤ k = λ m. below_or k (256 ^ (t.count - 1)) (λ h.
    let fits : k < 2 ^ (8 * (t.count - 1)) = rw (octet_powers (t.count - 1)) h in
    let c = t.least (t.count - 1) (low_bits (8 * (t.count - 1)) k) (omega arith) (number_bits (8 * (t.count - 1)) k fits) in
    omega arith) in
    let l = least_octets-is k t.count t.positive few below least in
    let whole = ap length t.whole ∙ length-append t.front t.body in
    let front = t.counts.width in
    omega arith

-- Octets of two's complement.

pub signed_bits : (m : ℕ) (y : ℤ) → neg_ℤ (pos (2 ^ m)) ≤ℤ y → y <ℤ pos (2 ^ m) → (bs : List Bool) × IsSigned (suc m) y bs
signed_bits m (pos n) h k =
    let fits : n < 2 ^ m = omega (arith, ints) in
    let b = number_bits m n fits in
    (false ∷ low_bits m n, record { width = ap suc b.width; value = ap (λ x. pos x) b.value })
signed_bits m (negsuc n) h k =
    let over : suc n ≤ 2 ^ m = omega (arith, ints) in
    let fits : 2 ^ m - suc n < 2 ^ m = omega arith in
    let b = number_bits m (2 ^ m - suc n) fits in
    (true ∷ low_bits m (2 ^ m - suc n), record { width = ap suc b.width; value = rw (b.value, b.width) (omega (arith, ints)) })

pub fits_true : (y : ℤ) (c : ℕ) → neg_ℤ (pos (2 ^ (8 * c - 1))) ≤ℤ y → y <ℤ pos (2 ^ (8 * c - 1)) → fits_octets y c ≡ true
fits_true y c h k = both (int_le (neg_ℤ (pos (2 ^ (8 * c - 1)))) y) (int_lt y (pos (2 ^ (8 * c - 1)))) (le_test _ _ h) (lt_test _ _ k)
  where
    both : (a b : Bool) → a ≡ true → b ≡ true → (a && b) ≡ true
    both a b p q = rw (p, q)

pub fits_is : (y : ℤ) (c : ℕ) → fits_octets y c ≡ true → (neg_ℤ (pos (2 ^ (8 * c - 1))) ≤ℤ y) × (y <ℤ pos (2 ^ (8 * c - 1)))
fits_is y c h =
    let f = and_parts (int_le (neg_ℤ (pos (2 ^ (8 * c - 1)))) y) (int_lt y (pos (2 ^ (8 * c - 1)))) h in
    (le_fact _ _ f.0, lt_fact _ _ f.1)

-- what fits in fewer octets fits in more
pub fits_more : (y : ℤ) (c d : ℕ) → c ≤ d → fits_octets y c ≡ true → fits_octets y d ≡ true
fits_more y c d h f =
    let p = fits_is y c f in
    let m = pow-le-pow_right {n = 2} (omega arith) {i = 8 * c - 1} {j = 8 * d - 1} (omega arith) in
    fits_true y d (omega (arith, ints)) (omega (arith, ints))

pub signed_of_octets : (y : ℤ) (c : ℕ) → 0 < c → fits_octets y c ≡ true → (bs : List Bool) × IsSigned (8 * c) y bs
signed_of_octets y c p f =
    let r = fits_is y c f in
    let b = signed_bits (8 * c - 1) y r.0 r.1 in
    let e : suc (8 * c - 1) ≡ 8 * c = omega arith in
    (b.0, record { width = b.1.width ∙ e; value = b.1.value })

pub code_fits : (y : ℤ) (c : ℕ) (bs : List Bool) → 0 < c → IsSigned (8 * c) y bs → fits_octets y c ≡ true
code_fits y c bs p s =
    let e : length bs ≡ suc (8 * c - 1) = omega (arith, s.width) in
    let a = signed-above bs (8 * c - 1) e in
    let b = signed-below bs (8 * c - 1) e in
    let v = s.value in
    fits_true y c (omega (arith, ints)) (omega (arith, ints))

pub counted-signed : (y : ℤ) (bs : List Bool) → fits_octets y 8 ≡ true → Counted (λ c body. IsSigned (8 * c) y body) bs → length bs ≡ 8 + 8 * least_signed_octets y
counted-signed y bs small t =
    let eight = signed_of_octets y 8 (omega arith) small in
    let few : t.count ≤ 8 = t.least 8 eight.0 (omega arith) eight.1 in
    let mine = code_fits y t.count t.body t.positive t.spells in
    let fewer : (j : ℕ) → 1 ≤ j → j < t.count → fits_octets y j ≡ false = λ j u v. not_true_is (fits_octets y j) (λ f.
    let b = signed_of_octets y j (omega arith) f in
    let c = t.least j b.0 (omega arith) b.1 in
    omega arith) in
    let n = counts (λ c. not (fits_octets y c)) 1 7 (t.count - 1) (omega (arith, t.positive))
    (λ j u v. ap not (fewer j u (omega arith)))
    (λ j u v. ap not (fits_more y t.count j (omega (arith, t.positive)) mine)) in
    let whole = ap length t.whole ∙ length-append t.front t.body in
    let front = t.counts.width in
    let width = t.spells.width in
    let p = t.positive in
    omega arith
  where
    not_true_is : (b : Bool) → (b ≡ true → ⊥) → b ≡ false
    not_true_is true h = absurd (h refl)
    not_true_is false h = refl

-- Digits.

pub digits-below : (ds : List ℕ) → AllByRecursion (λ d. d < 10) ds → decimal_number ds < 10 ^ length ds
digits-below [] h = omega arith
digits-below (d ∷ ds) h =
    let r = digits-below ds h.1 in
    let p = pow-succ' 10 (length ds) in
    let m = mul-le-mul_right {m = d} {n = 9} (10 ^ length ds) (omega (arith, h.0)) in
    omega arith

pub digits-from : (d e : ℕ) (ds : List ℕ) → 0 < d → 10 ^ length (e ∷ ds) ≤ decimal_number (d ∷ e ∷ ds)
digits-from d e ds h =
    let m = mul-le-mul_right {m = 1} {n = d} (10 ^ length (e ∷ ds)) (omega arith) in
    omega arith

pub digit_count-is : (k n : ℕ) → 0 < n → n ≤ 20 → k < 10 ^ n → (1 < n → 10 ^ (n - 1) ≤ k) → digit_count k ≡ n
digit_count-is k n p l h g =
    let m = counts (λ j. nat_le (10 ^ j) k) 1 19 (n - 1) (omega arith)
    (λ j u v. le-leb (10 ^ j) k (omega (arith, g (omega arith), pow-le-pow_right {n = 10} (omega arith) {i = j} {j = n - 1} (omega arith))))
    (λ j u v. le_false (10 ^ j) k (omega (arith, pow-le-pow_right {n = 10} (omega arith) {i = n} {j = j} (omega arith)))) in
    omega arith

pub digits-count : (k : ℕ) (ds : List ℕ) → k < 10 ^ 20 → AreDigits k ds → IsMinimal ds → length ds ≡ digit_count k
digits-count k [] small a m = absurd m
digits-count k (d ∷ []) small a m =
    let b = digits-below (d ∷ []) a.digits in
    let v = a.value in
    sym (digit_count-is k 1 (omega arith) (omega arith) (omega arith) (λ x. absurd (omega arith)))
digits-count k (d ∷ e ∷ ds) small a m =
    let b = digits-below (d ∷ e ∷ ds) a.digits in
    let f = digits-from d e ds m in
    let v = a.value in
    let few : length (e ∷ ds) < 20 = below_power (length (e ∷ ds)) 20 (omega arith) in
    let one : length (d ∷ e ∷ ds) - 1 ≡ length (e ∷ ds) = omega arith in
    let low : 10 ^ (length (d ∷ e ∷ ds) - 1) ≤ k = rw one (omega arith) in
    sym (digit_count-is k (length (d ∷ e ∷ ds)) (omega arith) (omega arith) (omega arith) (λ x. low))
  where
    below_power : (i j : ℕ) → 10 ^ i < 10 ^ j → i < j
    below_power i j h = elim (dec_lt i j) [ yes p ↦ p | no p ↦ let m = pow-le-pow_right {n = 10} (omega arith) {i = j} {j = i} (omega arith) in absurd (omega arith) ]
