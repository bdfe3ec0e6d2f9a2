-- The digits of small numbers.
use Rattle.std.proofs.Common.{◌≡◌, ℕ, ◌+◌, ◌/◌, ◌%◌, ◌^◌, ◌<◌, ◌≤◌, List, [], ◌∷◌, ◌++◌, sym, ap, ◌∙◌, arith}
use Rattle.std.specs.Fmt.{decimal}
use Rattle.std.proofs.lemmas.Fmt.{decimal_step, decimal_digit}

pub one_digit : (n : ℕ) → n < 10 → (48 + n) ∷ [] ≡ decimal n
one_digit n h = sym (decimal_digit n h)

-- a digit behind others
more : (n : ℕ) (front : List ℕ) → 10 ≤ n → n < 2 ^ 64 → front ≡ decimal (n / 10) → front ++ (48 + n % 10) ∷ [] ≡ decimal n
more n front h small e = ap (λ t. t ++ (48 + n % 10) ∷ []) e ∙ sym (decimal_step n h small)

pub two_digits : (n : ℕ) → 10 ≤ n → n < 100 → (48 + n / 10) ∷ (48 + n % 10) ∷ [] ≡ decimal n
two_digits n h small = more n ((48 + n / 10) ∷ []) h (omega arith) (one_digit (n / 10) (omega arith))

pub three_digits : (n : ℕ) → 100 ≤ n → n < 1000 → (48 + n / 100) ∷ (48 + n / 10 % 10) ∷ (48 + n % 10) ∷ [] ≡ decimal n
three_digits n h small =
    let high : n / 100 ≡ n / 10 / 10 = omega arith in
    more n ((48 + n / 100) ∷ (48 + n / 10 % 10) ∷ []) (omega arith) (omega arith)
    (ap (λ k. (48 + k) ∷ (48 + n / 10 % 10) ∷ []) high ∙ two_digits (n / 10) (omega arith) (omega arith))

pub four_digits : (n : ℕ) → 1000 ≤ n → n < 10000 → (48 + n / 1000) ∷ (48 + n / 100 % 10) ∷ (48 + n / 10 % 10) ∷ (48 + n % 10) ∷ [] ≡ decimal n
four_digits n h small =
    let first : n / 1000 ≡ n / 10 / 100 = omega arith in
    let second : n / 100 ≡ n / 10 / 10 = omega arith in
    more n ((48 + n / 1000) ∷ (48 + n / 100 % 10) ∷ (48 + n / 10 % 10) ∷ []) (omega arith) (omega arith)
    (ap (λ k. (48 + k) ∷ (48 + n / 100 % 10) ∷ (48 + n / 10 % 10) ∷ []) first
    ∙ (ap (λ k. (48 + n / 10 / 100) ∷ (48 + k % 10) ∷ (48 + n / 10 % 10) ∷ []) second ∙ three_digits (n / 10) (omega arith) (omega arith)))

pub five_digits : (n : ℕ) → 10000 ≤ n → n < 100000 → (48 + n / 10000) ∷ (48 + n / 1000 % 10) ∷ (48 + n / 100 % 10) ∷ (48 + n / 10 % 10) ∷ (48 + n % 10) ∷ [] ≡ decimal n
five_digits n h small =
    let first : n / 10000 ≡ n / 10 / 1000 = omega arith in
    let second : n / 1000 ≡ n / 10 / 100 = omega arith in
    let third : n / 100 ≡ n / 10 / 10 = omega arith in
    more n ((48 + n / 10000) ∷ (48 + n / 1000 % 10) ∷ (48 + n / 100 % 10) ∷ (48 + n / 10 % 10) ∷ []) (omega arith) (omega arith)
    (ap (λ k. (48 + k) ∷ (48 + n / 1000 % 10) ∷ (48 + n / 100 % 10) ∷ (48 + n / 10 % 10) ∷ []) first
    ∙ (ap (λ k. (48 + n / 10 / 1000) ∷ (48 + k % 10) ∷ (48 + n / 100 % 10) ∷ (48 + n / 10 % 10) ∷ []) second
    ∙ (ap (λ k. (48 + n / 10 / 1000) ∷ (48 + n / 10 / 100 % 10) ∷ (48 + k % 10) ∷ (48 + n / 10 % 10) ∷ []) third ∙ four_digits (n / 10) (omega arith) (omega arith))))
