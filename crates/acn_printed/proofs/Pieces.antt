-- Texts that go on with a piece, and then with more.
use Rattle.std.proofs.Common.{◌≡◌, ℕ, ◌+◌, ◌-◌, ◌*◌, ◌/◌, ◌%◌, ◌<◌, ◌≤◌, List, [], ◌∷◌, ◌++◌, length, drop, get_or, refl, sym, ap, ◌∙◌, append_assoc, arith}
use Rattle.std.specs.Prelude.{decimal}
use Rattle.std.proofs.lemmas.List.{drop_more}
use Rattle.std.proofs.lemmas.Fmt.{decimal_digit, decimal_step}

-- a piece, and behind it another
pub twice : (whole piece more rest end : List ℕ) → whole ≡ piece ++ rest → rest ≡ more ++ end → whole ≡ (piece ++ more) ++ end
twice whole piece more rest end p q = p ∙ (ap (λ t. piece ++ t) q ∙ sym (append_assoc piece more end))

-- Digits.

pub first : (line : List ℕ) (c : ℕ) → 0 < length line → c ≡ get_or line 0 0 → 48 ≤ c → c < 58 → line ≡ decimal (c - 48) ++ drop 1 line
first line c h e low high =
    let digit : 48 + (c - 48) ≡ c = omega arith in
    drop_more line 0 0 h ∙ rw (← e, decimal_digit (c - 48) (omega arith), digit) refl

pub next : (line : List ℕ) (end c value : ℕ) → end < length line → c ≡ get_or line end 0 → 48 ≤ c → c < 58 → 0 < value → value < 100000000000000000
    → line ≡ decimal value ++ drop end line → line ≡ decimal (10 * value + (c - 48)) ++ drop (end + 1) line
next line end c value h e low high some few so_far =
    let n = 10 * value + (c - 48) in
    let q : n / 10 ≡ value = omega arith in
    let r : 48 + n % 10 ≡ c = omega arith in
    let step : decimal n ≡ decimal value ++ c ∷ [] = rw (q, r) at (decimal_step n (omega arith) (omega arith)) in
    let more : drop end line ≡ c ∷ drop (end + 1) line = drop_more line end 0 h ∙ ap (λ (t : ℕ). t ∷ drop (end + 1) line) (sym e) in
    so_far ∙ (ap (λ t. decimal value ++ t) more ∙ (sym (append_assoc (decimal value) (c ∷ []) (drop (end + 1) line)) ∙ ap (λ t. t ++ drop (end + 1) line) (sym step)))
