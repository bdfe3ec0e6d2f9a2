-- The hexadecimal digits of bits, four bits at a time.
use Rattle.std.proofs.Common.{◌≡◌, ℕ, ◌-◌, ◌<◌, ◌≤◌, Bool, false, List, [], ◌∷◌, ◌++◌, length, get_or, take, drop, refl, sym, ap, ◌∙◌, arith}
use Rattle.std.proofs.Math.Seq.{take-length}
use Rattle.acn_num.specs.Bits.{number}
use Rattle.acn_report.specs.Digits.{hex_digit, hex_text}

take_all : (n : ℕ) (l : List Bool) → n ≡ length l → take n l ≡ l
take_all n l e = ap (λ m. take m l) e ∙ take-length l

pub hex_turn : (l : List Bool) (x : ℕ) → 4 ≤ length l → x ≡ hex_digit (number (get_or l 0 false ∷ get_or l 1 false ∷ get_or l 2 false ∷ get_or l 3 false ∷ [])) → hex_text l ≡ (x ∷ []) ++ hex_text (take (length l - 4) (drop 4 l))
hex_turn [] x h e = absurd (omega (arith, h))
hex_turn (a ∷ []) x h e = absurd (omega (arith, h))
hex_turn (a ∷ b ∷ []) x h e = absurd (omega (arith, h))
hex_turn (a ∷ b ∷ c ∷ []) x h e = absurd (omega (arith, h))
hex_turn (a ∷ b ∷ c ∷ d ∷ rest) x h e =
    ap (λ n. n ∷ hex_text rest) (sym e) ∙ ap (λ l. x ∷ hex_text l) (sym (take_all (length (a ∷ b ∷ c ∷ d ∷ rest) - 4) rest (omega arith)))

pub hex_end : (l : List Bool) → length l < 4 → hex_text l ≡ []
hex_end [] h = refl
hex_end (a ∷ []) h = refl
hex_end (a ∷ b ∷ []) h = refl
hex_end (a ∷ b ∷ c ∷ []) h = refl
hex_end (a ∷ b ∷ c ∷ d ∷ rest) h = absurd (omega (arith, h))
