-- Strings whose octets stand for themselves.
use Rattle.std.proofs.Common.{◌≡◌, ℕ, ◌≤◌, Bool, true, false, not, ◌&&◌, ◌==◌, nat_lt, List, [], ◌∷◌, refl, ap, arith}
use Rattle.std.specs.Prelude.{map}
use Rattle.std.specs.List.{list_all}
use Rattle.std.proofs.lemmas.Bool.Decides.{nat_tests}
use Rattle.json.specs.Print.{escape, escape_byte}
use Rattle.json.proofs.Printed.Strings.{escape_byte_plain}
use Rattle.std.proofs.lemmas.Bool.{and_parts}
use Rattle.acn_json.specs.Lines.{bit_digit}

above : (x : ℕ) → nat_lt 31 x ≡ true → 32 ≤ x
above x h = grind (arith, nat_tests)

other : (x n : ℕ) → not (x == n) ≡ true → (x ≡ n → ⊥)
other x n h e = grind (arith, nat_tests)

plain_octet : (x : ℕ) → (nat_lt 31 x && (not (x == 34) && not (x == 92))) ≡ true → escape_byte x ≡ x ∷ []
plain_octet x h =
    let a = and_parts (nat_lt 31 x) (not (x == 34) && not (x == 92)) h in
    let b = and_parts (not (x == 34)) (not (x == 92)) a.1 in
    escape_byte_plain x (other x 34 b.0) (other x 92 b.1) (above x a.0)

pub plain-escape : (s : List ℕ) → list_all (λ o. nat_lt 31 o && (not (o == 34) && not (o == 92))) s ≡ true → escape s ≡ s
plain-escape [] h = refl
plain-escape (x ∷ s) h =
    let a = and_parts (nat_lt 31 x && (not (x == 34) && not (x == 92))) (list_all (λ o. nat_lt 31 o && (not (o == 34) && not (o == 92))) s) h in
    rw (plain_octet x a.0, plain-escape s a.1)

pub digits-escape : (bs : List Bool) → escape (map bit_digit bs) ≡ map bit_digit bs
unfolding escape_byte
digits-escape [] = refl
digits-escape (true ∷ bs) = ap (λ r. 49 ∷ r) (digits-escape bs)
digits-escape (false ∷ bs) = ap (λ r. 48 ∷ r) (digits-escape bs)
