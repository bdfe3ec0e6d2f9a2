-- Bits of a number, pushed one at a time.
use Rattle.std.proofs.Common.{◌≡◌, ℕ, suc, ◌+◌, ◌-◌, ◌/◌, ◌%◌, ◌^◌, ◌<◌, ◌≤◌, Bool, false, List, [], ◌∷◌, ◌++◌, sym, ap, ◌∙◌, arith, append_assoc, nat_eq}
use Rattle.std.proofs.Math.Nat.{div-eq_of_lt, pow-le-pow_right}
use Rattle.acn_num.specs.Bits.{bit, low_bits}

pub no_bit : (k v : ℕ) → 64 ≤ k → v < 2 ^ 64 → false ≡ bit k v
no_bit k v h l =
    let more : 2 ^ 64 ≤ 2 ^ k = pow-le-pow_right {n = 2} (omega arith) {i = 64} {j = k} h in
    let none : v / 2 ^ k ≡ 0 = div-eq_of_lt (omega (arith, more, l)) in
    ap (λ n. nat_eq (n % 2) 1) (sym none)

pub add_bit : (list new whole : List Bool) (w i v : ℕ) → i < w → new ≡ list ++ bit (w - 1 - i) v ∷ [] → list ++ low_bits (w - i) v ≡ whole → new ++ low_bits (w - (i + 1)) v ≡ whole
add_bit list new whole w i v h grown e =
    let one : w - i ≡ suc (w - 1 - i) = omega (arith, h) in
    let two : w - (i + 1) ≡ w - 1 - i = omega (arith, h) in
    ap (λ (k : ℕ). new ++ low_bits k v) two ∙ (ap (λ (t : List Bool). t ++ low_bits (w - 1 - i) v) grown ∙ (append_assoc list (bit (w - 1 - i) v ∷ []) (low_bits (w - 1 - i) v) ∙ (ap (λ (k : ℕ). list ++ low_bits k v) (sym one) ∙ e)))
