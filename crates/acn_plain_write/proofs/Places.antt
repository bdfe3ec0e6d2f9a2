-- Bits of numbers, one at a time.
use Rattle.std.proofs.Common.{◌≡◌, ℕ, suc, ◌+◌, ◌-◌, ◌/◌, ◌%◌, ◌^◌, ◌<◌, ◌≤◌, Bool, false, List, [], ◌∷◌, ◌++◌, sym, ap, ◌∙◌, arith, append_assoc, nat_eq, replicate}
use Rattle.std.proofs.Math.Nat.{div-eq_of_lt, pow-le-pow_right}
use Rattle.acn_num.specs.Bits.{bit, low_bits}

pub add_zero : (list new whole : List Bool) (n i : ℕ) → i < n → new ≡ list ++ false ∷ [] → list ++ replicate (n - i) false ≡ whole → new ++ replicate (n - (i + 1)) false ≡ whole
add_zero list new whole n i h grown e =
    let one : n - i ≡ suc (n - (i + 1)) = omega (arith, h) in
    ap (λ (t : List Bool). t ++ replicate (n - (i + 1)) false) grown ∙ (append_assoc list (false ∷ []) (replicate (n - (i + 1)) false) ∙ (ap (λ (k : ℕ). list ++ replicate k false) (sym one) ∙ e))
