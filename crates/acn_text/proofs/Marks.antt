-- Windows of some octets as numbers.
use Rattle.std.proofs.Common.{◌≡◌, ℕ, ◌+◌, ◌-◌, ◌*◌, ◌%◌, ◌^◌, ◌<◌, ◌≤◌, ap, ◌∙◌, arith}
use Rattle.std.proofs.lemmas.Nat.{pow-add, mul-add-lt, mod_below, one_shl}
use Rattle.std.proofs.Math.Nat.{pow-le-pow_right}

pub power_split : (w : ℕ) → 8 ≤ w → 2 ^ w ≡ 256 * 2 ^ (w - 8)
power_split w h = let e : w ≡ 8 + (w - 8) = omega arith in ap (λ k. 2 ^ k) e ∙ pow-add 2 8 (w - 8)

pub power_some : (k : ℕ) → 0 < 2 ^ k
power_some k = pow-le-pow_right {n = 2} (omega arith) {i = 0} {j = k} (omega arith)

pub octets_below : (w s o : ℕ) → 8 ≤ w → w ≤ 64 → o < 256 → s % 2 ^ (w - 8) * 256 + o < 2 ^ 64
octets_below w s o low high small =
    let p = 2 ^ (w - 8) in
    let m = mod_below s (2 ^ (w - 8)) (power_some (w - 8)) in
    let l = mul-add-lt (s % 2 ^ (w - 8)) 256 o (2 ^ (w - 8)) m small in
    let e = power_split w low in
    let t = pow-le-pow_right {n = 2} (omega arith) {i = w} {j = 64} high in
    omega (arith, l, e, t)

pub shifted_power : (w : ℕ) → w ≤ 64 → 1 * 2 ^ (w - 8) % 18446744073709551616 ≡ 2 ^ (w - 8)
shifted_power w h = one_shl (w - 8) 64 (omega arith)
