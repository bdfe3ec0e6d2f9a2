-- A number is divided by a base, and its count of places grows by one.
use Rattle.std.proofs.Common.{◌≡◌, ℕ, ◌+◌, ◌*◌, ◌^◌, ◌<◌, ◌≤◌, add-one, arith}
use Rattle.std.proofs.Math.Nat.{pow-succ', pow-le-pow_right, mul-le-mul_right}

longer : (base w : ℕ) → base ^ (w + 1) ≡ base * base ^ w
longer base w = rw add-one (pow-succ' base w)

-- q is the rest divided by the base
pub below_step : (base span rest q w : ℕ) → rest + 1 ≤ base * (q + 1) → span < (rest + 1) * base ^ w → span < (q + 1) * base ^ (w + 1)
below_step base span rest q w more h =
    let scaled : (rest + 1) * base ^ w ≤ (base * (q + 1)) * base ^ w = mul-le-mul_right (base ^ w) more in
    rw longer (omega arith)

pub above_step : (base span rest q w : ℕ) → base * q ≤ rest → rest * base ^ w ≤ span → q * base ^ (w + 1) ≤ span
above_step base span rest q w less h =
    let scaled : (base * q) * base ^ w ≤ rest * base ^ w = mul-le-mul_right (base ^ w) less in
    rw longer (omega arith)

pub least_step : (base span rest w v : ℕ) → 1 < base → rest * base ^ w ≤ span → 0 < rest → span < base ^ v → w + 1 ≤ v
least_step base span rest w v some_base above some below =
    let one : 1 * base ^ w ≤ rest * base ^ w = mul-le-mul_right (base ^ w) some in
    let grows : v ≤ w → base ^ v ≤ base ^ w = λ h. pow-le-pow_right {n = base} (omega arith) h in
    grind (arith, grows)
