use Rattle.std.proofs.Common.{arith}
use Rattle.std.proofs.Math.Nat.{pow-le-pow_right}
use Rattle.acn_ints.proofs.digit_writer.power_of_ten.Goals as goal

pub overflow_mul-power : goal.overflow_mul-power
overflow_mul-power c =
    let is = c.loop-i.invariant.power in
    let few = c.requires in
    let more = c.loop-i-test.true in
    let m = pow-le-pow_right {n = 10} (omega arith) {i = c.loop-i.i} {j = 18} (omega (arith, few, more)) in
    record { fits = omega (arith, is, m) }
