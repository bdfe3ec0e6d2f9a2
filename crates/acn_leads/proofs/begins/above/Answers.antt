use Rattle.std.proofs.Common.{arith, subst, ℕ, ◌<◌, ◌^◌}
use Rattle.acn_num.specs.Ranges.{distance}
use Rattle.acn_leads.proofs.BeginsLaw.{far_left}
use Rattle.acn_leads.proofs.begins.above.Goals as goal

pub returns-then-bits-ge128 : goal.returns-then-bits-ge128
returns-then-bits-ge128 c =
    let small : c.far_of-far.result < 2 ^ 128 = omega (arith, c.far_of-far.type_inv) in
    far_left (distance c.args.low.now c.args.x.now) c.args.bits (subst (λ (n : ℕ). n < 2 ^ 128) c.far_of-far.ensures small) (omega (arith, c.if-bits-ge128.true))
