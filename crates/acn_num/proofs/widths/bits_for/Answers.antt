use Rattle.std.proofs.Common.{arith}
use Rattle.acn_num.proofs.Halves.{below_step, above_step, least_step}
use Rattle.acn_num.proofs.widths.bits_for.Goals as goal

pub loop-rest-preserved : goal.loop-rest-preserved
loop-rest-preserved c =
    let i = c.loop-rest.invariant in
    record {
      below = below_step 2 c.args.span c.loop-rest.rest _ c.loop-rest.width (omega arith) i.below;
      above = above_step 2 c.args.span c.loop-rest.rest _ c.loop-rest.width (omega arith) i.above;
      least = λ v h z. least_step 2 c.args.span c.loop-rest.rest c.loop-rest.width v (omega arith) i.above (omega arith) h;
      fits = least_step 2 c.args.span c.loop-rest.rest c.loop-rest.width 64 (omega arith) i.above (omega arith) c.ranges.span.fits;
    }
