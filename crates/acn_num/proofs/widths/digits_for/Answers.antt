use Rattle.std.proofs.Common.{arith}
use Rattle.acn_num.proofs.Halves.{below_step, above_step, least_step}
use Rattle.acn_num.proofs.widths.digits_for.Goals as goal

pub loop-rest-preserved : goal.loop-rest-preserved
loop-rest-preserved c =
    let i = c.loop-rest.invariant in
    record {
      below = below_step 10 c.args.x c.loop-rest.rest _ c.loop-rest.count (omega arith) i.below;
      above = above_step 10 c.args.x c.loop-rest.rest _ c.loop-rest.count (omega arith) i.above;
      least = λ v h z. least_step 10 c.args.x c.loop-rest.rest c.loop-rest.count v (omega arith) i.above (omega arith) h;
      fits = least_step 10 c.args.x c.loop-rest.rest c.loop-rest.count 20 (omega arith) i.above (omega arith) (omega arith);
    }
