use Rattle.acn_plain_write.proofs.Places.{add_zero}
use Rattle.acn_plain_write.proofs.parts.put_zeros.Goals as goal

pub loop-i-preserved : goal.loop-i-preserved
loop-i-preserved c = add_zero c.loop-i.bits c.push.new.self _ c.args.count c.loop-i.i c.loop-i-test.true c.in_ok-push.ensures.ok c.loop-i.invariant
