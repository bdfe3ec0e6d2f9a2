use Rattle.acn_check.proofs.KindEnds.{fine_turn}
use Rattle.acn_check.proofs.ends.all_ends_told.Goals as goal

pub line_is_told-requires : goal.line_is_told-requires
line_is_told-requires c = fine_turn c.args.lines.now c.loop-line.line-index c.line-item.result c.loop-line-test.true c.line-item.is c.loop-line.invariant.fine
