use Rattle.acn_check.specs.Facts.{facts_of}
use Rattle.acn_check.proofs.Tallying.{tallied_next}
use Rattle.acn_check.proofs.tallies.count_uses.Goals as goal

pub loop-line-preserved : goal.loop-line-preserved
loop-line-preserved c = tallied_next facts_of c.args.lines.now c.loop-line.line-index c.line-item.result _ _ _ c.loop-line-test.true c.line-item.is c.loop-line.invariant c.note_line.ensures
