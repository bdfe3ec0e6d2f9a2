use Rattle.acn_grammar.specs.Images.{clipped}
use Rattle.acn_leaf.proofs.TableRules.{turned_some}
use Rattle.acn_leaf.proofs.table_rules.left_by_lines.Goals as goal

pub loop-line-preserved : goal.loop-line-preserved
loop-line-preserved c = turned_some (clipped c.args.range.now) c.loop-line.rest c.args.lines.now c.loop-line.line-index _ c.in-Some.less _ c.loop-line-test.true c.in-Some.ensures c.loop-line.invariant
