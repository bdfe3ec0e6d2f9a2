use Rattle.acn_grammar.specs.Images.{clipped}
use Rattle.acn_leaf.proofs.TableRules.{ends_turned}
use Rattle.acn_leaf.proofs.table_rules.widen_by_lines.Goals as goal

pub loop-line-preserved : goal.loop-line-preserved
loop-line-preserved c = ends_turned (clipped c.args.range.now) c.loop-line.wide c.widen_by_line-wide.result _ c.args.lines.now c.loop-line.line-index _ c.loop-line-test.true c.widen_by_line-wide.ensures c.loop-line.invariant
