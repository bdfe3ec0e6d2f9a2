use Rattle.std.proofs.Common.{◌-◌, drop, arith}
use Rattle.acn_grammar.specs.Leaves.{line_fine}
use Rattle.acn_leaf.proofs.NearLines.{images_near}
use Rattle.acn_leaf.proofs.TableRules.{all_take, all_drop}
use Rattle.acn_leaf.proofs.near.near.Goals as goal

pub returns-clause-fine : goal.returns-clause-fine
returns-clause-fine c =
    all_take line_fine (c.first_behind-end.result - c.min-start.result) (drop c.min-start.result c.args.lines.now) (all_drop line_fine c.args.lines.now c.min-start.result c.requires.fine)

pub returns-clause-images : goal.returns-clause-images
returns-clause-images c =
    let m = c.min-start.ensures in
    images_near c.args.range.now c.args.lines.now c.lines_before.result c.min-start.result c.first_behind-end.result (omega arith) (omega arith) c.lines_before.ensures.before c.first_behind-end.ensures.behind
