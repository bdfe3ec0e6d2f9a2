use Rattle.std.proofs.Common.{◌+◌, ◌-◌, drop, length}
use Rattle.acn_grammar.specs.Leaves.{line_fine}
use Rattle.acn_leaf.proofs.TableRules.{all_take, all_drop}
use Rattle.acn_leaf.proofs.line_blocks.lines_rise.Goals as goal

pub line_reaches_next-requires-clause-behind : goal.line_reaches_next-requires-clause-behind
line_reaches_next-requires-clause-behind c =
    all_take line_fine (length c.args.lines.now - (c.loop-at.at + 1)) (drop (c.loop-at.at + 1) c.args.lines.now) (all_drop line_fine c.args.lines.now (c.loop-at.at + 1) c.requires)
