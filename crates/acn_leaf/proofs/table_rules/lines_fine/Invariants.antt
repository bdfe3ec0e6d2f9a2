use Rattle.std.proofs.Common.{◌≡◌, drop}
use Rattle.std.specs.List.{list_all}
use Rattle.acn_grammar.specs.Leaves.{line_fine}
use Rattle.acn_leaf.proofs.table_rules.lines_fine.Given as goal

abbrev pub invariant-loop-line : goal.invariant-loop-line
invariant-loop-line l = list_all line_fine (drop l.line-index l.lines) ≡ list_all line_fine l.lines
