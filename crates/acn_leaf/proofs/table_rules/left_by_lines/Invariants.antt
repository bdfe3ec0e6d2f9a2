use Rattle.std.proofs.Common.{◌≡◌, drop}
use Rattle.std.specs.List.{flat_map}
use Rattle.acn_num.specs.Ranges.{count}
use Rattle.acn_grammar.specs.Images.{clipped}
use Rattle.acn_leaf.specs.Taken.{left_of}
use Rattle.acn_leaf.proofs.table_rules.left_by_lines.Given as goal

abbrev pub invariant-loop-line : goal.invariant-loop-line
invariant-loop-line l = left_of l.rest (count (flat_map (clipped l.range) (drop l.line-index l.lines))) ≡ left_of l.left (count (flat_map (clipped l.range) l.lines))
