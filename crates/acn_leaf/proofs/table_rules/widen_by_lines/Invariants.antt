use Rattle.std.proofs.Common.{◌≡◌, drop}
use Rattle.std.specs.List.{flat_map}
use Rattle.acn_leaf.specs.Ends.{ends_behind}
use Rattle.acn_grammar.specs.Images.{clipped}
use Rattle.acn_leaf.proofs.table_rules.widen_by_lines.Given as goal

abbrev pub invariant-loop-line : goal.invariant-loop-line
invariant-loop-line l = ends_behind l.wide (flat_map (clipped l.range) (drop l.line-index l.lines)) ≡ ends_behind l.fn.ends (flat_map (clipped l.range) l.lines)
