use Rattle.std.proofs.Common.{◌≡◌, drop}
use Rattle.acn_leaf.specs.Ends.{ends_behind}
use Rattle.acn_grammar.specs.Images.{ends}
use Rattle.acn_leaf.proofs.table_rules.ends.Given as goal

abbrev pub invariant-loop-range : goal.invariant-loop-range
invariant-loop-range l = ends_behind l.wide (drop l.range-index l.ranges) ≡ ends l.ranges
