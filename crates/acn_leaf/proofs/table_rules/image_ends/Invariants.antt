use Rattle.std.proofs.Common.{◌≡◌, drop}
use Rattle.std.specs.List.{flat_map}
use Rattle.acn_leaf.specs.Ends.{ends_behind}
use Rattle.acn_grammar.specs.Images.{clipped, ends}
use Rattle.acn_leaf.proofs.table_rules.image_ends.Given as goal

abbrev pub invariant-loop-range : goal.invariant-loop-range
invariant-loop-range l = ends_behind l.wide (flat_map (λ r. flat_map (clipped r) l.lines) (drop l.range-index l.ranges)) ≡ ends (flat_map (λ r. flat_map (clipped r) l.lines) l.ranges)
