use Rattle.std.proofs.Common.{◌≡◌, drop}
use Rattle.std.specs.List.{flat_map}
use Rattle.acn_num.specs.Ranges.{count}
use Rattle.acn_grammar.specs.Images.{clipped}
use Rattle.acn_leaf.specs.Taken.{left_of}
use Rattle.acn_leaf.proofs.table_rules.left_by_ranges.Given as goal

abbrev pub invariant-loop-range : goal.invariant-loop-range
invariant-loop-range l = left_of l.rest (count (flat_map (λ r. flat_map (clipped r) l.lines) (drop l.range-index l.ranges))) ≡ left_of l.left (count (flat_map (λ r. flat_map (clipped r) l.lines) l.ranges))
