use Rattle.std.proofs.Common.{◌≡◌, ◌++◌, drop, map}
use Rattle.acn_leaf.specs.Sides.{range_of}
use Rattle.acn_leaf.proofs.line_blocks.all_ranges.Given as goal

abbrev pub invariant-loop-line : goal.invariant-loop-line
invariant-loop-line l = l.ranges.items ++ map (range_of l.side) (drop l.line-index l.lines) ≡ map (range_of l.side) l.lines
