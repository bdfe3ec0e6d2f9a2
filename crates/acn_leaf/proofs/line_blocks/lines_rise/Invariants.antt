use Rattle.std.proofs.Common.{◌≡◌, drop, map}
use Rattle.acn_leaf.specs.Neighbours.{neighbours_differ}
use Rattle.acn_leaf.specs.Sides.{range_of, reaches}
use Rattle.acn_leaf.proofs.line_blocks.lines_rise.Given as goal

abbrev pub invariant-loop-at : goal.invariant-loop-at
invariant-loop-at l = neighbours_differ reaches (map (range_of l.side) (drop l.at l.lines)) ≡ neighbours_differ reaches (map (range_of l.side) l.lines)
