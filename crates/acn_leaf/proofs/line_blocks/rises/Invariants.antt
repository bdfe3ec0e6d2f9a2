use Rattle.std.proofs.Common.{◌≡◌, drop}
use Rattle.acn_leaf.specs.Neighbours.{neighbours_differ}
use Rattle.acn_leaf.specs.Sides.{reaches}
use Rattle.acn_leaf.proofs.line_blocks.rises.Given as goal

abbrev pub invariant-loop-at : goal.invariant-loop-at
invariant-loop-at l = neighbours_differ reaches (drop l.at l.ranges) ≡ neighbours_differ reaches l.ranges
