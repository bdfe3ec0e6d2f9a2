use Rattle.std.proofs.Common.{◌-◌}
use Rattle.acn_leaf.proofs.Rising.{Halved}
use Rattle.acn_leaf.proofs.line_blocks.meets_one.Given as goal

abbrev pub invariant-loop-low : goal.invariant-loop-low
invariant-loop-low l = Halved l.range l.ranges l.low l.high

abbrev pub decreases-loop-low : goal.decreases-loop-low
decreases-loop-low l = l.high - l.low
