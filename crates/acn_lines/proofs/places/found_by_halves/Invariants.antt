use Rattle.std.proofs.Common.{◌≤◌, ◌-◌, length}
use Rattle.acn_lines.proofs.places.found_by_halves.Given as goal

abbrev pub invariant-loop-low : goal.invariant-loop-low
invariant-loop-low l = l.high ≤ length l.turns

abbrev pub decreases-loop-low : goal.decreases-loop-low
decreases-loop-low l = l.high - l.low
