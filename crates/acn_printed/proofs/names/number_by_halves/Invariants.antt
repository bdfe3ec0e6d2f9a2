use Rattle.std.proofs.Common.{◌≤◌, ◌-◌, length}
use Rattle.acn_printed.proofs.names.number_by_halves.Given as goal

abbrev pub invariant-loop-low : goal.invariant-loop-low
invariant-loop-low g l = l.high ≤ length l.numbers

abbrev pub decreases-loop-low : goal.decreases-loop-low
decreases-loop-low g l = l.high - l.low
