use Rattle.std.proofs.Common.{◌≡◌, ◌≤◌, ◌-◌, true, ℤ, drop, take, length}
use Rattle.std.specs.Prelude.{◌<ℤ◌}
use Rattle.acn_num.specs.Ranges.{has}
use Rattle.acn_constraint.specs.Borders.{Ended}
use Rattle.acn_constraint.proofs.borders.beginning_below.Given as goal

abbrev pub invariant-loop-low : goal.invariant-loop-low
invariant-loop-low l = record {
  order : l.low ≤ l.high;
  within : l.high ≤ length l.ranges;
  above : (y : ℤ) → has (drop l.high l.ranges) y ≡ true → l.x <ℤ y;
  front : Ended (take l.low l.ranges) l.x;
}

abbrev pub decreases-loop-low : goal.decreases-loop-low
decreases-loop-low l = l.high - l.low
