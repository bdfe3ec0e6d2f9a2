use Rattle.std.proofs.Common.{◌≡◌, ◌≤◌, ◌-◌, true, drop, length}
use Rattle.std.specs.Prelude.{int_lt}
use Rattle.std.specs.List.{list_all}
use Rattle.acn_leaf.proofs.near.first_behind.Given as goal

abbrev pub invariant-loop-low : goal.invariant-loop-low
invariant-loop-low l = record {
  order : l.low ≤ l.high;
  within : l.high ≤ length l.lines;
  behind : list_all (λ line. int_lt l.x line.0) (drop l.high l.lines) ≡ true;
}

abbrev pub decreases-loop-low : goal.decreases-loop-low
decreases-loop-low l = l.high - l.low
