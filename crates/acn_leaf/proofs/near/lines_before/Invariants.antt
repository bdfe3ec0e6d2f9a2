use Rattle.std.proofs.Common.{◌≡◌, ◌≤◌, ◌-◌, true, take, length}
use Rattle.std.specs.Prelude.{int_lt}
use Rattle.std.specs.List.{list_all}
use Rattle.acn_leaf.proofs.near.lines_before.Given as goal

abbrev pub invariant-loop-low : goal.invariant-loop-low
invariant-loop-low l = record {
  order : l.low ≤ l.high;
  within : l.high ≤ length l.lines;
  before : list_all (λ line. int_lt line.1 l.x) (take l.low l.lines) ≡ true;
}

abbrev pub decreases-loop-low : goal.decreases-loop-low
decreases-loop-low l = l.high - l.low
