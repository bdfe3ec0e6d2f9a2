use Rattle.std.proofs.Common.{◌≡◌, ◌++◌, drop, ◌≤◌, length}
use Rattle.acn_num.proofs.path.Path.copy.Given as goal

abbrev pub invariant-loop-step : goal.invariant-loop-step
invariant-loop-step l = record {
  same : l.path ++ drop l.step-index l.self ≡ l.self;
  long : length l.self ≤ 64;
}
