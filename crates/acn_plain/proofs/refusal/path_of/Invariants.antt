use Rattle.std.proofs.Common.{◌≡◌, ◌++◌, drop, ◌≤◌, length}
use Rattle.acn_num.specs.declared.limits.TheConstants.{MOST_STEPS}
use Rattle.acn_plain.proofs.refusal.path_of.Given as goal

abbrev pub invariant-loop-step : goal.invariant-loop-step
invariant-loop-step l = record {
  same : l.path ++ drop l.step-index l.steps ≡ l.steps;
  long : length l.steps ≤ MOST_STEPS;
}
