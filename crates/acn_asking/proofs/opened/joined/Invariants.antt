use Rattle.std.proofs.Common.{◌≡◌, drop, ◌++◌}
use Rattle.acn_asking.proofs.opened.joined.Given as goal

abbrev pub invariant-loop-step : goal.invariant-loop-step
invariant-loop-step l = l.all ++ drop l.step-index l.front ≡ l.front

abbrev pub invariant-loop-step-2 : goal.invariant-loop-step-2
invariant-loop-step-2 l = l.all ++ drop l.step-index l.behind ≡ l.front ++ l.behind
