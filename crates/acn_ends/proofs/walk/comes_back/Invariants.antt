use Rattle.acn_ends.proofs.Leading.{Leads}
use Rattle.acn_ends.proofs.walk.comes_back.Given as goal

abbrev pub invariant-loop-step : goal.invariant-loop-step
invariant-loop-step g l = Leads (g.S.Steps.onward l.steps) l.step l.from l.at
