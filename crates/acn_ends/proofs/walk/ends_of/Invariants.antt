use Rattle.acn_ends.specs.Ends.{AreRight}
use Rattle.acn_ends.proofs.walk.ends_of.Given as goal

abbrev pub invariant-loop-spot : goal.invariant-loop-spot
invariant-loop-spot g l = AreRight (g.S.Steps.onward l.steps) l.ends
