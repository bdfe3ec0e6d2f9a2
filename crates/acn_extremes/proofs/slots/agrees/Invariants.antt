use Rattle.std.proofs.Common.{◌≡◌, drop}
use Rattle.acn_extreme_laws.specs.Reach.{agrees}
use Rattle.acn_extremes.proofs.slots.agrees.Given as goal

abbrev pub invariant-loop-other : goal.invariant-loop-other
invariant-loop-other l = agrees l.test (drop l.other-index l.others) ≡ agrees l.test l.others
