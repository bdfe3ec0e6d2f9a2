use Rattle.std.proofs.Common.{◌≡◌, drop}
use Rattle.acn_check.specs.First.{clash}
use Rattle.acn_check.proofs.clashes.clash.Given as goal

abbrev pub invariant-loop-test : goal.invariant-loop-test
invariant-loop-test l = clash (drop l.test-index l.one) l.other ≡ clash l.one l.other
