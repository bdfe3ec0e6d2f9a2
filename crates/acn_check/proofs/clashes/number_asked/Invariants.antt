use Rattle.std.proofs.Common.{◌≡◌, drop}
use Rattle.acn_check.specs.First.{number_asked}
use Rattle.acn_check.proofs.clashes.number_asked.Given as goal

abbrev pub invariant-loop-test : goal.invariant-loop-test
invariant-loop-test l = number_asked l.slot (drop l.test-index l.tests) ≡ number_asked l.slot l.tests
