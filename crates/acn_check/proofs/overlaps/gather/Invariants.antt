use Rattle.std.proofs.Common.{◌≡◌, drop}
use Rattle.acn_check.specs.First.{gathered}
use Rattle.acn_check.proofs.overlaps.gather.Given as goal

abbrev pub invariant-loop-test : goal.invariant-loop-test
invariant-loop-test l = gathered (drop l.test-index l.tests) l.values.items ≡ gathered l.tests l.initial.values.items
