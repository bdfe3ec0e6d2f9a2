use Rattle.std.proofs.Common.{◌≡◌, drop}
use Rattle.acn_well_formed.specs.Kept.{tests_below}
use Rattle.acn_well_formed.proofs.node_rules.tests_below.Given as goal

abbrev pub invariant-loop-test : goal.invariant-loop-test
invariant-loop-test l = tests_below l.slots (drop l.test-index l.tests) ≡ tests_below l.slots l.tests
