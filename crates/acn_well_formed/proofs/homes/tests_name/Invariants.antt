use Rattle.std.proofs.Common.{◌≡◌, drop}
use Rattle.acn_well_formed.specs.Seen.{tests_name}
use Rattle.acn_well_formed.proofs.homes.tests_name.Given as goal

abbrev pub invariant-loop-test : goal.invariant-loop-test
invariant-loop-test l = tests_name l.slot (drop l.test-index l.tests) ≡ tests_name l.slot l.tests
