use Rattle.std.proofs.Common.{◌≡◌, ◌≤◌, ◌+◌, drop}
use Rattle.acn_extreme_laws.specs.Single.{tested, count_of_slot}
use Rattle.acn_single.specs.Lines.{few}
use Rattle.acn_single.proofs.uses.tests_on.Given as goal

abbrev pub invariant-loop-test : goal.invariant-loop-test
invariant-loop-test l = record {
  value : few (l.count + count_of_slot l.slot (tested (drop l.test-index l.tests))) ≡ few (count_of_slot l.slot (tested l.tests));
  small : l.count ≤ 2;
}
