use Rattle.std.proofs.Common.{◌≡◌, nat_eq, drop}
use Rattle.std.specs.List.{list_any}
use Rattle.acn_extreme_laws.specs.Single.{tested}
use Rattle.acn_single.proofs.uses.is_among.Given as goal

abbrev pub invariant-loop-test : goal.invariant-loop-test
invariant-loop-test l = list_any (λ t. nat_eq t l.slot) (tested (drop l.test-index l.tests)) ≡ list_any (λ t. nat_eq t l.slot) (tested l.tests)
