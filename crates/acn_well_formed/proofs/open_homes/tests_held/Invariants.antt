use Rattle.std.proofs.Common.{◌≡◌, drop, map}
use Rattle.acn_well_formed.specs.Held.{tests_held}
use Rattle.acn_well_formed.proofs.open_homes.tests_held.Given as goal

abbrev pub invariant-loop-test : goal.invariant-loop-test
invariant-loop-test l = tests_held (map (λ home. home.now) l.homes) (drop l.test-index l.tests) ≡ tests_held (map (λ home. home.now) l.homes) l.tests
