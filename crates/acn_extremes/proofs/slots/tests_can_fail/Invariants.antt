use Rattle.std.proofs.Common.{◌≡◌, drop}
use Rattle.acn_grammar.specs.View.{grammar_of}
use Rattle.acn_extreme_laws.specs.Reach.{tests_can_fail}
use Rattle.acn_extremes.proofs.slots.tests_can_fail.Given as goal

abbrev pub invariant-loop-test : goal.invariant-loop-test
invariant-loop-test l = tests_can_fail (grammar_of l.slots.root.now) (drop l.test-index l.tests) ≡ tests_can_fail (grammar_of l.slots.root.now) l.tests
