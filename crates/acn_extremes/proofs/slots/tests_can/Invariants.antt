use Rattle.std.proofs.Common.{◌≡◌, drop}
use Rattle.acn_grammar.specs.View.{grammar_of}
use Rattle.acn_extreme_laws.specs.Reach.{tests_can}
use Rattle.acn_extremes.proofs.slots.tests_can.Given as goal

abbrev pub invariant-loop-k : goal.invariant-loop-k
invariant-loop-k l = tests_can (grammar_of l.slots.root.now) (drop l.k l.tests) ≡ tests_can (grammar_of l.slots.root.now) l.tests
