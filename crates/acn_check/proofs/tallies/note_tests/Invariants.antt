use Rattle.std.proofs.Common.{◌≡◌, drop, map}
use Rattle.acn_grammar.specs.Walk.{condition}
use Rattle.acn_check.specs.Program.{tally_of}
use Rattle.acn_check.specs.First.{tallied}
use Rattle.acn_check.proofs.tallies.note_tests.Given as goal

abbrev pub invariant-loop-test : goal.invariant-loop-test
invariant-loop-test l = tallied (map tally_of l.tallies.items) (map condition (drop l.test-index l.tests)) ≡ tallied (map tally_of l.initial.tallies.items) (map condition l.tests)
