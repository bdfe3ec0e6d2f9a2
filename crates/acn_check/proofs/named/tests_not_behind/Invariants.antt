use Rattle.std.proofs.Common.{◌≡◌, drop, map}
use Rattle.acn_grammar.specs.Walk.{condition}
use Rattle.acn_check.specs.Facts.{facts_of}
use Rattle.acn_check.specs.Program.{det_of}
use Rattle.acn_check.specs.First.{first_of, behind}
use Rattle.acn_check.proofs.named.tests_not_behind.Given as goal

abbrev pub invariant-loop-test : goal.invariant-loop-test
invariant-loop-test l = first_of (λ u named. behind (map det_of l.dets) l.at (facts_of l.line) named) l.test-index (map condition (drop l.test-index l.tests)) ≡ first_of (λ u named. behind (map det_of l.dets) l.at (facts_of l.line) named) 0 (map condition l.tests)
