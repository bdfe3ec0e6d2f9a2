use Rattle.std.proofs.Common.{◌≡◌, ◌++◌, drop}
use Rattle.std.specs.Prelude.{map}
use Rattle.acn_grammar.specs.Asks.{test_asks}
use Rattle.acn_grammar.specs.Grammar.{Grammar}
use Rattle.acn_grammar.specs.Scoped.{TestsIn}
use Rattle.acn_grammar.specs.Tree.{holds}
use Rattle.acn_asking.specs.Gathered.{paths_of, slots_of, LeavesIn, with_numbers, with_domain}
use Rattle.acn_asking.proofs.parts.ask_tests.Given as goal

abbrev pub invariant-loop-test : goal.invariant-loop-test
invariant-loop-test l = record {
  known : TestsIn (holds (slots_of l.slots)) (drop l.test-index l.tests);
  same : (root : Grammar) → LeavesIn root l.slots → map with_numbers l.moments ++ map (with_domain root) (map (test_asks (paths_of l.slots) l.path l.there) (drop l.test-index l.tests)) ≡ map with_numbers l.fn.moments ++ map (with_domain root) (map (test_asks (paths_of l.slots) l.path l.there) l.tests);
}
