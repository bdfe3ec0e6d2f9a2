use Rattle.std.proofs.Common.{ap, arith, rules, map}
use Rattle.std.proofs.lemmas.List.{drop_all}
use Rattle.acn_grammar.specs.Asks.{test_asks}
use Rattle.acn_asking.specs.Gathered.{paths_of}
use Rattle.acn_asking.proofs.Steps.{tests_rest, tests_turn, over}
use Rattle.acn_asking.proofs.parts.ask_tests.Goals as goal

pub loop-test-preserved : goal.loop-test-preserved
loop-test-preserved c =
    let l = c.loop-test in
    record {
      known = tests_rest _ c.args.tests.now l.test-index (omega arith) l.invariant.known;
      same = λ root h. tests_turn root (test_asks (paths_of c.args.slots.now) c.args.path.now c.args.there) c.args.tests.now l.test-index _ _ _ _ (omega arith) (search rules) (c.in_ok-ask_test.ensures root h) (l.invariant.same root h);
    }

pub returns : goal.returns
returns c = λ root h.
    over root _ _ _ _ (ap (map (test_asks (paths_of c.args.slots.now) c.args.path.now c.args.there)) (drop_all c.loop-test.test-index c.args.tests.now (omega arith))) (c.loop-test.invariant.same root h)
