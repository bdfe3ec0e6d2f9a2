use Rattle.std.proofs.Common.{List, ℕ, true, map, subst}
use Rattle.acn_grammar.specs.Asks.{test_asks}
use Rattle.acn_asking.specs.Gathered.{paths_of, Gathers}
use Rattle.acn_asking.proofs.parts.ask_case.Goals as goal

pub returns-clause-said : goal.returns-clause-said
returns-clause-said c = λ root h.
    subst (λ (p : List ℕ). Gathers root (map (test_asks (paths_of c.args.slots.now) p true) c.args.tests.now) c.args.moments.now c.ask_tests.new.moments) c.push.ensures (c.in_ok-ask_tests.ensures root h)
