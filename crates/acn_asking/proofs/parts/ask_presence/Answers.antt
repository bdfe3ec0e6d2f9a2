use Rattle.std.proofs.Common.{ap, sym, ◌∙◌, map, subst}
use Rattle.acn_grammar.specs.Asks.{test_asks, presence_asks}
use Rattle.acn_asking.specs.Gathered.{paths_of, Gathers}
use Rattle.acn_asking.proofs.Opens.{on_ok}
use Rattle.acn_asking.proofs.parts.ask_presence.Goals as goal

pub returns-in-When : goal.returns-in-When
returns-in-When c =
    let paths = paths_of c.args.slots.now in
    on_ok c.ask_tests.result c.ask_tests.ensures (λ said root h.
    subst (λ ms. Gathers root ms c.args.moments.now c.ask_tests.new.moments)
    (sym (ap (presence_asks paths c.args.path.now c.args.there) c.in-When.is ∙ ap (map (test_asks paths c.args.path.now c.args.there)) (sym c.items.ensures))) (said root h))
