use Rattle.std.proofs.Common.{sym, subst}
use Rattle.acn_grammar.specs.Asks.{rule_asks}
use Rattle.acn_grammar.specs.declared.node.ChoiceRule.{ChoiceRule}
use Rattle.acn_asking.specs.Gathered.{paths_of, Gathers}
use Rattle.acn_asking.proofs.Opens.{on_ok}
use Rattle.acn_asking.proofs.parts.ask_rule.Goals as goal

pub returns-in-Tests-clause-said : goal.returns-in-Tests-clause-said
returns-in-Tests-clause-said c =
    on_ok c.ask_case.result c.ask_case.ensures.said (λ said root h.
    subst (λ (r : ChoiceRule). Gathers root (rule_asks root (paths_of c.args.slots.now) c.args.path.now c.args.i r c.args.name.now c.args.tests.now) c.args.moments.now c.ask_case.new.moments) (sym c.in-Tests.is) (said root h))

pub returns-in-Index-clause-said : goal.returns-in-Index-clause-said
returns-in-Index-clause-said c =
    on_ok c.ask_case-in-Index.result c.ask_case-in-Index.ensures.said (λ said root h.
    subst (λ (r : ChoiceRule). Gathers root (rule_asks root (paths_of c.args.slots.now) c.args.path.now c.args.i r c.args.name.now c.args.tests.now) c.args.moments.now c.ask_case-in-Index.new.moments) (sym c.in-Index.is) (said root h))
