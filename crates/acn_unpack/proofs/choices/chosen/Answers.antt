use Rattle.std.proofs.Common.{subst, sym}
use Rattle.std.specs.Prelude.{MatchOption}
use Rattle.acn_grammar.specs.declared.node.ChoiceRule.{ChoiceRule}
use Rattle.acn_plan.specs.Back.{root_of, cases_at}
use Rattle.acn_reads.specs.Choices.{Choosing, Unchosen, RuleKnown}
use Rattle.acn_reads.proofs.ChoiceReads.{tests_answer}
use Rattle.acn_unpack.proofs.choices.chosen.Goals as goal

pub returns-in-Tests : goal.returns-in-Tests
returns-in-Tests c =
    subst (λ (r : ChoiceRule). MatchOption c.first_holding.result (Unchosen (root_of c.args.steps.now) (cases_at c.args.steps.now c.args.first c.args.end) r c.args.slots.now) (Choosing (root_of c.args.steps.now) (cases_at c.args.steps.now c.args.first c.args.end) r c.args.slots.now)) (sym c.in-Tests.is)
    (tests_answer (root_of c.args.steps.now) c.args.slots.now (cases_at c.args.steps.now c.args.first c.args.end) c.first_holding.result (subst (λ (r : ChoiceRule). RuleKnown r (cases_at c.args.steps.now c.args.first c.args.end) c.args.slots.now) c.in-Tests.is c.requires.known) c.first_holding.ensures)

pub item_case-requires : goal.item_case-requires
item_case-requires c = record {
  made = c.requires.made;
  within = c.requires.within;
  items = c.requires.items c.in-Item.slot c.in-Item.is;
  known = subst (λ (r : ChoiceRule). RuleKnown r (cases_at c.args.steps.now c.args.first c.args.end) c.args.slots.now) c.in-Item.is c.requires.known;
}

pub returns-in-Item : goal.returns-in-Item
returns-in-Item c =
    subst (λ (r : ChoiceRule). MatchOption c.item_case.result (Unchosen (root_of c.args.steps.now) (cases_at c.args.steps.now c.args.first c.args.end) r c.args.slots.now) (Choosing (root_of c.args.steps.now) (cases_at c.args.steps.now c.args.first c.args.end) r c.args.slots.now)) (sym c.in-Item.is) c.item_case.ensures
