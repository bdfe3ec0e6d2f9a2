use Rattle.std.proofs.Common.{◌+◌, ◌^◌, ◌∙◌, ap, sym, subst, arith, rules, min}
use Rattle.std.proofs.lemmas.Grind.{common_steps}
use Rattle.acn_grammar.specs.View.{grammar_of, data_of, elements_view}
use Rattle.acn_grammar.specs.declared.node.Node.{Node}
use Rattle.acn_lengths.specs.Measured.{CanMeasure, CanMeasureEach}
use Rattle.acn_grammar.specs.declared.node.Node.{the_lemmas}
use Rattle.acn_grammar.proofs.Views.{view_seq, view_seq_form}
use Rattle.acn_lengths.proofs.EndSteps.{below, alternative-at, alternative-past, can-case, can-list, list-length}
use Rattle.acn_lengths.proofs.ends.+end.Goals as goal

pub alternative_end-bit_end-requires : goal.alternative_end-bit_end-requires
alternative_end-bit_end-requires t c =
    let there = c.in-Some.ensures.lookup in
    (search (rules, the_lemmas), (can-case c.args.alternatives.now c.args.i c.in-Some.alternative.now (data_of c.args.v.now) (below _ _ there.0) there.1 c.requires.can, c.requires.near))

pub alternative_end-returns-in-Some-clause-value :
    goal.alternative_end-returns-in-Some-clause-value
alternative_end-returns-in-Some-clause-value t c =
    let there = c.in-Some.ensures.lookup in
    c.bit_end.ensures.value ∙ ap (λ n. min (c.args.at + n) (2 ^ 40)) (sym (alternative-at c.args.alternatives.now c.args.i c.args.at c.in-Some.alternative.now (data_of c.args.v.now) (below _ _ there.0) there.1))

pub body_end-returns-in-Seq-v-clause-value : goal.body_end-returns-in-Seq-v-clause-value
body_end-returns-in-Seq-v-clause-value t c = grind (arith, common_steps, view_seq, view_seq_form)

pub body_end-returns-in-List-v-clause-value : goal.body_end-returns-in-List-v-clause-value
body_end-returns-in-List-v-clause-value t c =
    let e = list-length c.args.body.now c.args.v.now _ _ _ c.args.at c.in-List.is c.in-List-v.is in
    grind (arith, common_steps)

pub alternative_end-returns-in-None-clause-value :
    goal.alternative_end-returns-in-None-clause-value
alternative_end-returns-in-None-clause-value t c = grind (arith, common_steps, alternative-past)

pub body_end-list_end-requires : goal.body_end-list_end-requires
body_end-list_end-requires t c =
    let can = can-list c.args.body.now c.args.v.now _ _ _ c.in-List.is c.in-List-v.is c.requires.can in (
      search (rules, the_lemmas),
      (
        subst (λ (g : Node). CanMeasureEach (CanMeasure (grammar_of g)) (elements_view c.items-in-List-v.result.now)) (sym c.get.ensures)
            (subst (λ vs. CanMeasureEach (CanMeasure (grammar_of c.in-List.element)) (elements_view vs)) (sym c.items-in-List-v.ensures) can),
        c.requires.near,
      ),
    )
