use Rattle.std.proofs.Common.{ap, ◌∙◌, arith, drop, get_or, ◌+◌, ◌++◌, ◌||◌, drop_of_length-le}
use Rattle.std.proofs.lemmas.List.{at_drop_more}
use Rattle.std.proofs.lemmas.Result.{err_from_is_err_and}
use Rattle.acn_grammar.specs.View.{grammar_of}
use Rattle.acn_print.proofs.Joining.{goes_on, breaks_off, ends}
use Rattle.acn_report.specs.Names.{Child, has_name, name_words, names_from}
use Rattle.acn_report.proofs.Children.{taken, not_taken}
use Rattle.acn_report.proofs.path.put_steps_names.Goals as goal

pub returns-in_err-put_name-in-Some : goal.returns-in_err-put_name-in-Some
returns-in_err-put_name-in-Some g c =
    let at = grammar_of c.loop-step.at.now in
    let k = get_or c.args.steps.now c.loop-step.step-index 0 in
    let rest = drop (c.loop-step.step-index + 1) c.args.steps.now in
    let b = c.loop-step.begun in
    let p = err_from_is_err_and c.from_residual.result c.from_residual.ensures.1 in
    let turn = at_drop_more (names_from b at) c.args.steps.now c.loop-step.step-index 0 c.loop-step-test.true in
    rw p.1 (breaks_off _ _ _ _ c.loop-step.invariant _ _ _ c.in_err-put_name-in-Some.field-0.0 p.0 (turn ∙ taken at k (λ (d : Child). name_words b d.0 ++ names_from (b || has_name d.0) d.1 rest) _ c.in-Some.ensures) c.in_err-put_name-in-Some.ensures)

pub loop-step-preserved : goal.loop-step-preserved
loop-step-preserved g c =
    let at = grammar_of c.loop-step.at.now in
    let k = get_or c.args.steps.now c.loop-step.step-index 0 in
    let rest = drop (c.loop-step.step-index + 1) c.args.steps.now in
    let b = c.loop-step.begun in
    let turn = at_drop_more (names_from b at) c.args.steps.now c.loop-step.step-index 0 c.loop-step-test.true in
    let later = turn ∙ taken at k (λ (d : Child). name_words b d.0 ++ names_from (b || has_name d.0) d.1 rest) _ c.in-Some.ensures in
    rw c.has_begun-begun.ensures (goes_on _ _ _ _ c.loop-step.invariant _ _ _ later c.in_ok-put_name-in-Some.ensures)

pub returns-in-None : goal.returns-in-None
returns-in-None g c =
    let at = grammar_of c.loop-step.at.now in
    let k = get_or c.args.steps.now c.loop-step.step-index 0 in
    let rest = drop (c.loop-step.step-index + 1) c.args.steps.now in
    let b = c.loop-step.begun in
    let turn = at_drop_more (names_from b at) c.args.steps.now c.loop-step.step-index 0 c.loop-step-test.true in
    ends _ _ _ _ c.loop-step.invariant (turn ∙ not_taken at k (λ (d : Child). name_words b d.0 ++ names_from (b || has_name d.0) d.1 rest) c.in-None.ensures)

pub returns : goal.returns
returns g c = ends _ _ _ _ c.loop-step.invariant (ap (names_from c.loop-step.begun (grammar_of c.loop-step.at.now)) (drop_of_length-le c.args.steps.now (omega arith)))
