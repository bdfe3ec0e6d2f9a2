use Rattle.std.proofs.Common.{ap, ◌∙◌, arith, drop, get_or, ◌+◌, ◌++◌, drop_of_length-le}
use Rattle.std.proofs.lemmas.List.{at_drop_more}
use Rattle.std.proofs.lemmas.Result.{err_from_is_err_and}
use Rattle.acn_grammar.specs.View.{grammar_of}
use Rattle.acn_print.proofs.Joining.{goes_on, breaks_off, ends}
use Rattle.acn_report.specs.Names.{Child, step_text, steps_text}
use Rattle.acn_report.proofs.Children.{taken, not_taken}
use Rattle.acn_report.proofs.path.put_steps.Goals as goal

pub returns-in_err-put_step-in-Some : goal.returns-in_err-put_step-in-Some
returns-in_err-put_step-in-Some g c =
    let at = grammar_of c.loop-step.at.now in
    let k = get_or c.args.steps.now c.loop-step.step-index 0 in
    let rest = drop (c.loop-step.step-index + 1) c.args.steps.now in
    let p = err_from_is_err_and c.from_residual.result c.from_residual.ensures.1 in
    let turn = at_drop_more (steps_text c.args.elements at) c.args.steps.now c.loop-step.step-index 0 c.loop-step-test.true in
    rw p.1 (breaks_off _ _ _ _ c.loop-step.invariant _ _ _ c.in_err-put_step-in-Some.field-0.0 p.0 (turn ∙ taken at k (λ (d : Child). step_text c.args.elements d.0 ++ steps_text c.args.elements d.1 rest) _ c.in-Some.ensures) c.in_err-put_step-in-Some.ensures)

pub loop-step-preserved : goal.loop-step-preserved
loop-step-preserved g c =
    let at = grammar_of c.loop-step.at.now in
    let k = get_or c.args.steps.now c.loop-step.step-index 0 in
    let rest = drop (c.loop-step.step-index + 1) c.args.steps.now in
    let turn = at_drop_more (steps_text c.args.elements at) c.args.steps.now c.loop-step.step-index 0 c.loop-step-test.true in
    goes_on _ _ _ _ c.loop-step.invariant _ _ _ (turn ∙ taken at k (λ (d : Child). step_text c.args.elements d.0 ++ steps_text c.args.elements d.1 rest) _ c.in-Some.ensures) c.in_ok-put_step-in-Some.ensures

pub returns-in-None : goal.returns-in-None
returns-in-None g c =
    let at = grammar_of c.loop-step.at.now in
    let k = get_or c.args.steps.now c.loop-step.step-index 0 in
    let rest = drop (c.loop-step.step-index + 1) c.args.steps.now in
    let turn = at_drop_more (steps_text c.args.elements at) c.args.steps.now c.loop-step.step-index 0 c.loop-step-test.true in
    ends _ _ _ _ c.loop-step.invariant (turn ∙ not_taken at k (λ (d : Child). step_text c.args.elements d.0 ++ steps_text c.args.elements d.1 rest) c.in-None.ensures)

pub returns : goal.returns
returns g c = ends _ _ _ _ c.loop-step.invariant (ap (steps_text c.args.elements (grammar_of c.loop-step.at.now)) (drop_of_length-le c.args.steps.now (omega arith)))
