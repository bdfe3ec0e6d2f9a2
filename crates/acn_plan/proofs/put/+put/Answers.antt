use Rattle.std.proofs.Common.{arith, rules, ◌≡◌, ℕ, ◌+◌, ◌++◌, ◌∷◌, [], length, drop, sym, ap, ◌∙◌}
use Rattle.acn_grammar.specs.Grammar.{Fields, Alternatives}
use Rattle.acn_grammar.specs.View.{grammar_of, field_of, fields_view, alternatives_view}
use Rattle.acn_plan.specs.Steps.{fields_count, cases_count, case_numbers, field_steps, case_steps}
use Rattle.acn_plan.proofs.Puts.{node_done, node_long, fields_from, cases_from, field_put, field_more, case_put, case_listed}
use Rattle.acn_plan.proofs.put.+put.Goals as goal

pub put_node-end_step-requires-clause-few : goal.put_node-end_step-requires-clause-few
put_node-end_step-requires-clause-few t c =
    let long = node_long (grammar_of c.args.root.now) c.args.place c.args.node.now c.args.steps.now.items c.put_step.new.steps.items c.put_body.new.steps.items c.in_ok-put_step.ensures c.in_ok-numbers.ensures.put in
    let few = c.requires.few in
    omega (arith, long, few)

pub put_node-returns : goal.put_node-returns
put_node-returns t c =
    let long : c.len-at.result ≡ length c.args.steps.now.items = search rules in
    node_done (grammar_of c.args.root.now) c.args.place c.args.node.now c.args.steps.now.items c.put_step.new.steps.items c.put_body.new.steps.items c.end_step.new.steps.items c.in_ok-numbers.numbers c.in_ok-put_step.ensures c.in_ok-numbers.ensures.put c.in_ok-numbers.ensures.numbers (λ front behind s here. c.end_step.ensures front behind s (here ∙ sym long))

pub put_fields-loop-field-preserved : goal.put_fields-loop-field-preserved
put_fields-loop-field-preserved t c =
    let l = c.loop-field in
    let from = fields_from c.args.fields.now l.field-index c.field-item.result c.loop-field-test.true c.field-item.is in
    let next = fields_view (drop (l.field-index + 1) c.args.fields.now) in
    record {
      few = field_more (grammar_of c.args.root.now) (field_of c.field-item.result) next l.steps.items c.put_field.new.steps.items c.in_ok-put_field.ensures ∙ (ap (λ (x : Fields). length l.steps.items + fields_count x) (sym from) ∙ l.invariant.few);
      put = field_put (grammar_of c.args.root.now) (field_of c.field-item.result) next l.steps.items c.put_field.new.steps.items c.in_ok-put_field.ensures ∙ (ap (λ (x : Fields). l.steps.items ++ field_steps (grammar_of c.args.root.now) (length l.steps.items) x) (sym from) ∙ l.invariant.put);
    }

pub put_cases-loop-alternative-preserved : goal.put_cases-loop-alternative-preserved
put_cases-loop-alternative-preserved t c =
    let l = c.loop-alternative in
    let from = cases_from c.args.alternatives.now l.alternative-index c.alternative-item.result c.loop-alternative-test.true c.alternative-item.is in
    let next = alternatives_view (drop (l.alternative-index + 1) c.args.alternatives.now) in
    let here : c.len.result ≡ length l.steps.items = search rules in
    let p = case_put (grammar_of c.args.root.now) c.args.rule.now c.alternative-item.result next l.steps.items c.put_case.new.steps.items c.in_ok-put_case.ensures in
    record {
      numbers = case_listed (grammar_of c.args.root.now) c.args.rule.now c.alternative-item.result next l.steps.items c.put_case.new.steps.items l.numbers c.push.new.self c.in_ok-put_case.ensures (c.in_ok-push.ensures.ok ∙ ap (λ (k : ℕ). l.numbers ++ k ∷ []) here)
          ∙ (ap (λ (x : Alternatives). l.numbers ++ case_numbers (length l.steps.items) x) (sym from) ∙ l.invariant.numbers);
      few = p.0 ∙ (ap (λ (x : Alternatives). length l.steps.items + cases_count x) (sym from) ∙ l.invariant.few);
      put = p.1 ∙ (ap (λ (x : Alternatives). l.steps.items ++ case_steps (grammar_of c.args.root.now) c.args.rule.now (length l.steps.items) x) (sym from) ∙ l.invariant.put);
    }
