use Rattle.std.proofs.Common.{◌≡◌, ◌+◌, ◌++◌, drop, length}
use Rattle.acn_grammar.specs.View.{grammar_of, fields_view, alternatives_view}
use Rattle.acn_plan.specs.Steps.{fields_count, cases_count, case_numbers, field_steps, case_steps}
use Rattle.acn_plan.proofs.put.+put.Given as goal

abbrev pub invariant-put_fields-loop-field : goal.invariant-put_fields-loop-field
invariant-put_fields-loop-field l = record {
  few : length l.steps.items + fields_count (fields_view (drop l.field-index l.fields)) ≡ length l.fn.steps.items + fields_count (fields_view l.fields);
  put : l.steps.items ++ field_steps (grammar_of l.root) (length l.steps.items) (fields_view (drop l.field-index l.fields)) ≡ l.fn.steps.items ++ field_steps (grammar_of l.root) (length l.fn.steps.items) (fields_view l.fields);
}

abbrev pub invariant-put_cases-loop-alternative : goal.invariant-put_cases-loop-alternative
invariant-put_cases-loop-alternative l = record {
  few : length l.steps.items + cases_count (alternatives_view (drop l.alternative-index l.alternatives)) ≡ length l.fn.steps.items + cases_count (alternatives_view l.alternatives);
  numbers : l.numbers ++ case_numbers (length l.steps.items) (alternatives_view (drop l.alternative-index l.alternatives)) ≡ case_numbers (length l.fn.steps.items) (alternatives_view l.alternatives);
  put : l.steps.items ++ case_steps (grammar_of l.root) l.rule (length l.steps.items) (alternatives_view (drop l.alternative-index l.alternatives)) ≡ l.fn.steps.items ++ case_steps (grammar_of l.root) l.rule (length l.fn.steps.items) (alternatives_view l.alternatives);
}
