use Rattle.std.proofs.Common.{drop}
use Rattle.acn_grammar.specs.View.{fields_view, alternatives_view}
use Rattle.acn_json.specs.RoundTrip.{FieldsHaveTextNames, AlternativesHaveTextNames}
use Rattle.acn_printed.proofs.text_names.+text_names.Given as goal

abbrev pub invariant-fields_have_text_names-loop-field : goal.invariant-fields_have_text_names-loop-field
invariant-fields_have_text_names-loop-field l = record {
  so_far : FieldsHaveTextNames (fields_view (drop l.field-index l.fields)) → FieldsHaveTextNames (fields_view l.fields);
}

abbrev pub invariant-alternatives_have_text_names-loop-alternative : goal.invariant-alternatives_have_text_names-loop-alternative
invariant-alternatives_have_text_names-loop-alternative l = record {
  so_far : AlternativesHaveTextNames (alternatives_view (drop l.alternative-index l.alternatives)) → AlternativesHaveTextNames (alternatives_view l.alternatives);
}
