use Rattle.std.proofs.Common.{◌≡◌, ◌+◌, ◌++◌, ◌≤◌, length, drop, map}
use Rattle.acn_grammar.specs.View.{fields_view, alternatives_view}
use Rattle.acn_check.specs.Facts.{Fit, facts_of, field_facts, alternative_facts}
use Rattle.acn_check.proofs.lines.+lines.Given as goal

abbrev pub invariant-list_fields-loop-field : goal.invariant-list_fields-loop-field
invariant-list_fields-loop-field l = record {
  done : map facts_of l.lines.items ++ field_facts l.path l.around l.step (fields_view (drop l.field-index l.fields)) ≡ map facts_of l.initial.lines.items ++ field_facts l.path l.around 0 (fields_view l.fields);
  fit : Fit (field_facts l.path l.around l.step (fields_view (drop l.field-index l.fields)));
  steps : l.step + length (field_facts l.path l.around l.step (fields_view (drop l.field-index l.fields))) ≤ 65536;
}

abbrev pub invariant-list_alternatives-loop-alternative : goal.invariant-list_alternatives-loop-alternative
invariant-list_alternatives-loop-alternative l = record {
  done : map facts_of l.lines.items ++ alternative_facts l.path l.around l.step (alternatives_view (drop l.alternative-index l.alternatives)) ≡ map facts_of l.initial.lines.items ++ alternative_facts l.path l.around 0 (alternatives_view l.alternatives);
  fit : Fit (alternative_facts l.path l.around l.step (alternatives_view (drop l.alternative-index l.alternatives)));
  steps : l.step + length (alternative_facts l.path l.around l.step (alternatives_view (drop l.alternative-index l.alternatives))) ≤ 65536;
}
