use Rattle.std.proofs.Common.{◌≡◌, ◌++◌, suc, length, drop, map}
use Rattle.acn_grammar.specs.View.{grammar_of, fields_view, alternatives_view}
use Rattle.acn_extreme_laws.specs.Facts.{field_facts, case_facts}
use Rattle.acn_single.specs.Lines.{FieldsCanList, AlternativesCanList, line_of, seen}
use Rattle.acn_single.proofs.lines.+lines.Given as goal

abbrev pub invariant-list_fields-loop-field : goal.invariant-list_fields-loop-field
invariant-list_fields-loop-field l = record {
  done : map line_of l.lines.items ++ map (seen (grammar_of l.slots.root.now)) (field_facts l.place.path.now l.place.around.now l.place.barred.now l.step (fields_view (drop l.field-index l.fields))) ≡ map line_of l.initial.lines.items ++ map (seen (grammar_of l.slots.root.now)) (field_facts l.place.path.now l.place.around.now l.place.barred.now 0 (fields_view l.fields));
  can : FieldsCanList (suc (length l.place.path.now)) (fields_view (drop l.field-index l.fields));
  steps : l.step ≡ l.field-index;
}

abbrev pub invariant-list_cases-loop-alternative : goal.invariant-list_cases-loop-alternative
invariant-list_cases-loop-alternative l = record {
  done : map line_of l.lines.items ++ map (seen (grammar_of l.slots.root.now)) (case_facts l.place.path.now l.place.around.now l.place.barred.now l.step (alternatives_view (drop l.alternative-index l.alternatives))) ≡ map line_of l.initial.lines.items ++ map (seen (grammar_of l.slots.root.now)) (case_facts l.place.path.now l.place.around.now l.place.barred.now 0 (alternatives_view l.alternatives));
  can : AlternativesCanList (suc (length l.place.path.now)) (alternatives_view (drop l.alternative-index l.alternatives));
  steps : l.step ≡ l.alternative-index;
}
