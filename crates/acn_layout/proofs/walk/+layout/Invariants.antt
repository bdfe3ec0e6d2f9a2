use Rattle.std.proofs.Common.{drop}
use Rattle.acn_grammar.specs.View.{fields_view, alternatives_view}
use Rattle.acn_layout.specs.Walks.{field_lines, case_lines}
use Rattle.acn_print.proofs.Joining.{Completes}
use Rattle.acn_report.specs.Walks.{FieldsWalkable, AlternativesWalkable}
use Rattle.acn_layout.proofs.walk.+layout.Given as goal

abbrev pub invariant-put_fields-loop-field : goal.invariant-put_fields-loop-field
invariant-put_fields-loop-field g l = record {
  prints : Completes (field_lines l.checked.tree l.path 0 (fields_view l.fields)) (g.O.Sink.taken l.fn.out, g.O.Sink.faults l.fn.out) (field_lines l.checked.tree l.path l.step (fields_view (drop l.field-index l.fields))) (g.O.Sink.taken l.out, g.O.Sink.faults l.out);
  walk : FieldsWalkable l.path l.step (fields_view (drop l.field-index l.fields));
}

abbrev pub invariant-put_cases-loop-alternative : goal.invariant-put_cases-loop-alternative
invariant-put_cases-loop-alternative g l = record {
  prints : Completes (case_lines l.checked.tree l.path 0 (alternatives_view l.alternatives)) (g.O.Sink.taken l.fn.out, g.O.Sink.faults l.fn.out) (case_lines l.checked.tree l.path l.step (alternatives_view (drop l.alternative-index l.alternatives))) (g.O.Sink.taken l.out, g.O.Sink.faults l.out);
  walk : AlternativesWalkable l.path l.step (alternatives_view (drop l.alternative-index l.alternatives));
}
