use Rattle.std.proofs.Common.{◌≡◌, drop}
use Rattle.acn_grammar.specs.View.{fields_view, alternatives_view}
use Rattle.acn_report.specs.Walks.{FieldsWalkable, AlternativesWalkable, fields_path, alternatives_path}
use Rattle.acn_report.proofs.slots.+slot.Given as goal

abbrev pub invariant-in_fields-loop-field : goal.invariant-in_fields-loop-field
invariant-in_fields-loop-field l = record {
  left : fields_path l.path l.step (fields_view (drop l.field-index l.fields)) l.slot ≡ fields_path l.path 0 (fields_view l.fields) l.slot;
  walk : FieldsWalkable l.path l.step (fields_view (drop l.field-index l.fields));
}

abbrev pub invariant-in_alternatives-loop-alternative : goal.invariant-in_alternatives-loop-alternative
invariant-in_alternatives-loop-alternative l = record {
  left : alternatives_path l.path l.step (alternatives_view (drop l.alternative-index l.alternatives)) l.slot ≡ alternatives_path l.path 0 (alternatives_view l.alternatives) l.slot;
  walk : AlternativesWalkable l.path l.step (alternatives_view (drop l.alternative-index l.alternatives));
}
