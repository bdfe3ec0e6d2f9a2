use Rattle.std.proofs.Common.{drop}
use Rattle.acn_grammar.specs.View.{fields_view, alternatives_view}
use Rattle.acn_report.specs.Walks.{FieldsWalkable, AlternativesWalkable}
use Rattle.acn_warnings.proofs.walk.+sizes.Given as goal

abbrev pub invariant-put_fields-loop-field : goal.invariant-put_fields-loop-field
invariant-put_fields-loop-field g l = FieldsWalkable l.path l.step (fields_view (drop l.field-index l.fields))

abbrev pub invariant-put_cases-loop-alternative : goal.invariant-put_cases-loop-alternative
invariant-put_cases-loop-alternative g l = AlternativesWalkable l.path l.step (alternatives_view (drop l.alternative-index l.alternatives))
