use Rattle.std.proofs.Common.{◌≡◌, ◌+◌, ◌^◌, ◌≤◌, drop}
use Rattle.std.specs.Prelude.{max}
use Rattle.acn_grammar.specs.Interval.{held, field_values, alternative_values}
use Rattle.acn_grammar.specs.View.{fields_view, alternatives_view}
use Rattle.acn_tree.proofs.values.+values.Given as goal

abbrev pub invariant-fields_values-loop-field : goal.invariant-fields_values-loop-field
invariant-fields_values-loop-field l = record {
  small : l.all ≤ 2 ^ 40;
  same : held (l.all + field_values (fields_view (drop l.field-index l.fields))) ≡ field_values (fields_view l.fields);
}

abbrev pub invariant-alternatives_values-loop-alternative : goal.invariant-alternatives_values-loop-alternative
invariant-alternatives_values-loop-alternative l = max l.most (alternative_values (alternatives_view (drop l.alternative-index l.alternatives))) ≡ alternative_values (alternatives_view l.alternatives)
