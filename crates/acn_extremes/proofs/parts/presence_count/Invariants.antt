use Rattle.std.proofs.Common.{◌≡◌, ◌≤◌, ◌+◌, drop}
use Rattle.acn_grammar.specs.View.{fields_view}
use Rattle.acn_extreme_laws.specs.Reach.{presence_count}
use Rattle.acn_extremes.proofs.parts.presence_count.Given as goal

abbrev pub invariant-loop-field : goal.invariant-loop-field
invariant-loop-field l = record {
  value : l.count + presence_count (fields_view (drop l.field-index l.fields)) ≡ presence_count (fields_view l.fields);
  small : l.count ≤ l.field-index;
}
