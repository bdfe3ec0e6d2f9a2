use Rattle.std.proofs.Common.{◌≡◌, ◌+◌, ◌≤◌, drop}
use Rattle.acn_grammar.specs.Fails.{presence_count}
use Rattle.acn_grammar.specs.View.{fields_view}
use Rattle.acn_lines.proofs.flags.flags_of.Given as goal

abbrev pub invariant-loop-field : goal.invariant-loop-field
invariant-loop-field l = record {
  small : l.count ≤ l.field-index;
  value : l.count + presence_count (fields_view (drop l.field-index l.fields)) ≡ presence_count (fields_view l.fields);
}
