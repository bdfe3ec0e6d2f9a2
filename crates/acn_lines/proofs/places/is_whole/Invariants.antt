use Rattle.std.proofs.Common.{◌≡◌, ◌≤◌, drop}
use Rattle.acn_grammar.specs.View.{fields_view, places_view}
use Rattle.acn_lines.specs.Taken as taken
use Rattle.acn_lines.proofs.places.is_whole.Given as goal

abbrev pub invariant-loop-field : goal.invariant-loop-field
invariant-loop-field l = record {
  few : l.at ≤ l.field-index;
  same : taken.is_whole (fields_view (drop l.field-index l.fields)) (places_view (drop l.at l.places)) ≡ taken.is_whole (fields_view l.fields) (places_view l.places);
}
