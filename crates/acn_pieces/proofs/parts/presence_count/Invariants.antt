use Rattle.std.proofs.Common.{◌≡◌, ◌+◌, ◌≤◌, length, drop}
use Rattle.acn_grammar.specs.Length.{presence_bits}
use Rattle.acn_grammar.specs.View.{fields_view, places_view}
use Rattle.acn_pieces.proofs.parts.presence_count.Given as goal

abbrev pub invariant-loop-field : goal.invariant-loop-field
invariant-loop-field l = record {
  within : l.at ≤ length l.places;
  few : l.count ≤ l.field-index;
  same : l.count + length (presence_bits (fields_view (drop l.field-index l.fields)) (places_view (drop l.at l.places))) ≡ length (presence_bits (fields_view l.fields) (places_view l.places));
}
