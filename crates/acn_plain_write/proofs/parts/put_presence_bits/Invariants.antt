use Rattle.std.proofs.Common.{◌≡◌, ◌≤◌, ◌++◌, length, drop}
use Rattle.acn_grammar.specs.Length.{presence_bits}
use Rattle.acn_grammar.specs.View.{fields_view, places_view}
use Rattle.acn_plain_write.proofs.parts.put_presence_bits.Given as goal

abbrev pub invariant-loop-field : goal.invariant-loop-field
invariant-loop-field l = record {
  within : l.at ≤ length l.places;
  same : l.bits ++ presence_bits (fields_view (drop l.field-index l.fields)) (places_view (drop l.at l.places)) ≡ l.fn.bits ++ presence_bits (fields_view l.fields) (places_view l.places);
}
