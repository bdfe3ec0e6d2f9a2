use Rattle.std.proofs.Common.{◌≡◌, ◌+◌, ◌≤◌, ◌^◌, min, length, drop}
use Rattle.acn_grammar.specs.Length.{bit_length, run_length, fields_length}
use Rattle.acn_grammar.specs.View.{grammar_of, fields_view, places_view, elements_view}
use Rattle.acn_lengths.specs.Measured.{CanMeasure, CanMeasureEach, CanMeasureFields}
use Rattle.acn_lengths.proofs.ends.+end.Given as goal

abbrev pub invariant-elements_end-loop-v : goal.invariant-elements_end-loop-v
invariant-elements_end-loop-v l = record {
  near : l.end ≤ 2 ^ 40;
  can : CanMeasureEach (CanMeasure (grammar_of l.element)) (elements_view (drop l.v-index l.elements));
  same : min (l.end + run_length (bit_length (grammar_of l.element)) l.end (elements_view (drop l.v-index l.elements))) (2 ^ 40) ≡ min (l.fn.at + run_length (bit_length (grammar_of l.element)) l.fn.at (elements_view l.elements)) (2 ^ 40);
}

abbrev pub invariant-fields_end-loop-field : goal.invariant-fields_end-loop-field
invariant-fields_end-loop-field l = record {
  near : l.end ≤ 2 ^ 40;
  within : l.k ≤ length l.places;
  can : CanMeasureFields (fields_view (drop l.field-index l.fields)) (places_view (drop l.k l.places));
  same : min (l.end + fields_length (fields_view (drop l.field-index l.fields)) l.end (places_view (drop l.k l.places))) (2 ^ 40) ≡ min (l.fn.at + fields_length (fields_view l.fields) l.fn.at (places_view l.places)) (2 ^ 40);
}
