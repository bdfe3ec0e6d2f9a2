use Rattle.std.proofs.Common.{◌≡◌, ◌≤◌, suc, length, drop}
use Rattle.acn_grammar.specs.View.{grammar_of, fields_view, places_view, elements_view}
use Rattle.acn_pieces.specs.CanWalk.{CanWalk, CanWalkEach, CanWalkFields}
use Rattle.acn_pieces.specs.Walking.{behind_elements, behind_fields}
use Rattle.acn_pieces.proofs.walk.+walk.Given as goal

abbrev pub invariant-walk_fields-loop-field : goal.invariant-walk_fields-loop-field
invariant-walk_fields-loop-field l = record {
  step : l.step ≡ l.field-index;
  within : l.k ≤ length l.places;
  can : CanWalkFields (suc (length l.fn.walk.path)) (fields_view (drop l.field-index l.fields)) (places_view (drop l.k l.places));
  same : behind_fields l.step (fields_view (drop l.field-index l.fields)) (places_view (drop l.k l.places)) l.walk ≡ behind_fields 0 (fields_view l.fields) (places_view l.places) l.fn.walk;
}

abbrev pub invariant-walk_elements-loop-v : goal.invariant-walk_elements-loop-v
invariant-walk_elements-loop-v l = record {
  step : l.step ≡ l.v-index;
  can : CanWalkEach (CanWalk (suc (length l.fn.walk.path)) (grammar_of l.element)) (elements_view (drop l.v-index l.elements));
  same : behind_elements (grammar_of l.element) l.step (elements_view (drop l.v-index l.elements)) l.walk ≡ behind_elements (grammar_of l.element) 0 (elements_view l.elements) l.fn.walk;
}
