use Rattle.std.proofs.Common.{◌≡◌, ◌+◌, ◌≤◌, ◌++◌, ◌∷◌, [], length, drop}
use Rattle.acn_grammar.specs.Meets.{breaches, first_of, run_breaches, field_breaches}
use Rattle.acn_tree.specs.Room.{FieldsHaveRoom}
use Rattle.acn_grammar.specs.View.{grammar_of, fields_view, places_view, elements_view}
use Rattle.acn_tree.proofs.breach.+meet.Given as goal

abbrev pub invariant-elements_meet-loop-v : goal.invariant-elements_meet-loop-v
invariant-elements_meet-loop-v l = record {
  step : l.step ≡ l.v-index;
  path : l.path ≡ l.fn.path;
  same : first_of (run_breaches (λ k d. breaches (l.fn.path ++ k ∷ []) (grammar_of l.element) d) l.v-index (elements_view (drop l.v-index l.elements))) ≡ first_of (run_breaches (λ k d. breaches (l.fn.path ++ k ∷ []) (grammar_of l.element) d) 0 (elements_view l.elements));
}

abbrev pub invariant-fields_meet-loop-field : goal.invariant-fields_meet-loop-field
invariant-fields_meet-loop-field l = record {
  step : l.step ≡ l.field-index;
  path : l.path ≡ l.fn.path;
  within : l.at ≤ length l.places;
  room : FieldsHaveRoom (length l.fn.path + 1) (fields_view (drop l.field-index l.fields));
  same : first_of (field_breaches l.fn.path l.field-index (fields_view (drop l.field-index l.fields)) (places_view (drop l.at l.places))) ≡ first_of (field_breaches l.fn.path 0 (fields_view l.fields) (places_view l.places));
}
