use Rattle.std.proofs.Common.{◌≡◌, ◌≤◌, ◌++◌, ◌∷◌, [], length, drop, map, suc}
use Rattle.acn_grammar.specs.Asks as asks
use Rattle.acn_grammar.specs.View.{elements_view, fields_view, grammar_of, places_view}
use Rattle.acn_asking.specs.Gathered.{paths_of, slots_of, with_domain, with_numbers}
use Rattle.acn_gather_laws.specs.CanGather.{CanGather, CanGatherEach, CanGatherFields}
use Rattle.acn_moments.specs.Walk.{Left}
use Rattle.acn_moments.proofs.walk.+gather.Given as goal

abbrev pub invariant-gather_fields-loop-field : goal.invariant-gather_fields-loop-field
invariant-gather_fields-loop-field l = record {
  path : l.path ≡ l.fn.path;
  step : l.step ≡ l.field-index;
  within : l.at ≤ length l.places;
  can : CanGatherFields (grammar_of l.root) (suc (length l.fn.path)) (slots_of l.slots) (fields_view (drop l.field-index l.fields)) (places_view (drop l.at l.places));
  same : Left (grammar_of l.root) (fields_view (drop l.field-index l.fields)) (paths_of l.slots) l.fn.path l.step (places_view (drop l.at l.places)) l.gathered ≡ Left (grammar_of l.root) (fields_view l.fields) (paths_of l.slots) l.fn.path 0 (places_view l.places) l.fn.gathered;
}

abbrev pub invariant-gather_elements-loop-v : goal.invariant-gather_elements-loop-v
invariant-gather_elements-loop-v l = record {
  path : l.path ≡ l.fn.path;
  step : l.step ≡ l.v-index;
  can : CanGatherEach (CanGather (grammar_of l.root) (suc (length l.fn.path)) (slots_of l.slots) (grammar_of l.element)) (elements_view (drop l.v-index l.elements));
  same : map with_numbers l.gathered ++ map (with_domain (grammar_of l.root)) (asks.run_moments (λ k d. asks.moments (grammar_of l.root) (grammar_of l.element) (paths_of l.slots) (l.fn.path ++ k ∷ []) d) l.step (elements_view (drop l.v-index l.elements)))
      ≡ map with_numbers l.fn.gathered ++ map (with_domain (grammar_of l.root)) (asks.run_moments (λ k d. asks.moments (grammar_of l.root) (grammar_of l.element) (paths_of l.slots) (l.fn.path ++ k ∷ []) d) 0 (elements_view l.elements));
}
