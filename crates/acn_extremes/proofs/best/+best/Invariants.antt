use Rattle.std.proofs.Common.{◌≡◌, ◌-◌, [], None, map, drop}
use Rattle.std.specs.Prelude.{option_map}
use Rattle.acn_grammar.specs.View.{grammar_of, data_of, fields_view, alternatives_view}
use Rattle.acn_extreme_laws.specs.Best.{is_enough, best, cases_best}
use Rattle.acn_extremes.specs.Ways.{chosen_way, places_left, added, FieldsCanMake, AlternativesCanMake}
use Rattle.acn_extremes.proofs.Runs.{run_left, with_run}
use Rattle.acn_extremes.proofs.best.+best.Given as goal

abbrev pub invariant-best_fields-loop-field : goal.invariant-best_fields-loop-field
invariant-best_fields-loop-field l = record {
  can : FieldsCanMake (fields_view (drop l.field-index l.fields));
  value : added (map (option_map data_of) l.places) (places_left (grammar_of l.slots.root.now) l.side (fields_view (drop l.field-index l.fields)) l.end) ≡ added [] (places_left (grammar_of l.slots.root.now) l.side (fields_view l.fields) l.at);
}

abbrev pub invariant-best_elements-loop-k : goal.invariant-best_elements-loop-k
invariant-best_elements-loop-k l = with_run (map data_of l.elements) (run_left (is_enough l.side l.sizes) (best (grammar_of l.slots.root.now) l.side (grammar_of l.element)) (l.n - l.k) l.k l.end) ≡ with_run [] (run_left (is_enough l.side l.sizes) (best (grammar_of l.slots.root.now) l.side (grammar_of l.element)) l.n 0 l.at)

abbrev pub invariant-best_case-loop-alternative : goal.invariant-best_case-loop-alternative
invariant-best_case-loop-alternative l = record {
  can : AlternativesCanMake (alternatives_view (drop l.alternative-index l.alternatives));
  place : l.index ≡ l.alternative-index;
  value : cases_best (grammar_of l.slots.root.now) l.side l.rule (alternatives_view (drop l.alternative-index l.alternatives)) l.index l.at (option_map chosen_way l.best) ≡ cases_best (grammar_of l.slots.root.now) l.side l.rule (alternatives_view l.alternatives) 0 l.at None;
}
