use Rattle.std.proofs.Common.{◌≡◌, ◌+◌, drop, length, map}
use Rattle.std.specs.Prelude.{option_map}
use Rattle.acn_grammar.specs.View.{data_of, fields_view}
use Rattle.acn_lines.specs.Taken as taken
use Rattle.acn_lines.proofs.PlacesLaw.{before_places}
use Rattle.acn_lines.proofs.places.no_values.Given as goal

abbrev pub invariant-loop-field : goal.invariant-loop-field
invariant-loop-field l = record {
  empty : before_places (map (option_map data_of) l.places.items) (taken.no_values (fields_view (drop l.field-index l.fields))) ≡ taken.no_values (fields_view l.fields);
  count : length l.places.items + taken.component_count (fields_view (drop l.field-index l.fields)) ≡ taken.component_count (fields_view l.fields);
}
