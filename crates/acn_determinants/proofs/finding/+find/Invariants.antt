use Rattle.std.proofs.Common.{◌≡◌, ℕ, suc, length, drop, option_map}
use Rattle.acn_grammar.specs.Slots.{first_of_two}
use Rattle.acn_grammar.specs.View.{fields_view}
use Rattle.acn_determinants.specs.Spots.{noted_at, under, field_spot, FieldsReached}
use Rattle.acn_determinants.proofs.finding.+find.Given as goal

abbrev pub invariant-find_fields-loop-field : goal.invariant-find_fields-loop-field
invariant-find_fields-loop-field l = record {
  step : l.step ≡ l.field-index;
  path : l.path ≡ l.fn.path;
  reached : FieldsReached (suc (length l.fn.path)) (fields_view (drop l.field-index l.fields));
  noted : (s : ℕ) → first_of_two (noted_at l.found s) (option_map (under l.fn.path) (field_spot (fields_view (drop l.field-index l.fields)) l.field-index s)) ≡ first_of_two (noted_at l.fn.found s) (option_map (under l.fn.path) (field_spot (fields_view l.fields) 0 s));
}
