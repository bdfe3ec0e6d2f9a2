use Rattle.std.proofs.Common.{◌≡◌, ◌+◌, ◌++◌, drop, map, length}
use Rattle.acn_grammar.specs.Tree.{field_names}
use Rattle.acn_grammar.specs.View.{fields_view}
use Rattle.acn_well_formed.proofs.names.listed_fields_differ.Given as goal

abbrev pub invariant-loop-field : goal.invariant-loop-field
invariant-loop-field t l = record {
  whole : map (λ name. name.now) l.names.items ++ field_names (fields_view (drop l.field-index l.front)) ≡ field_names (fields_view l.front);
  few : length l.names.items ≡ l.field-index;
}

abbrev pub invariant-loop-field-2 : goal.invariant-loop-field-2
invariant-loop-field-2 t l = record {
  whole : map (λ name. name.now) l.names.items ++ field_names (fields_view (drop l.field-index l.behind)) ≡ field_names (fields_view l.front) ++ field_names (fields_view l.behind);
  few : length l.names.items ≡ length l.front + l.field-index;
}
