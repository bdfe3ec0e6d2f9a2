use Rattle.std.proofs.Common.{◌≡◌, ◌-◌, ◌++◌, map, drop}
use Rattle.std.specs.Prelude.{option_map}
use Rattle.acn_tree.specs.CanDraw.{FieldsCanDraw}
use Rattle.acn_grammar.specs.ItemsNamed.{FieldsItemsNamed}
use Rattle.acn_tree.specs.Made.{made, parts}
use Rattle.acn_grammar.specs.View.{grammar_of, data_of, fields_view}
use Rattle.acn_tree.proofs.MadeFields.{places_made}
use Rattle.acn_tree.proofs.making.+make.Given as goal

abbrev pub invariant-make_elements-loop : goal.invariant-make_elements-loop
invariant-make_elements-loop l = record {
  value : map data_of l.elements ++ (parts (made (grammar_of l.element)) (l.n - l.counter) l.draw).value ≡ (parts (made (grammar_of l.element)) l.n l.fn.draw).value;
  state : (parts (made (grammar_of l.element)) (l.n - l.counter) l.draw).state ≡ (parts (made (grammar_of l.element)) l.n l.fn.draw).state;
}

abbrev pub invariant-make_places-loop-field : goal.invariant-make_places-loop-field
invariant-make_places-loop-field l = record {
  can : FieldsCanDraw (fields_view (drop l.field-index l.fields));
  named : FieldsItemsNamed (fields_view (drop l.field-index l.fields));
  value : map (option_map data_of) l.places ++ (places_made (fields_view (drop l.field-index l.fields)) l.draw).value ≡ (places_made (fields_view l.fields) l.fn.draw).value;
  state : (places_made (fields_view (drop l.field-index l.fields)) l.draw).state ≡ (places_made (fields_view l.fields) l.fn.draw).state;
}
