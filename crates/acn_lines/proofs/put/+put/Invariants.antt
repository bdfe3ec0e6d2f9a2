use Rattle.std.proofs.Common.{◌≡◌, ◌++◌, drop, false}
use Rattle.serde_json.specs.Written.{items_text, members_text}
use Rattle.acn_grammar.specs.View.{grammar_of, elements_view, fields_view, places_view}
use Rattle.acn_json.specs.Kept.{Kept}
use Rattle.acn_json.specs.Lines.{json_of, each_json}
use Rattle.acn_lines.specs.Order.{AreKeyed, in_order}
use Rattle.acn_lines.proofs.put.+put.Given as goal

abbrev pub invariant-put_array-loop-value : goal.invariant-put_array-loop-value
invariant-put_array-loop-value l = record {
  same : l.line.items ++ items_text l.later (each_json (json_of (grammar_of l.element)) (elements_view (drop l.value-index l.elements))) ≡ l.initial.line.items ++ items_text false (each_json (json_of (grammar_of l.element)) (elements_view l.elements));
  kept : Kept l.initial.line.items l.line.items;
}

abbrev pub invariant-put_turns-loop-turn : goal.invariant-put_turns-loop-turn
invariant-put_turns-loop-turn l = record {
  keyed : AreKeyed (fields_view l.fields) (drop l.turn-index l.turns);
  same : l.line.items ++ members_text l.later (in_order (fields_view l.fields) (drop l.turn-index l.turns) (places_view l.places)) ≡ l.initial.line.items ++ members_text false (in_order (fields_view l.fields) l.turns (places_view l.places));
  kept : Kept l.initial.line.items l.line.items;
}
