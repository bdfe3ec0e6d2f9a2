use Rattle.std.proofs.Common.{◌≡◌, ◌≤◌, length, take}
use Rattle.acn_grammar.specs.View.{grammar_of, fields_view, places_view}
use Rattle.acn_lines.specs.Taken.{component_count}
use Rattle.acn_lines.proofs.FillingLaw.{SoFar, AreMet}
use Rattle.acn_lines.proofs.ReadLaw.{ElementsSoFar}
use Rattle.acn_lines.proofs.read.+read.Given as goal

abbrev pub invariant-read_members-loop-turn : goal.invariant-read_members-loop-turn
invariant-read_members-loop-turn l = record {
  count : length l.places.items ≡ component_count (fields_view l.fields);
  met : AreMet (fields_view l.fields) (take l.turn-index l.turns) (places_view l.places.items);
  text : SoFar (fields_view l.fields) (take l.turn-index l.turns) (places_view l.places.items) l.later l.initial.rest.text.now l.rest.text.now;
}

abbrev pub invariant-read_elements-loop-at : goal.invariant-read_elements-loop-at
invariant-read_elements-loop-at l = record {
  within : l.at ≤ length l.elements.items;
  so_far : ElementsSoFar (grammar_of l.element) (take l.at l.elements.items) l.initial.rest.text.now l.rest.text.now;
}
