use Rattle.std.proofs.Common.{◌≡◌, ◌++◌, List, length}
use Rattle.json.specs.Token.{Token}
use Rattle.acn_grammar.specs.Grammar.{Places}
use Rattle.acn_grammar.specs.View.{grammar_of, fields_view, places_view, elements_view}
use Rattle.acn_grammar.specs.declared.value.Value.{Value}
use Rattle.acn_lines.specs.Taken.{AreTaken, MembersTaken, component_count}
use Rattle.acn_lines.proofs.take.+take.Given as goal

abbrev pub invariant-take_members-members : goal.invariant-take_members-members
invariant-take_members-members l = record {
  count : length l.places.items ≡ component_count (fields_view l.fields);
  so_far : (qs : Places) (new : List Token) → MembersTaken (fields_view l.fields) (places_view l.places.items) l.reader qs new → MembersTaken (fields_view l.fields) (places_view l.initial.places.items) l.initial.reader qs new;
}

abbrev pub decreases-take_members-members : goal.decreases-take_members-members
decreases-take_members-members l = length l.reader

abbrev pub invariant-take_elements-elements : goal.invariant-take_elements-elements
invariant-take_elements-elements l =
    (vs : List Value) (new : List Token) → AreTaken (grammar_of l.element) (elements_view vs) l.reader new → AreTaken (grammar_of l.element) (elements_view (l.elements ++ vs)) l.initial.reader new

abbrev pub decreases-take_elements-elements : goal.decreases-take_elements-elements
decreases-take_elements-elements l = length l.reader
