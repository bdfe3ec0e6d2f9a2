use Rattle.std.proofs.Common.{◌≡◌, ◌++◌, drop, false, length}
use Rattle.serde_json.specs.Written.{items_text, members_text}
use Rattle.acn_grammar.specs.View.{grammar_of, elements_view}
use Rattle.acn_json.specs.Lines.{json_of, each_json}
use Rattle.acn_json.specs.Spots.{members_at, json_at, AreWithin}
use Rattle.acn_json.proofs.write.+write.Given as goal

abbrev pub invariant-write_array-loop-v : goal.invariant-write_array-loop-v
invariant-write_array-loop-v l =
    l.out.items ++ items_text l.later (each_json (json_of (grammar_of l.element)) (elements_view (drop l.v-index l.elements)))
    ≡ l.initial.out.items ++ items_text false (each_json (json_of (grammar_of l.element)) (elements_view l.elements))

abbrev pub invariant-write_members-loop-name : goal.invariant-write_members-loop-name
invariant-write_members-loop-name l = record {
  within : AreWithin (length l.fields) (length l.places) l.name-iterator;
  same : l.out.items ++ members_text l.later (members_at (json_at l.fields l.places) l.name-iterator) ≡ l.initial.out.items ++ members_text false (members_at (json_at l.fields l.places) l.known.entries);
}
