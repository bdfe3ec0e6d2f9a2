-- What the calls inside do: a walk keeps the pieces that it found, the path that it is at, the bit of the packet from which it counts, and
-- its place from there.
use Rattle.std.specs.Prelude.{ℕ, ◌+◌, ◌*◌, ◌^◌, ◌≤◌, List, [], ◌∷◌, ◌++◌, length, Option, Some, None}
use Rattle.acn_grammar.specs.Grammar.{Grammar, Form, Fields, Alternatives, Data, Places, Elements, choice, contained, alt}
use Rattle.acn_grammar.specs.Length.{bit_length, form_length, fields_length, alternative_length, inserted_length, run_length, list_length, text_length, rule_width, ending, padding, num_length, least, presence_bits}
use Rattle.acn_grammar.specs.declared.node.ChoiceRule.{ChoiceRule}
use Rattle.acn_grammar.specs.declared.node.NumLeaf.{NumLeaf}
use Rattle.acn_grammar.specs.declared.node.Presence.{Presence as OnePresence}
use Rattle.acn_grammar.specs.declared.node.Presence.TheVariants.{Always, Bit, When}
use Rattle.acn_grammar.specs.declared.node.SizeRule.{SizeRule}
use Rattle.acn_grammar.specs.declared.node.Sizing.{Sizing}
use Rattle.acn_grammar.specs.declared.node.TextLeaf.{TextLeaf}
use Rattle.acn_pieces.specs.declared.piece.Piece.{Piece}
use Rattle.acn_pieces.specs.declared.piece.PieceKind.{PieceKind}
use Rattle.acn_pieces.specs.declared.piece.PieceKind.TheVariants.{Pad, Presence, Leaf}
use Rattle.acn_pieces.specs.declared.walk.Walk.{Walk}
use Rattle.acn_pieces.specs.Pieces.{part, inserted_pieces, string_pieces, text_pieces, run_pieces, list_pieces, pieces, form_pieces, field_pieces, case_pieces}

-- the place behind so many bits can be counted
abbrev pub Near : (count : ℕ) → Walk → Type 0
Near count w = w.origin + (w.at + count) ≤ 2 ^ 40

-- the walk behind so many bits, of which these are the pieces
abbrev pub behind : List Piece → (count : ℕ) → Walk → Walk
behind found count w = record { found = w.found ++ found; path = w.path; origin = w.origin; at = w.at + count }

abbrev pub behind_part : PieceKind → (count : ℕ) → Walk → Walk
behind_part kind count w = behind (part w.path kind (w.origin + w.at) count) count w

abbrev pub behind_string : SizeRule → (count : ℕ) → Walk → Walk
behind_string rule count w = behind (string_pieces w.path rule (w.origin + w.at) count) (rule_width rule + count) w

abbrev pub behind_text : TextLeaf → (n : ℕ) → Walk → Walk
behind_text leaf n w = behind (text_pieces w.path leaf.ended leaf (w.origin + w.at) n) (text_length leaf.ended leaf n) w

-- padding, and the code of a number that isn't in the value
abbrev pub behind_code : (align : ℕ) → NumLeaf → Walk → Walk
behind_code align leaf w =
    behind (part w.path Pad (w.origin + w.at) (padding align w.at) ++ part w.path Leaf (w.origin + (w.at + padding align w.at)) (num_length leaf (least leaf.set))) (padding align w.at + num_length leaf (least leaf.set)) w

-- an inserted field at the path
abbrev pub behind_field : Grammar → Walk → Walk
behind_field g w = behind (inserted_pieces w.path g w.origin w.at) (inserted_length g w.at) w

-- an inserted field at a step from the path
abbrev pub behind_inserted : Grammar → (step : ℕ) → Walk → Walk
behind_inserted g step w = behind (inserted_pieces (w.path ++ step ∷ []) g w.origin w.at) (inserted_length g w.at) w

abbrev pub behind_node : Grammar → Data → Walk → Walk
behind_node g d w = behind (pieces w.path g w.origin w.at d) (bit_length g w.at d) w

abbrev pub behind_form : Form → Data → Walk → Walk
behind_form form d w = behind (form_pieces w.path form w.origin w.at d) (form_length form w.at d) w

-- a node at a step from the path
abbrev pub behind_inside : Grammar → (step : ℕ) → Data → Walk → Walk
behind_inside g step d w = behind (pieces (w.path ++ step ∷ []) g w.origin w.at d) (bit_length g w.at d) w

-- a component, which may be absent
abbrev pub behind_place : Grammar → (step : ℕ) → Option Data → Walk → Walk
behind_place g step None w = w
behind_place g step (Some d) w = behind_inside g step d w

abbrev pub behind_fields : (k : ℕ) → Fields → Places → Walk → Walk
behind_fields k fs ps w = behind (field_pieces w.path k fs w.origin w.at ps) (fields_length fs w.at ps) w

-- behind the presence bits
abbrev pub sequence_length : Fields → (at : ℕ) → Places → ℕ
sequence_length fs at ps = let front = length (presence_bits fs ps) in front + fields_length fs (at + front) ps

abbrev pub behind_sequence : Fields → Places → Walk → Walk
behind_sequence fs ps w =
    let front = length (presence_bits fs ps) in
    behind (part w.path Presence (w.origin + w.at) front ++ field_pieces w.path 0 fs w.origin (w.at + front) ps) (sequence_length fs w.at ps) w

abbrev pub behind_elements : Grammar → (k : ℕ) → Elements → Walk → Walk
behind_elements g k es w = behind (run_pieces (λ path at d. pieces path g w.origin at d) (bit_length g) w.path k w.at es) (run_length (bit_length g) w.at es) w

abbrev pub behind_list : Sizing → Grammar → Elements → Walk → Walk
behind_list sizing g es w =
    behind (list_pieces (ending sizing.rule) sizing.rule (λ path at d. pieces path g w.origin at d) (bit_length g) w.path w.origin w.at es) (list_length (ending sizing.rule) sizing.rule (bit_length g) w.at es) w

abbrev pub behind_case : Alternatives → (i : ℕ) → Data → Walk → Walk
behind_case cases i d w = behind (case_pieces w.path i cases i w.origin w.at d) (alternative_length cases i w.at d) w

abbrev pub behind_choice : Alternatives → ChoiceRule → (i : ℕ) → Data → Walk → Walk
behind_choice cases rule i d w = behind (form_pieces w.path (choice cases rule) w.origin w.at (alt i d)) (form_length (choice cases rule) w.at (alt i d)) w

abbrev pub behind_contents : Sizing → Grammar → Data → Walk → Walk
behind_contents sizing g d w = behind (form_pieces w.path (contained sizing g) w.origin w.at d) (form_length (contained sizing g) w.at d) w

-- the presence bits of a component
abbrev pub presence_width : OnePresence → ℕ
presence_width Always = 0
presence_width Bit = 1
presence_width (When tests) = 0

-- how many bits a component has, which may be absent
abbrev pub place_length : Grammar → (at : ℕ) → Option Data → ℕ
place_length g at None = 0
place_length g at (Some d) = bit_length g at d
