-- The field whose number a slot is, and its path in words. (This program's own.)
use Rattle.std.specs.Prelude.{ℕ, Bool, List, [], ◌∷◌, Option, Some, None, option_map, if◌then◌else◌}
use Rattle.acn_grammar.specs.Grammar.{Grammar}
use Rattle.acn_grammar.specs.Tree.{is_slot}
use Rattle.acn_grammar.specs.View.{grammar_of}
use Rattle.acn_grammar.specs.Walk.{Stand, nodes_of, slot_here}
use Rattle.acn_tree.specs.declared.tree.Tree.{Tree}
use Rattle.acn_report.specs.Names.{path_text, names_text, or_dash}

-- the node says the number of the slot
abbrev pub says : ℕ → Stand → Bool
says s at = is_slot s (slot_here at.role)

abbrev pub first_with : (Stand → Bool) → List Stand → Option Stand
first_with test [] = None
first_with test (at ∷ rest) = if test at then Some at else first_with test rest

-- the path of the slot's field: of the first node in preorder that says its number
abbrev pub slot_path : Grammar → ℕ → Option (List ℕ)
slot_path root s = option_map (λ at. at.path) (first_with (says s) (nodes_of root))

-- the field in words: its path, `-` where there is none
abbrev pub slot_text : Tree → ℕ → List ℕ
slot_text tree s = or_dash (option_map (path_text tree) (slot_path (grammar_of tree.root) s))

-- the names of its path alone
abbrev pub slot_names : Tree → ℕ → List ℕ
slot_names tree s = or_dash (option_map (names_text tree) (slot_path (grammar_of tree.root) s))
