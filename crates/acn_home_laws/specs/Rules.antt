-- The rules of a tree on slots, of a tree whose slots are numbered by paths.
use Rattle.std.specs.Prelude.{◌≡◌, ℕ, Bool, true, ◌&&◌, List, [], ◌∷◌, length, Some}
use Rattle.std.specs.List.{AllByRecursion, list_all, range_with_len}
use Rattle.acn_grammar.specs.Grammar.{Grammar}
use Rattle.acn_grammar.specs.Tree.{slots_of, names_open, own_used, is_home, home_fine, all_true, same_numbers}
use Rattle.acn_grammar.specs.Walk.{Stand, nodes_of}
use Rattle.acn_homes.specs.declared.uses.Use.{Use}
use Rattle.acn_homes.specs.Homes.{Path, same, home, slots, number}
use Rattle.acn_home_laws.specs.Numbered.{IsNumbered}

-- The slots in preorder of their fields are 0, 1, 2 and so on, as many as the lists have.
abbrev pub SlotsAreCounted : Type 0
SlotsAreCounted = (root : Grammar) (fields : List Path) (noted : List Use) → IsNumbered root fields noted
    → slots_of (nodes_of root) ≡ range_with_len 0 (length (slots fields noted))

-- A SEQUENCE is the home of a slot exactly where its path is that of the home.
abbrev pub HomesAreFound : Type 0
HomesAreFound = (root : Grammar) (fields : List Path) (noted : List Use) → IsNumbered root fields noted → (field : Path) (s : ℕ) → number (slots fields noted) field ≡ Some s
    → AllByRecursion (λ at. is_home (nodes_of root) s at ≡ same at.path (home noted field)) (nodes_of root)

-- Every use names a slot at home round the node.
abbrev pub UsesAreOpen : Type 0
UsesAreOpen = (root : Grammar) (fields : List Path) (noted : List Use) → IsNumbered root fields noted
    → AllByRecursion (λ at. names_open at ≡ true) (nodes_of root)

-- Each SEQUENCE lists the slots at home there, and nothing that may be absent stands between it and their fields.
abbrev pub HomesAreFine : Type 0
HomesAreFine = (root : Grammar) (fields : List Path) (noted : List Use) → IsNumbered root fields noted
    → AllByRecursion (λ at. home_fine (nodes_of root) at at.form ≡ true) (nodes_of root)

-- The slot of each component has a use.
abbrev pub SlotsAreUsed : Type 0
SlotsAreUsed = (root : Grammar) (fields : List Path) (noted : List Use) → IsNumbered root fields noted
    → AllByRecursion (λ at. own_used (nodes_of root) at.role ≡ true) (nodes_of root)

-- the rules on slots out of those of a tree
abbrev pub slot_rules : List Stand → Stand → List Bool
slot_rules all at = own_used all at.role ∷ names_open at ∷ home_fine all at at.form ∷ []

abbrev pub slots_fine : List Stand → Bool
slots_fine all = same_numbers (slots_of all) (range_with_len 0 (length (slots_of all))) && list_all (λ at. all_true (slot_rules all at)) all

-- All of them hold.
abbrev pub SlotRulesHold : Type 0
SlotRulesHold = (root : Grammar) (fields : List Path) (noted : List Use) → IsNumbered root fields noted → slots_fine (nodes_of root) ≡ true
