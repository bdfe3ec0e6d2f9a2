-- The walk that looks for the field of a slot, and what each walk takes from a tree: paths of at most `MOST_STEPS` steps, and numbers of
-- fields and alternatives below `MOST_NODES`.
use Rattle.std.specs.Prelude.{ℕ, suc, ◌<◌, ◌≤◌, List, [], ◌∷◌, ◌++◌, length, Option, Some, None, if◌then◌else◌}
use Rattle.acn_grammar.specs.Grammar.{Grammar, Form, Fields, Alternatives, node, seq, list, choice, contained, no_fields, component, inserted, no_alternatives, alternative}
use Rattle.acn_grammar.specs.Paths.{grammar_in}
use Rattle.acn_grammar.specs.Slots.{first_of_two}
use Rattle.acn_grammar.specs.Tree.{is_slot}
use Rattle.acn_grammar.specs.View.{OneField, a_component, an_inserted}
use Rattle.acn_grammar.specs.declared.limits.TheConstants.{MOST_NODES}
use Rattle.acn_num.specs.declared.limits.TheConstants.{MOST_STEPS}

-- the nodes inside the node at a path can be named
abbrev mutual
  pub Walkable : List ℕ → Grammar → Type 0
  Walkable path (node align form) = (length path ≤ MOST_STEPS) × FormWalkable path form

  pub FormWalkable : List ℕ → Form → Type 0
  FormWalkable path (seq fields home) = FieldsWalkable path 0 fields
  FormWalkable path (list sizing g) = Walkable (path ++ 0 ∷ []) g
  FormWalkable path (choice cases rule) = AlternativesWalkable path 0 cases
  FormWalkable path (contained sizing g) = Walkable (path ++ 0 ∷ []) g
  FormWalkable path _ = Unit {0}

  pub FieldsWalkable : List ℕ → (k : ℕ) → Fields → Type 0
  FieldsWalkable path k no_fields = Unit {0}
  FieldsWalkable path k (component name g presence default own fs) = (k < MOST_NODES) × Walkable (path ++ k ∷ []) g × FieldsWalkable path (suc k) fs
  FieldsWalkable path k (inserted name g slot fs) = (k < MOST_NODES) × Walkable (path ++ k ∷ []) g × FieldsWalkable path (suc k) fs

  pub AlternativesWalkable : List ℕ → (k : ℕ) → Alternatives → Type 0
  AlternativesWalkable path k no_alternatives = Unit {0}
  AlternativesWalkable path k (alternative name g tests more) = (k < MOST_NODES) × Walkable (path ++ k ∷ []) g × AlternativesWalkable path (suc k) more

-- the field of a number, or another path
abbrev pub own_or : Option ℕ → (s : ℕ) → (path : List ℕ) → Option (List ℕ) → Option (List ℕ)
own_or own s path other = if is_slot s own then Some path else other

-- the path of the first field inside the node at a path that says the number of the slot
abbrev mutual
  pub path_in : List ℕ → Grammar → (s : ℕ) → Option (List ℕ)
  path_in path (node align form) s = form_path path form s

  pub form_path : List ℕ → Form → (s : ℕ) → Option (List ℕ)
  form_path path (seq fields home) s = fields_path path 0 fields s
  form_path path (list sizing g) s = path_in (path ++ 0 ∷ []) g s
  form_path path (choice cases rule) s = alternatives_path path 0 cases s
  form_path path (contained sizing g) s = path_in (path ++ 0 ∷ []) g s
  form_path path _ s = None

  pub fields_path : List ℕ → (k : ℕ) → Fields → (s : ℕ) → Option (List ℕ)
  fields_path path k no_fields s = None
  fields_path path k (component name g presence default own fs) s = first_of_two (own_or own s (path ++ k ∷ []) (path_in (path ++ k ∷ []) g s)) (fields_path path (suc k) fs s)
  fields_path path k (inserted name g slot fs) s = first_of_two (own_or slot s (path ++ k ∷ []) (path_in (path ++ k ∷ []) g s)) (fields_path path (suc k) fs s)

  pub alternatives_path : List ℕ → (k : ℕ) → Alternatives → (s : ℕ) → Option (List ℕ)
  alternatives_path path k no_alternatives s = None
  alternatives_path path k (alternative name g tests more) s = first_of_two (path_in (path ++ k ∷ []) g s) (alternatives_path path (suc k) more s)

-- the slot of a field
abbrev pub own_slot : OneField → Option ℕ
own_slot (a_component name g presence default own) = own
own_slot (an_inserted name g slot) = slot

-- the same of one field
abbrev pub one_path : List ℕ → (k : ℕ) → OneField → (s : ℕ) → Option (List ℕ)
one_path path k field s = own_or (own_slot field) s (path ++ k ∷ []) (path_in (path ++ k ∷ []) (grammar_in field) s)
