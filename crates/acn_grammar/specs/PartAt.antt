-- The part of a value at a path of its packet, and the node that it is of. (This profile's own.)
use Rattle.std.specs.Prelude.{ℕ, zero, suc, List, [], ◌∷◌, Option, Some, None, nat_eq, if◌then◌else◌}
use Rattle.acn_grammar.specs.Grammar.{Grammar, Form, Fields, Alternatives, Data, Places, Elements, node, seq, list, choice, contained, component, inserted, no_alternatives, alternative, record_of, list_of, alt, empty, filled, no_elements, element}

abbrev pub Occurrence : Type 0
Occurrence = Grammar × Data

abbrev pub occurrence : Grammar → Data → Occurrence
occurrence g d = (g, d)

-- k is the number of the next element
abbrev pub element_part : (Data → Option Occurrence) → (k : ℕ) → Elements → (m : ℕ) → Option Occurrence
element_part each k no_elements m = None
element_part each k (element d es) m = if nat_eq m k then each d else element_part each (suc k) es m

abbrev mutual
  pub part_at : Grammar → Data → (path : List ℕ) → Option Occurrence
  part_at (node align form) d [] = Some (occurrence (node align form) d)
  part_at (node align form) d (m ∷ path) = form_part form d m path

  pub form_part : Form → Data → (m : ℕ) → (path : List ℕ) → Option Occurrence
  form_part (seq fields home) (record_of ps) m path = field_part fields 0 ps m path
  form_part (list sizing g) (list_of es) m path = element_part (λ d. part_at g d path) 0 es m
  form_part (choice alternatives rule) (alt i d) m path = if nat_eq m i then alternative_part alternatives i d path else None
  form_part (contained sizing g) d m path = if nat_eq m 0 then part_at g d path else None
  form_part _ d m path = None

  -- k is the number of the next field
  pub field_part : Fields → (k : ℕ) → Places → (m : ℕ) → (path : List ℕ) → Option Occurrence
  field_part (component name g presence default own fs) k (filled d ps) m path = if nat_eq m k then part_at g d path else field_part fs (suc k) ps m path
  field_part (component name g presence default own fs) k (empty ps) m path = if nat_eq m k then None else field_part fs (suc k) ps m path
  field_part (inserted name g slot fs) k ps m path = if nat_eq m k then None else field_part fs (suc k) ps m path
  field_part _ k ps m path = None

  pub alternative_part : Alternatives → (i : ℕ) → Data → (path : List ℕ) → Option Occurrence
  alternative_part (alternative name g tests more) zero d path = part_at g d path
  alternative_part (alternative name g tests more) (suc i) d path = alternative_part more i d path
  alternative_part no_alternatives i d path = None
