-- The leaf of a slot: that of an inserted field, or of a component whose number is the slot's. (This profile's own.)
use Rattle.std.specs.Prelude.{ℕ, ℤ, List, [], Option, Some, None, option_map, unwrap_or, nat_eq, if◌then◌else◌}
use Rattle.acn_grammar.specs.Grammar.{Grammar, Form, Fields, Alternatives, node, num, seq, list, choice, contained, no_fields, component, inserted, no_alternatives, alternative}
use Rattle.acn_grammar.specs.declared.node.NumLeaf.{NumLeaf}

abbrev pub first_of_two : {A : Type 0} → Option A → Option A → Option A
first_of_two None y = y
first_of_two (Some x) y = Some x

abbrev pub number_leaf : Grammar → Option NumLeaf
number_leaf (node align (num leaf)) = Some leaf
number_leaf _ = None

abbrev pub is_slot : Option ℕ → ℕ → (yes' no' : Option NumLeaf) → Option NumLeaf
is_slot (Some t) s a b = if nat_eq t s then a else b
is_slot None s a b = b

abbrev mutual
  pub slot_leaf : Grammar → ℕ → Option NumLeaf
  slot_leaf (node align form) s = form_leaf form s

  pub form_leaf : Form → ℕ → Option NumLeaf
  form_leaf (seq fields home) s = fields_leaf fields s
  form_leaf (list sizing g) s = slot_leaf g s
  form_leaf (choice alternatives rule) s = alternatives_leaf alternatives s
  form_leaf (contained sizing g) s = slot_leaf g s
  form_leaf _ s = None

  pub fields_leaf : Fields → ℕ → Option NumLeaf
  fields_leaf no_fields s = None
  fields_leaf (component name g presence default own fs) s = is_slot own s (number_leaf g) (first_of_two (slot_leaf g s) (fields_leaf fs s))
  fields_leaf (inserted name g slot fs) s = is_slot slot s (number_leaf g) (first_of_two (slot_leaf g s) (fields_leaf fs s))

  pub alternatives_leaf : Alternatives → ℕ → Option NumLeaf
  alternatives_leaf no_alternatives s = None
  alternatives_leaf (alternative name g tests more) s = first_of_two (slot_leaf g s) (alternatives_leaf more s)

-- the permitted numbers of a slot
abbrev pub domain_of : Grammar → ℕ → List (ℤ × ℤ)
domain_of root s = unwrap_or (option_map (λ leaf. leaf.set) (slot_leaf root s)) []

-- the names of the items of a slot, by index
abbrev pub items_of : Grammar → ℕ → List (List ℕ × ℤ)
items_of root s = unwrap_or (option_map (λ leaf. leaf.items.items) (slot_leaf root s)) []
