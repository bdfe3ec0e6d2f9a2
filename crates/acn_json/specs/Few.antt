-- What the walk over JSON takes from the tree and from the line: paths of at most 64 steps, and numbers of 32 bits.
use Rattle.std.specs.Prelude.{ℕ, ◌+◌, ◌<◌, ◌≤◌, ◌^◌, List, [], ◌∷◌}
use Rattle.serde_json.specs.Data.{Data, null, boolean, number, string, array, object, Items, no_items, item, Members, no_members, member}
use Rattle.acn_grammar.specs.Grammar.{Grammar, Form, Fields, Alternatives, node, seq, list, choice, contained, no_fields, component, inserted, no_alternatives, alternative}
use Rattle.acn_num.specs.declared.limits.TheConstants.{MOST_STEPS}
use Rattle.acn_tree.specs.Made.{alternative_count}
use Rattle.acn_tree.specs.Room.{field_count}

-- how many items and members there are inside
abbrev mutual
  pub size : Data → ℕ
  size null = 0
  size (boolean b) = 0
  size (number n) = 0
  size (string s) = 0
  size (array ds) = items_size ds
  size (object ms) = members_size ms

  pub items_size : Items → ℕ
  items_size no_items = 0
  items_size (item d ds) = 1 + (size d + items_size ds)

  pub members_size : Members → ℕ
  members_size no_members = 0
  members_size (member k d ms) = 1 + (size d + members_size ms)

abbrev mutual
  -- a node at a path of k steps
  pub CanRead : ℕ → Grammar → Type 0
  CanRead k (node align form) = (k ≤ MOST_STEPS) × FormCanRead k form

  pub FormCanRead : ℕ → Form → Type 0
  FormCanRead k (seq fields home) = (field_count fields < 2 ^ 32) × FieldsCanRead (k + 1) fields
  FormCanRead k (list sizing g) = CanRead (k + 1) g
  FormCanRead k (choice cases rule) = (alternative_count cases < 2 ^ 32) × AlternativesCanRead (k + 1) cases
  FormCanRead k (contained sizing g) = CanRead (k + 1) g
  FormCanRead k _ = Unit {0}

  pub FieldsCanRead : ℕ → Fields → Type 0
  FieldsCanRead k no_fields = Unit {0}
  FieldsCanRead k (component name g presence default own fs) = CanRead k g × FieldsCanRead k fs
  FieldsCanRead k (inserted name g slot fs) = FieldsCanRead k fs

  pub AlternativesCanRead : ℕ → Alternatives → Type 0
  AlternativesCanRead k no_alternatives = Unit {0}
  AlternativesCanRead k (alternative name g tests more) = CanRead k g × AlternativesCanRead k more

-- the names of components, each with a place, as they are put into a map
abbrev pub component_places : Fields → List (List ℕ × ℕ)
component_places no_fields = []
component_places (component name g presence default own fs) = (name, 0) ∷ component_places fs
component_places (inserted name g slot fs) = component_places fs
