-- Which nodes are parts of a well-formed grammar, and that the places of their values can be named. (This profile's own.)
use Rattle.std.specs.Prelude.{◌≡◌, ℕ, suc, ◌<◌, ◌≤◌, ◌^◌, pos, List, Some}
use Rattle.acn_num.specs.Ranges.{In}
use Rattle.acn_grammar.specs.Grammar.{Grammar, Form, Fields, Alternatives, node, seq, list, choice, contained, no_fields, component, inserted, no_alternatives, alternative}
use Rattle.acn_grammar.specs.Paths.{node_at}
use Rattle.acn_grammar.specs.Tree.{IsTree}
use Rattle.acn_grammar.specs.declared.node.Sizing.{Sizing}
use Rattle.acn_num.specs.declared.limits.TheConstants.{MOST_SIZE, MOST_STEPS}

-- the node is one of a well-formed tree
pub record InTree (g : Grammar) : Type 0 where
  pub root : Grammar
  pub path : List ℕ
  pub formed : IsTree root
  pub leads : node_at root path ≡ Some g

-- no permitted size is over the limit
abbrev pub SizesAreSmall : Sizing → Type 0
SizesAreSmall sizing = (n : ℕ) → In sizing.sizes (pos n) → n ≤ MOST_SIZE

abbrev pub field_count : Fields → ℕ
field_count no_fields = 0
field_count (component name g presence default own fs) = suc (field_count fs)
field_count (inserted name g slot fs) = suc (field_count fs)

abbrev mutual
  -- A node at a path of k steps: no path inside it is too long, and each step is below 2^32.
  pub HasRoom : ℕ → Grammar → Type 0
  HasRoom k (node align form) = (k ≤ MOST_STEPS) × FormHasRoom k form

  pub FormHasRoom : ℕ → Form → Type 0
  FormHasRoom k (seq fields home) = (field_count fields < 2 ^ 32) × FieldsHaveRoom (suc k) fields
  FormHasRoom k (list sizing g) = SizesAreSmall sizing × HasRoom (suc k) g
  FormHasRoom k (choice cases rule) = AlternativesHaveRoom (suc k) cases
  FormHasRoom k (contained sizing g) = HasRoom (suc k) g
  FormHasRoom k _ = Unit {0}

  pub FieldsHaveRoom : ℕ → Fields → Type 0
  FieldsHaveRoom k no_fields = Unit {0}
  FieldsHaveRoom k (component name g presence default own fs) = HasRoom k g × FieldsHaveRoom k fs
  FieldsHaveRoom k (inserted name g slot fs) = HasRoom k g × FieldsHaveRoom k fs

  pub AlternativesHaveRoom : ℕ → Alternatives → Type 0
  AlternativesHaveRoom k no_alternatives = Unit {0}
  AlternativesHaveRoom k (alternative name g tests more) = HasRoom k g × AlternativesHaveRoom k more
