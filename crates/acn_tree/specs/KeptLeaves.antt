-- The rules of number leaves, in a whole grammar.
use Rattle.std.specs.Prelude.{IsTrue}
use Rattle.acn_grammar.specs.Grammar.{Grammar, Form, Fields, Alternatives, node, num, seq, list, choice, contained, no_fields, component, inserted, no_alternatives, alternative}
use Rattle.acn_grammar.specs.Leaves.{num_fine}
use Rattle.acn_grammar.specs.View.{OneField, a_component, an_inserted}

abbrev mutual
  -- every number leaf inside keeps its rules
  pub NumbersKept : Grammar → Type 0
  NumbersKept (node align form) = FormKept form

  pub FormKept : Form → Type 0
  FormKept (num leaf) = IsTrue (num_fine leaf)
  FormKept (seq fields home) = FieldsKept fields
  FormKept (list sizing g) = NumbersKept g
  FormKept (choice cases rule) = AlternativesKept cases
  FormKept (contained sizing g) = NumbersKept g
  FormKept _ = Unit {0}

  pub FieldsKept : Fields → Type 0
  FieldsKept no_fields = Unit {0}
  FieldsKept (component name g presence default own fs) = NumbersKept g × FieldsKept fs
  FieldsKept (inserted name g slot fs) = NumbersKept g × FieldsKept fs

  pub AlternativesKept : Alternatives → Type 0
  AlternativesKept no_alternatives = Unit {0}
  AlternativesKept (alternative name g tests more) = NumbersKept g × AlternativesKept more

-- the same of one field
abbrev pub FieldKept : OneField → Type 0
FieldKept (a_component name g presence default own) = NumbersKept g
FieldKept (an_inserted name g slot) = NumbersKept g
