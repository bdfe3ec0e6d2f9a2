-- The fields of each SEQUENCE have names that differ (X.680 25.2), whatever else a grammar says.
use Rattle.std.specs.Prelude.{◌≡◌, true}
use Rattle.acn_grammar.specs.Asks.{same_name}
use Rattle.acn_grammar.specs.Grammar.{Grammar, Form, Fields, Alternatives, node, seq, list, choice, contained, no_fields, component, inserted, no_alternatives, alternative}
use Rattle.acn_grammar.specs.Leaves.{all_differ}
use Rattle.acn_grammar.specs.Tree.{field_names}
use Rattle.acn_grammar.specs.View.{OneField, a_component, an_inserted}

-- the names of the fields of a SEQUENCE
abbrev pub Differ : Fields → Type 0
Differ fs = all_differ same_name (field_names fs) ≡ true

abbrev mutual
  pub NamesDiffer : Grammar → Type 0
  NamesDiffer (node align form) = FormNamesDiffer form

  pub FormNamesDiffer : Form → Type 0
  FormNamesDiffer (seq fields home) = Differ fields × FieldsNamesDiffer fields
  FormNamesDiffer (list sizing g) = NamesDiffer g
  FormNamesDiffer (choice cases rule) = AlternativesNamesDiffer cases
  FormNamesDiffer (contained sizing g) = NamesDiffer g
  FormNamesDiffer _ = Unit {0}

  pub FieldsNamesDiffer : Fields → Type 0
  FieldsNamesDiffer no_fields = Unit {0}
  FieldsNamesDiffer (component name g presence default own fs) = NamesDiffer g × FieldsNamesDiffer fs
  FieldsNamesDiffer (inserted name g slot fs) = FieldsNamesDiffer fs

  pub AlternativesNamesDiffer : Alternatives → Type 0
  AlternativesNamesDiffer no_alternatives = Unit {0}
  AlternativesNamesDiffer (alternative name g tests more) = NamesDiffer g × AlternativesNamesDiffer more

-- those inside a field
abbrev pub FieldNamesDiffer : OneField → Type 0
FieldNamesDiffer (a_component name g presence default own) = NamesDiffer g
FieldNamesDiffer (an_inserted name g slot) = Unit {0}
