-- Which grammars have enumerations whose items can be named by the numbers of 32 bits that `Value::Item` holds. (This profile's
-- own.)
use Rattle.std.specs.Prelude.{◌^◌, nat_lt, length, Bool, true, ◌&&◌, IsTrue}
use Rattle.acn_grammar.specs.Grammar.{Grammar, Form, Fields, Alternatives, node, num, seq, list, choice, contained, no_fields, component, inserted, no_alternatives, alternative}
use Rattle.acn_grammar.specs.View.{OneField, a_component, an_inserted}

abbrev mutual
  -- every enumeration inside has fewer than 2^32 items
  pub items_named : Grammar → Bool
  items_named (node align form) = form_items_named form

  pub form_items_named : Form → Bool
  form_items_named (num leaf) = nat_lt (length leaf.items.items) (2 ^ 32)
  form_items_named (seq fields home) = fields_items_named fields
  form_items_named (list sizing g) = items_named g
  form_items_named (choice cases rule) = alternatives_items_named cases
  form_items_named (contained sizing g) = items_named g
  form_items_named _ = true

  pub fields_items_named : Fields → Bool
  fields_items_named no_fields = true
  fields_items_named (component name g presence default own fs) = items_named g && fields_items_named fs
  fields_items_named (inserted name g slot fs) = items_named g && fields_items_named fs

  pub alternatives_items_named : Alternatives → Bool
  alternatives_items_named no_alternatives = true
  alternatives_items_named (alternative name g tests more) = items_named g && alternatives_items_named more

-- the same of one field
abbrev pub field_items_named : OneField → Bool
field_items_named (a_component name g presence default own) = items_named g
field_items_named (an_inserted name g slot) = items_named g

abbrev pub ItemsNamed : Grammar → Type 0
ItemsNamed g = IsTrue (items_named g)

abbrev pub FormItemsNamed : Form → Type 0
FormItemsNamed form = IsTrue (form_items_named form)

abbrev pub FieldsItemsNamed : Fields → Type 0
FieldsItemsNamed fs = IsTrue (fields_items_named fs)

abbrev pub AlternativesItemsNamed : Alternatives → Type 0
AlternativesItemsNamed cases = IsTrue (alternatives_items_named cases)
