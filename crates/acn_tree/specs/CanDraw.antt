-- What making a value takes from the rules of a tree: no set that is drawn from is empty, its numbers are small enough,
-- and numbers of 32 bits name the alternatives and the items.
use Rattle.std.specs.Prelude.{◌<◌, ◌^◌, IsTrue}
use Rattle.acn_grammar.specs.Grammar.{Grammar, Form, Fields, Alternatives, node, num, octets, bits, text, seq, list, choice, contained, no_fields, component, inserted, no_alternatives, alternative}
use Rattle.acn_grammar.specs.Leaves.{num_fine, text_fine, sizes_fine}
use Rattle.acn_tree.specs.Made.{alternative_count}

abbrev mutual
  pub CanDraw : Grammar → Type 0
  CanDraw (node align form) = FormCanDraw form

  pub FormCanDraw : Form → Type 0
  FormCanDraw (num leaf) = IsTrue (num_fine leaf)
  FormCanDraw (octets sizing) = IsTrue (sizes_fine sizing.sizes)
  FormCanDraw (bits sizing) = IsTrue (sizes_fine sizing.sizes)
  FormCanDraw (text leaf) = IsTrue (text_fine leaf)
  FormCanDraw (seq fields home) = FieldsCanDraw fields
  FormCanDraw (list sizing g) = IsTrue (sizes_fine sizing.sizes) × CanDraw g
  FormCanDraw (choice cases rule) = (0 < alternative_count cases) × (alternative_count cases < 2 ^ 32) × AlternativesCanDraw cases
  FormCanDraw (contained sizing g) = CanDraw g

  -- an inserted field draws nothing
  pub FieldsCanDraw : Fields → Type 0
  FieldsCanDraw no_fields = Unit {0}
  FieldsCanDraw (component name g presence default own fs) = CanDraw g × FieldsCanDraw fs
  FieldsCanDraw (inserted name g slot fs) = FieldsCanDraw fs

  pub AlternativesCanDraw : Alternatives → Type 0
  AlternativesCanDraw no_alternatives = Unit {0}
  AlternativesCanDraw (alternative name g tests more) = CanDraw g × AlternativesCanDraw more
