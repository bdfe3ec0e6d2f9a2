-- What the length of a value takes for granted: alignments are positive, leaves keep their rules, and the numbers that are written
-- are permitted. (This profile's own.)
use Rattle.std.specs.Prelude.{ℕ, List, zero, suc, ◌<◌, IsTrue, Option, Some, None}
use Rattle.acn_num.specs.Ranges.{In}
use Rattle.acn_grammar.specs.Grammar.{Grammar, Form, Fields, Alternatives, Data, Places, Elements, node, num, seq, list, choice, contained, component, inserted, no_alternatives, alternative, record_of, list_of, alt, empty, filled, no_elements, element}
use Rattle.acn_grammar.specs.Leaves.{num_fine}
use Rattle.acn_grammar.specs.Meets.{Meets}
use Rattle.acn_grammar.specs.Scoped.{Known}
use Rattle.acn_grammar.specs.Sound.{Sound}
use Rattle.acn_grammar.specs.declared.node.Presence.{Presence}
use Rattle.acn_grammar.specs.declared.node.Presence.TheVariants.{Always, Bit, When}
use Rattle.acn_grammar.specs.Length.{number_of, least, bit_length}

-- an inserted field's numbers have one length
abbrev pub CanMeasureField : Grammar → Type 0
CanMeasureField (node align (num leaf)) = (0 < align) × IsTrue (num_fine leaf) × In leaf.set (least leaf.set)
CanMeasureField (node align _) = Unit {0}

abbrev pub CanMeasureEach : (Data → Type 0) → Elements → Type 0
CanMeasureEach each no_elements = Unit {0}
CanMeasureEach each (element d es) = each d × CanMeasureEach each es

abbrev mutual
  pub CanMeasure : Grammar → Data → Type 0
  CanMeasure (node align form) d = (0 < align) × CanMeasureForm form d

  pub CanMeasureForm : Form → Data → Type 0
  CanMeasureForm (num leaf) d = IsTrue (num_fine leaf) × In leaf.set (number_of d)
  CanMeasureForm (seq fields home) (record_of ps) = CanMeasureFields fields ps
  CanMeasureForm (list sizing g) (list_of es) = CanMeasureEach (CanMeasure g) es
  CanMeasureForm (choice alternatives rule) (alt i d) = CanMeasureCase alternatives i d
  CanMeasureForm (contained sizing g) d = CanMeasure g d
  CanMeasureForm _ d = Unit {0}

  pub CanMeasureFields : Fields → Places → Type 0
  CanMeasureFields (component name g presence default own fs) (filled d ps) = CanMeasure g d × CanMeasureFields fs ps
  CanMeasureFields (component name g presence default own fs) (empty ps) = CanMeasureFields fs ps
  CanMeasureFields (inserted name g slot fs) ps = CanMeasureField g × CanMeasureFields fs ps
  CanMeasureFields _ ps = Unit {0}

  pub CanMeasureCase : Alternatives → (i : ℕ) → Data → Type 0
  CanMeasureCase (alternative name g tests more) zero d = CanMeasure g d
  CanMeasureCase (alternative name g tests more) (suc i) d = CanMeasureCase more i d
  CanMeasureCase no_alternatives i d = Unit {0}

-- a place of a component, which may be empty
abbrev pub place_length : Grammar → (at : ℕ) → Option Data → ℕ
place_length g at None = 0
place_length g at (Some d) = bit_length g at d

abbrev pub CanMeasurePlace : Grammar → Option Data → Type 0
CanMeasurePlace g None = Unit {0}
CanMeasurePlace g (Some d) = CanMeasure g d

-- the presence bits of a component
abbrev pub presence_width : Presence → ℕ
presence_width Always = 0
presence_width Bit = 1
presence_width (When tests) = 0

-- a value of a sound node that meets the constraints can be measured: what `check` says of the nodes of a tree, and `meets` of a value, is enough
abbrev pub SoundValuesCanBeMeasured : Type 0
SoundValuesCanBeMeasured = (root : Grammar) (k : ℕ) (around : List ℕ) (ks : Known) (g : Grammar) → Sound root k around ks g → (d : Data) → Meets g d → CanMeasure g d
