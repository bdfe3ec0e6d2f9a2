-- What the walk over a value takes for granted: alignments are positive, leaves keep their rules, the numbers that are written are
-- permitted, paths have steps to spare, and no SEQUENCE or list has too many parts. (This profile's own.)
use Rattle.std.specs.Prelude.{ℕ, zero, suc, ◌<◌, ◌≤◌, List, IsTrue, Option, Some, None}
use Rattle.acn_num.specs.Ranges.{In}
use Rattle.acn_num.specs.declared.limits.TheConstants.{MOST_SIZE, MOST_STEPS}
use Rattle.acn_grammar.specs.Grammar.{Grammar, Form, Fields, Alternatives, Data, Places, Elements, node, num, seq, list, choice, contained, component, inserted, no_alternatives, alternative, record_of, list_of, alt, empty, filled, no_elements, element, element_count}
use Rattle.acn_grammar.specs.Leaves.{num_fine}
use Rattle.acn_grammar.specs.Length.{number_of, least}
use Rattle.acn_grammar.specs.Meets.{Meets}
use Rattle.acn_grammar.specs.Scoped.{Known}
use Rattle.acn_grammar.specs.Sound.{Sound, field_count}
use Rattle.acn_grammar.specs.declared.limits.TheConstants.{MOST_NODES}

-- the number of an inserted field has a code
abbrev pub HasCode : Grammar → Type 0
HasCode (node align (num leaf)) = (0 < align) × IsTrue (num_fine leaf) × In leaf.set (least leaf.set)
HasCode _ = Unit {0}

abbrev pub CanWalkField : (k : ℕ) → Grammar → Type 0
CanWalkField k g = (k ≤ MOST_STEPS) × HasCode g

abbrev pub CanWalkEach : (Data → Type 0) → Elements → Type 0
CanWalkEach each no_elements = Unit {0}
CanWalkEach each (element d es) = each d × CanWalkEach each es

-- a value of a node at a path of k steps
abbrev mutual
  pub CanWalk : (k : ℕ) → Grammar → Data → Type 0
  CanWalk k (node align form) d = (0 < align) × (k ≤ MOST_STEPS) × CanWalkForm k form d

  pub CanWalkForm : (k : ℕ) → Form → Data → Type 0
  CanWalkForm k (num leaf) d = IsTrue (num_fine leaf) × In leaf.set (number_of d)
  CanWalkForm k (seq fields home) (record_of ps) = (field_count fields ≤ MOST_NODES) × CanWalkFields (suc k) fields ps
  CanWalkForm k (list sizing g) (list_of es) = (element_count es ≤ MOST_SIZE) × CanWalkEach (CanWalk (suc k) g) es
  CanWalkForm k (choice cases rule) (alt i d) = CanWalkCase (suc k) cases i d
  CanWalkForm k (contained sizing g) d = CanWalk (suc k) g d
  CanWalkForm k _ d = Unit {0}

  pub CanWalkFields : (k : ℕ) → Fields → Places → Type 0
  CanWalkFields k (component name g presence default own fs) (filled d ps) = CanWalk k g d × CanWalkFields k fs ps
  CanWalkFields k (component name g presence default own fs) (empty ps) = CanWalkFields k fs ps
  CanWalkFields k (inserted name g slot fs) ps = CanWalkField k g × CanWalkFields k fs ps
  CanWalkFields k _ ps = Unit {0}

  pub CanWalkCase : (k : ℕ) → Alternatives → (i : ℕ) → Data → Type 0
  CanWalkCase k (alternative name g tests more) zero d = CanWalk k g d
  CanWalkCase k (alternative name g tests more) (suc i) d = CanWalkCase k more i d
  CanWalkCase k no_alternatives i d = Unit {0}

-- a place of a component, which may be empty
abbrev pub CanWalkPlace : (k : ℕ) → Grammar → Option Data → Type 0
CanWalkPlace k g None = Unit {0}
CanWalkPlace k g (Some d) = CanWalk k g d

-- a value of a sound node that meets its constraints can be walked over
abbrev pub SoundValuesCanBeWalked : Type 0
SoundValuesCanBeWalked = (root : Grammar) (k : ℕ) (around : List ℕ) (ks : Known) (g : Grammar) → Sound root k around ks g → (d : Data) → Meets g d → CanWalk k g d
