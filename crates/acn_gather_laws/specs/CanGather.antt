-- What the walk over a value takes for granted: each slot that is used is at home round its use, paths have steps to spare, lists
-- aren't too long, and contents can be measured. (This profile's own.)
use Rattle.std.specs.Prelude.{◌≡◌, ℕ, zero, suc, ◌≤◌, ◌^◌, true, List, ◌++◌, Option, Some, None}
use Rattle.acn_grammar.specs.Grammar.{Grammar, Form, Fields, Alternatives, Data, Places, Elements, node, octets, bits, text, seq, list, choice, contained, component, inserted, no_alternatives, alternative, record_of, list_of, alt, empty, filled, no_elements, element, element_count}
use Rattle.acn_grammar.specs.Length.{bit_length}
use Rattle.acn_grammar.specs.Meets.{Meets}
use Rattle.acn_grammar.specs.Scoped.{Known, PresenceIn, RuleIn}
use Rattle.acn_grammar.specs.Sound.{Sound}
use Rattle.acn_grammar.specs.Tree.{holds}
use Rattle.acn_grammar.specs.declared.node.Presence.{Presence}
use Rattle.acn_grammar.specs.declared.node.ChoiceRule.{ChoiceRule}
use Rattle.acn_num.specs.declared.limits.TheConstants.{MOST_SIZE, MOST_STEPS}
use Rattle.acn_asking.specs.Uses.{OwnIn, CaseIn}
use Rattle.acn_determinants.specs.Determinants.{SequenceIn}
use Rattle.acn_lengths.specs.Measured.{CanMeasure}

-- the contents have a length
pub record HasLength (g : Grammar) (d : Data) : Type 0 where
  pub can : CanMeasure g d
  pub near : bit_length g 0 d ≤ 2 ^ 40

abbrev pub CanGatherEach : (Data → Type 0) → Elements → Type 0
CanGatherEach each no_elements = Unit {0}
CanGatherEach each (element d es) = each d × CanGatherEach each es

module _ (root : Grammar) where
  -- A value of a node at a path of k steps, round which the slots of a list are at home.
  abbrev mutual
    pub CanGather : (k : ℕ) → (around : List ℕ) → Grammar → Data → Type 0
    CanGather k around (node align form) d = (k ≤ MOST_STEPS) × CanGatherForm k around form d

    pub CanGatherForm : (k : ℕ) → (around : List ℕ) → Form → Data → Type 0
    CanGatherForm k around (octets sizing) d = RuleIn (holds around) sizing.rule
    CanGatherForm k around (bits sizing) d = RuleIn (holds around) sizing.rule
    CanGatherForm k around (text leaf) d = RuleIn (holds around) leaf.sized.rule
    CanGatherForm k around (seq fields home) (record_of ps) = SequenceIn root fields home × CanGatherFields (suc k) (home ++ around) fields ps
    CanGatherForm k around (list sizing g) (list_of es) = RuleIn (holds around) sizing.rule × (element_count es ≤ MOST_SIZE) × CanGatherEach (CanGather (suc k) around g) es
    CanGatherForm k around (choice cases rule) (alt i d) = CanGatherCase (suc k) around rule cases i d
    CanGatherForm k around (contained sizing g) d = RuleIn (holds around) sizing.rule × HasLength g d × CanGather (suc k) around g d
    CanGatherForm k around _ d = Unit {0}

    pub CanGatherFields : (k : ℕ) → (around : List ℕ) → Fields → Places → Type 0
    CanGatherFields k around (component name g presence default own fs) (filled d ps) =
        OwnIn (holds around) own × PresenceIn (holds around) presence × CanGather k around g d × CanGatherFields k around fs ps
    CanGatherFields k around (component name g presence default own fs) (empty ps) = (k ≤ MOST_STEPS) × PresenceIn (holds around) presence × CanGatherFields k around fs ps
    CanGatherFields k around (inserted name g slot fs) ps = CanGatherFields k around fs ps
    CanGatherFields k around _ ps = Unit {0}

    pub CanGatherCase : (k : ℕ) → (around : List ℕ) → ChoiceRule → Alternatives → ℕ → Data → Type 0
    CanGatherCase k around rule (alternative name g tests more) zero d = CaseIn (holds around) rule tests × CanGather k around g d
    CanGatherCase k around rule (alternative name g tests more) (suc i) d = CanGatherCase k around rule more i d
    CanGatherCase k around rule no_alternatives i d = Unit {0}

  -- the place of a component, which may be empty
  abbrev pub CanGatherPlace : (k : ℕ) → (around : List ℕ) → Grammar → Presence → (own : Option ℕ) → Option Data → Type 0
  CanGatherPlace k around g presence own (Some d) = OwnIn (holds around) own × PresenceIn (holds around) presence × CanGather k around g d
  CanGatherPlace k around g presence own None = (k ≤ MOST_STEPS) × PresenceIn (holds around) presence

-- a value of a sound node that meets the constraints and isn't too long can be gathered, where each slot that is known is at home round the node
abbrev pub SoundValuesCanBeGathered : Type 0
SoundValuesCanBeGathered = (root : Grammar) (k : ℕ) (around : List ℕ) (ks : Known) (g : Grammar) → Sound root k around ks g → ((s : ℕ) → ks s ≡ true → holds around s ≡ true)
    → (d : Data) → Meets g d → bit_length g 0 d ≤ 2 ^ 40 → CanGather root k around g d
