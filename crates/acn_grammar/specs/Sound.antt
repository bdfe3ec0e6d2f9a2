-- What an accepted tree keeps at each of its nodes: all that a reader, a writer or a compiled plan needs of it, by recursion.
-- (This profile's own.)
use Rattle.std.specs.Prelude.{◌≡◌, ℕ, zero, suc, ◌+◌, ◌≤◌, nat_eq, ℤ, true, false, List, ◌++◌, length, map, Contains, Option, Some, None, IsTrue}
use Rattle.acn_num.specs.Ranges.{In}
use Rattle.acn_grammar.specs.Asks.{same_name}
use Rattle.acn_grammar.specs.Check.{HasOneWidth}
use Rattle.acn_grammar.specs.Fails.{count_of}
use Rattle.acn_grammar.specs.Walk.{conditions_of}
use Rattle.acn_grammar.specs.Grammar.{Grammar, Form, Fields, Alternatives, node, num, octets, bits, text, seq, list, choice, contained, no_fields, component, inserted, no_alternatives, alternative}
use Rattle.acn_grammar.specs.Leaves.{num_fine, text_fine, sizing_fine, list_fine, all_differ}
use Rattle.acn_grammar.specs.Length.{ending}
use Rattle.acn_grammar.specs.Scoped.{Known, with_slot, with_own, TestsIn, RuleIn, EndTold, Apart, after, fields_after, choose_known, tests_at, NoOverlap}
use Rattle.acn_grammar.specs.Slots.{domain_of, items_of, slot_leaf}
use Rattle.acn_grammar.specs.Tree.{is_align, choice_fine, field_names, holds}
use Rattle.acn_grammar.specs.declared.node.NumKind.TheVariants.{Null}
use Rattle.acn_grammar.specs.declared.node.Presence.{Presence}
use Rattle.acn_grammar.specs.declared.node.Presence.TheVariants.{Always, Bit, When}
use Rattle.acn_grammar.specs.declared.node.ChoiceRule.{ChoiceRule}
use Rattle.acn_grammar.specs.declared.node.ChoiceRule.TheVariants.{Index, Tests, Item}
use Rattle.acn_grammar.specs.declared.limits.TheConstants.{MOST_NODES, MOST_OPEN_SLOTS}
use Rattle.acn_num.specs.declared.limits.TheConstants.{MOST_STEPS}

abbrev pub field_count : Fields → ℕ
field_count no_fields = zero
field_count (component name g presence default own fs) = suc (field_count fs)
field_count (inserted name g slot fs) = suc (field_count fs)

-- a component has at most one condition, on a slot that is known
abbrev pub PresenceSound : Known → Presence → Type 0
PresenceSound ks Always = Unit {0}
PresenceSound ks Bit = Unit {0}
PresenceSound ks (When ts) = (length ts ≡ 1) × TestsIn ks ts

-- behind the node the same slots are known as before it: it holds the field of no slot of an outer home
abbrev pub NothingLeaves : Known → Grammar → Type 0
NothingLeaves ks g = (s : ℕ) → after ks g s ≡ ks s

-- nothing leaves a component that may be absent
abbrev pub NothingLeavesIt : Presence → Known → Grammar → Type 0
NothingLeavesIt Always ks g = Unit {0}
NothingLeavesIt Bit ks g = NothingLeaves ks g
NothingLeavesIt (When ts) ks g = NothingLeaves ks g

-- all codes of the number have one length, that of a determinant at most
abbrev pub OneWidth : Grammar → Type 0
OneWidth (node align (num leaf)) = HasOneWidth leaf
OneWidth _ = ⊥

-- the node is a NULL, whose number is no slot's
abbrev pub IsNull : Grammar → Type 0
IsNull (node align (num leaf)) = leaf.kind ≡ Null
IsNull _ = ⊥

module _ (root : Grammar) where
  -- The node is the number whose set permits the slot's numbers. The slot is at home round it and isn't known before it, so it has one field.
  abbrev pub SaysSlot : (around : List ℕ) → Known → ℕ → Grammar → Type 0
  SaysSlot around ks s (node align (num leaf)) = (holds around s ≡ true) × (ks s ≡ false) × (slot_leaf root s ≡ Some leaf)
  SaysSlot around ks s _ = ⊥

  -- a component whose number is a slot's is always there
  abbrev pub OwnSound : (around : List ℕ) → Known → Option ℕ → Presence → Grammar → Type 0
  OwnSound around ks None presence g = Unit {0}
  OwnSound around ks (Some s) presence g = (presence ≡ Always) × SaysSlot around ks s g

  -- the fields of a SEQUENCE and the slots at home there
  pub record SequenceSound (around : List ℕ) (ks : Known) (fields : Fields) (home : List ℕ) : Type 0 where
    pub few_fields : field_count fields ≤ MOST_NODES
    pub names_differ : IsTrue (all_differ same_name (field_names fields))
    pub few_open : length home + length around ≤ MOST_OPEN_SLOTS
    -- each slot at home here is named once, isn't known before, and is at home in no SEQUENCE round this one
    pub named_once : IsTrue (all_differ nat_eq home)
    pub unknown : Apart ks home
    pub not_around : Apart (holds around) home
    -- its field stands inside and is always there, so it is known behind the fields, and a number is permitted
    pub read_inside : (s : ℕ) → holds home s ≡ true → fields_after ks fields s ≡ true
    pub permits : (s : ℕ) → holds home s ≡ true → (x : ℤ) × In (domain_of root s) x

  -- what chooses is known and chooses one alternative, and each has an item
  abbrev pub RuleSound : Known → Alternatives → ChoiceRule → Type 0
  RuleSound ks cases (Index width) = Unit {0}
  RuleSound ks cases Tests = ((i : ℕ) → TestsIn ks (tests_at cases i)) × NoOverlap root cases
  RuleSound ks cases (Item s) = (ks s ≡ true) × ((name : List ℕ) → Contains (map (λ c. c.0) (conditions_of cases)) name → Contains (map (λ e. e.0) (items_of root s)) name)

  -- A node at a path of k steps, round which the slots of a list are at home, and some of them known.
  abbrev mutual
    pub Sound : (k : ℕ) → (around : List ℕ) → Known → Grammar → Type 0
    Sound k around ks (node align form) = IsTrue (is_align align) × (k ≤ MOST_STEPS) × FormSound k around ks form

    pub FormSound : (k : ℕ) → (around : List ℕ) → Known → Form → Type 0
    FormSound k around ks (num leaf) = IsTrue (num_fine leaf)
    FormSound k around ks (octets sizing) = IsTrue (sizing_fine sizing) × RuleIn ks sizing.rule
    FormSound k around ks (bits sizing) = IsTrue (sizing_fine sizing) × RuleIn ks sizing.rule
    FormSound k around ks (text leaf) = IsTrue (text_fine leaf) × RuleIn ks leaf.sized.rule
    FormSound k around ks (seq fields home) = SequenceSound around ks fields home × FieldsSound (suc k) (home ++ around) ks fields
    FormSound k around ks (list sizing g) = IsTrue (list_fine sizing) × RuleIn ks sizing.rule × EndTold (ending sizing.rule) sizing.sizes g × NothingLeaves ks g × Sound (suc k) around ks g
    FormSound k around ks (choice cases rule) = IsTrue (choice_fine (conditions_of cases) rule) × (count_of cases ≤ MOST_NODES) × RuleSound ks cases rule × AlternativesSound (suc k) around ks cases
    FormSound k around ks (contained sizing g) = IsTrue (sizing_fine sizing) × RuleIn ks sizing.rule × NothingLeaves ks g × Sound (suc k) around ks g

    pub FieldsSound : (k : ℕ) → (around : List ℕ) → Known → Fields → Type 0
    FieldsSound k around ks no_fields = Unit {0}
    FieldsSound k around ks (component name g presence default own fs) =
        PresenceSound ks presence × OwnSound around ks own presence g × NothingLeavesIt presence ks g × Sound k around ks g × FieldsSound k around (choose_known presence ks (with_own own (after ks g))) fs
    FieldsSound k around ks (inserted name g (Some s) fs) = SaysSlot around ks s g × OneWidth g × Sound k around ks g × FieldsSound k around (with_slot s ks) fs
    FieldsSound k around ks (inserted name g None fs) = IsNull g × Sound k around ks g × FieldsSound k around ks fs

    pub AlternativesSound : (k : ℕ) → (around : List ℕ) → Known → Alternatives → Type 0
    AlternativesSound k around ks no_alternatives = Unit {0}
    AlternativesSound k around ks (alternative name g tests more) = NothingLeaves ks g × Sound k around ks g × AlternativesSound k around ks more
