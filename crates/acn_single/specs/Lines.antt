-- The nodes of a tree as the pass over them keeps them: what is asked of the slots that are open at the nearest list round a node, and of
-- its counts and characters, is noted with the node.
use Rattle.std.specs.Prelude.{ℕ, suc, ◌+◌, ◌≤◌, Bool, false, nat_lt, min, List, [], ◌∷◌, ◌++◌, map, Option, Some, None, if◌then◌else◌, IsTrue}
use Rattle.std.specs.List.{list_any}
use Rattle.acn_num.specs.declared.limits.TheConstants.{MOST_STEPS}
use Rattle.acn_grammar.specs.Fails.{count_of}
use Rattle.acn_grammar.specs.Grammar.{Grammar, Form, Fields, Alternatives, node, text, seq, list, choice, contained, no_fields, component, inserted, no_alternatives, alternative}
use Rattle.acn_grammar.specs.Leaves.{text_fine}
use Rattle.acn_grammar.specs.Sound.{field_count}
use Rattle.acn_grammar.specs.Walk.{slot_of, form_uses, presence_tests}
use Rattle.acn_grammar.specs.View.{OneAlternative, OneField, a_component, an_inserted, form_of}
use Rattle.acn_grammar.specs.declared.limits.TheConstants.{MOST_NODES}
use Rattle.acn_grammar.specs.declared.node.Test.{Test}
use Rattle.acn_tree.specs.Room.{InTree}
use Rattle.acn_extreme_laws.specs.Facts.{Facts, Tag, facts, plain, says, of_component, uses_of, form_bars, is_there, or_first}
use Rattle.acn_extreme_laws.specs.Single.{tested, count_of_slot, choice_use}
use Rattle.acn_extreme_laws.specs.declared.why.Why.{Why}
use Rattle.acn_extreme_laws.specs.declared.why.Why.TheVariants.{TwoUses, ThroughAList, CountNotPermitted, TerminatorAlone, OfAComponent}
use Rattle.acn_single.specs.declared.lines.Line.{Line}
use Rattle.acn_single.specs.declared.lines.Tag.{Tag as OfTag}
use Rattle.acn_single.specs.declared.single.Reason.{Reason}

pub record Seen : Type 0 where
  pub path : List ℕ
  pub tag : Tag
  pub form : Form
  pub through : Bool
  pub uncounted : Bool
  pub alone : Bool

abbrev pub seen : Grammar → Facts → Seen
seen root f = record {
  path = f.path;
  tag = f.tag;
  form = f.form;
  through = list_any (λ s. nat_lt 0 (uses_of s f)) f.barred;
  uncounted = form_bars root CountNotPermitted f.form;
  alone = form_bars root TerminatorAlone f.form;
}

abbrev pub tag_of : OfTag → Tag
tag_of tag = record { tests = tag.tests.now; slot = tag.slot; own = tag.own }

abbrev pub line_of : Line → Seen
line_of line = record { path = line.path; tag = tag_of line.tag; form = form_of line.body.now; through = line.through; uncounted = line.uncounted; alone = line.alone }

-- How often a slot is used, up to twice.

abbrev pub seen_uses : ℕ → Seen → ℕ
seen_uses s f = count_of_slot s (tested f.tag.tests) + choice_use s f.form + count_of_slot s (map slot_of (form_uses f.form))

-- a node with these conditions of its own uses the slot
abbrev pub uses_by : List Test → Form → ℕ → ℕ
uses_by tests form s = count_of_slot s (tested tests) + choice_use s form + count_of_slot s (map slot_of (form_uses form))

abbrev pub is_used : List Test → Form → ℕ → Bool
is_used tests form s = nat_lt 0 (uses_by tests form s)

abbrev pub all_seen_uses : ℕ → List Seen → ℕ
all_seen_uses s [] = 0
all_seen_uses s (f ∷ fs) = seen_uses s f + all_seen_uses s fs

abbrev pub few : ℕ → ℕ
few n = min n 2

-- Which nodes show a reason.

abbrev pub used_twice : List Seen → Option ℕ → Bool
used_twice all None = false
used_twice all (Some s) = nat_lt 1 (all_seen_uses s all)

abbrev pub shows : List Seen → Why → Seen → Bool
shows all TwoUses f = used_twice all f.tag.slot
shows all ThroughAList f = f.through
shows all CountNotPermitted f = f.uncounted
shows all TerminatorAlone f = f.alone
shows all OfAComponent f = is_there f.tag.own

abbrev pub first_seen : (Seen → Bool) → List Seen → Option (List ℕ)
first_seen test [] = None
first_seen test (f ∷ fs) = if test f then Some f.path else first_seen test fs

abbrev pub first_by : List Seen → Why → Option (List ℕ)
first_by all why = first_seen (shows all why) all

-- What the pass takes from the rules of a tree: a node at a path of k steps.
abbrev mutual
  pub CanList : ℕ → Grammar → Type 0
  CanList k (node align form) = (k ≤ MOST_STEPS) × FormCanList k form

  pub FormCanList : ℕ → Form → Type 0
  FormCanList k (text leaf) = IsTrue (text_fine leaf)
  FormCanList k (seq fields home) = (field_count fields ≤ MOST_NODES) × FieldsCanList (suc k) fields
  FormCanList k (list sizing g) = CanList (suc k) g
  FormCanList k (choice cases rule) = (count_of cases ≤ MOST_NODES) × AlternativesCanList (suc k) cases
  FormCanList k (contained sizing g) = InTree g × CanList (suc k) g
  FormCanList k _ = Unit {0}

  pub FieldsCanList : ℕ → Fields → Type 0
  FieldsCanList k no_fields = Unit {0}
  FieldsCanList k (component name g presence default own fs) = CanList k g × FieldsCanList k fs
  FieldsCanList k (inserted name g slot fs) = CanList k g × FieldsCanList k fs

  pub AlternativesCanList : ℕ → Alternatives → Type 0
  AlternativesCanList k no_alternatives = Unit {0}
  AlternativesCanList k (alternative name g tests more) = CanList k g × AlternativesCanList k more

-- the same of one field
abbrev pub FieldCanList : ℕ → OneField → Type 0
FieldCanList k (a_component name g presence default own) = CanList k g
FieldCanList k (an_inserted name g slot) = CanList k g

-- the nodes of one field, and of one alternative
abbrev pub one_field : (path around barred : List ℕ) → ℕ → OneField → List Facts
one_field path around barred k (a_component name g presence default own) = facts (of_component (presence_tests presence) own) (path ++ k ∷ []) around barred g
one_field path around barred k (an_inserted name g slot) = facts (says slot) (path ++ k ∷ []) around barred g

abbrev pub one_case : (path around barred : List ℕ) → ℕ → OneAlternative → List Facts
one_case path around barred k a = facts plain (path ++ k ∷ []) around barred a.grammar

-- The least reason.

abbrev pub reason_of : Reason → Why × List ℕ
reason_of r = (r.why, r.at)

abbrev pub of_leaves : List Seen → Option (Why × List ℕ)
of_leaves all = or_first CountNotPermitted (first_by all CountNotPermitted) (or_first TerminatorAlone (first_by all TerminatorAlone) (or_first OfAComponent (first_by all OfAComponent) None))

abbrev pub first_among : List Seen → Option (Why × List ℕ)
first_among all = or_first TwoUses (first_by all TwoUses) (or_first ThroughAList (first_by all ThroughAList) (of_leaves all))
