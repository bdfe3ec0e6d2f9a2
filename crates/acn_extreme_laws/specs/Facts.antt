-- What keeps a grammar from being single, as a pass over its nodes in preorder finds it.
use Rattle.std.specs.Prelude.{ℕ, suc, ◌+◌, pos, Bool, true, false, not, ◌&&◌, ◌||◌, nat_eq, nat_lt, int_le, List, [], ◌∷◌, ◌++◌, map, Option, Some, None, slice_get, if◌then◌else◌}
use Rattle.std.specs.List.{list_any}
use Rattle.acn_num.specs.Bits.{octets as octets_for, number}
use Rattle.acn_num.specs.Ranges.{Ranges, has}
use Rattle.acn_grammar.specs.Code.{in_octets}
use Rattle.acn_grammar.specs.Grammar.{Grammar, Form, Fields, Alternatives, node, text, seq, list, choice, contained, no_fields, component, inserted, no_alternatives, alternative}
use Rattle.acn_grammar.specs.Interval.{span}
use Rattle.acn_grammar.specs.Slots.{domain_of}
use Rattle.acn_grammar.specs.Walk.{slot_of, presence_tests, form_uses}
use Rattle.acn_grammar.specs.declared.node.SizeRule.{SizeRule}
use Rattle.acn_grammar.specs.declared.node.SizeRule.TheVariants.{Prefix, Slot, Ended}
use Rattle.acn_grammar.specs.declared.node.Sizing.{Sizing}
use Rattle.acn_grammar.specs.declared.node.Test.{Test}
use Rattle.acn_extreme_laws.specs.Best.{other_by}
use Rattle.acn_extreme_laws.specs.Single.{tested, count_of_slot, choice_use}
use Rattle.acn_extreme_laws.specs.declared.why.Why.{Why}
use Rattle.acn_extreme_laws.specs.declared.why.Why.TheVariants.{TwoUses, ThroughAList, CountNotPermitted, TerminatorAlone, OfAComponent}

-- what a node's place says of it: its own conditions, the slot that it says, and the same of a component alone
pub record Tag : Type 0 where
  pub tests : List Test
  pub slot : Option ℕ
  pub own : Option ℕ

abbrev pub plain : Tag
plain = record { tests = []; slot = None; own = None }

abbrev pub says : Option ℕ → Tag
says slot = record { tests = []; slot = slot; own = None }

abbrev pub of_component : List Test → Option ℕ → Tag
of_component tests own = record { tests = tests; slot = own; own = own }

-- a node, with the slots that are open at the nearest list round it
pub record Facts : Type 0 where
  pub path : List ℕ
  pub tag : Tag
  pub form : Form
  pub barred : List ℕ

abbrev mutual
  pub facts : Tag → (path around barred : List ℕ) → Grammar → List Facts
  facts tag path around barred (node align form) = record { path = path; tag = tag; form = form; barred = barred } ∷ form_facts path around barred form

  pub form_facts : (path around barred : List ℕ) → Form → List Facts
  form_facts path around barred (seq fields home) = field_facts path (home ++ around) barred 0 fields
  form_facts path around barred (list sizing g) = facts plain (path ++ 0 ∷ []) around around g
  form_facts path around barred (choice cases rule) = case_facts path around barred 0 cases
  form_facts path around barred (contained sizing g) = facts plain (path ++ 0 ∷ []) around barred g
  form_facts path around barred _ = []

  pub field_facts : (path around barred : List ℕ) → ℕ → Fields → List Facts
  field_facts path around barred k no_fields = []
  field_facts path around barred k (component name g presence default own fs) = facts (of_component (presence_tests presence) own) (path ++ k ∷ []) around barred g ++ field_facts path around barred (suc k) fs
  field_facts path around barred k (inserted name g slot fs) = facts (says slot) (path ++ k ∷ []) around barred g ++ field_facts path around barred (suc k) fs

  pub case_facts : (path around barred : List ℕ) → ℕ → Alternatives → List Facts
  case_facts path around barred k no_alternatives = []
  case_facts path around barred k (alternative name g tests more) = facts plain (path ++ k ∷ []) around barred g ++ case_facts path around barred (suc k) more

abbrev pub facts_of : Grammar → List Facts
facts_of root = facts plain [] [] [] root

-- Tests.

abbrev pub uses_of : ℕ → Facts → ℕ
uses_of s f = count_of_slot s (tested f.tag.tests) + choice_use s f.form + count_of_slot s (map slot_of (form_uses f.form))

abbrev pub all_uses : ℕ → List Facts → ℕ
all_uses s [] = 0
all_uses s (f ∷ fs) = uses_of s f + all_uses s fs

abbrev pub used_twice : List Facts → Option ℕ → Bool
used_twice all None = false
used_twice all (Some s) = nat_lt 1 (all_uses s all)

-- one range has all of these numbers
abbrev pub covers : Ranges → (low high : ℕ) → Bool
covers rs low high = list_any (λ r. int_le r.0 (pos low) && int_le (pos high) r.1) rs

abbrev pub slot_covers : Grammar → SizeRule → (low high : ℕ) → Bool
slot_covers root (Slot s) low high = covers (domain_of root s) low high
slot_covers root (Prefix low' width) low high = true
slot_covers root (Ended p) low high = true

abbrev pub counts_covered : Grammar → Sizing → (low high : ℕ) → Bool
counts_covered root sizing low high = nat_lt high low || (covers sizing.sizes low high && slot_covers root sizing.rule low high)

abbrev pub begins_with : Option (List Bool) → ℕ → Bool
begins_with None c = false
begins_with (Some octet) c = nat_eq c (number octet)

abbrev pub other_there : Option (List Bool) → Ranges → Bool
other_there None alphabet = true
other_there (Some end) alphabet = has alphabet (pos (other_by end alphabet)) && not (begins_with (slice_get (in_octets end) 0) (other_by end alphabet))

abbrev pub form_bars : Grammar → Why → Form → Bool
form_bars root CountNotPermitted (contained sizing g) = not (counts_covered root sizing (octets_for (span g).least) (octets_for (span g).greatest))
form_bars root TerminatorAlone (text leaf) = not (other_there leaf.ended leaf.alphabet)
form_bars root _ form = false

abbrev pub is_there : Option ℕ → Bool
is_there None = false
is_there (Some s) = true

-- the node shows the reason
abbrev pub shows : Grammar → List Facts → Why → Facts → Bool
shows root all TwoUses f = used_twice all f.tag.slot
shows root all ThroughAList f = list_any (λ s. nat_lt 0 (uses_of s f)) f.barred
shows root all CountNotPermitted f = form_bars root CountNotPermitted f.form
shows root all TerminatorAlone f = form_bars root TerminatorAlone f.form
shows root all OfAComponent f = is_there f.tag.own

-- the path of the first node that passes
abbrev pub first_path : (Facts → Bool) → List Facts → Option (List ℕ)
first_path test [] = None
first_path test (f ∷ fs) = if test f then Some f.path else first_path test fs

abbrev pub or_first : Why → Option (List ℕ) → Option (Why × List ℕ) → Option (Why × List ℕ)
or_first why None rest = rest
or_first why (Some path) rest = Some (why, path)

abbrev pub first_by : Grammar → List Facts → Why → Option (List ℕ)
first_by root all why = first_path (shows root all why) all

-- the least reason, and the first node that shows it
abbrev pub first_among : Grammar → List Facts → Option (Why × List ℕ)
first_among root all =
    or_first TwoUses (first_by root all TwoUses)
    (or_first ThroughAList (first_by root all ThroughAList)
    (or_first CountNotPermitted (first_by root all CountNotPermitted)
    (or_first TerminatorAlone (first_by root all TerminatorAlone) (or_first OfAComponent (first_by root all OfAComponent) None))))

abbrev pub first_unsingle : Grammar → Option (Why × List ℕ)
first_unsingle root = first_among root (facts_of root)
