-- Grammars in which each determinant serves one use, so that a shortest and a longest packet can be put together part by part. (This profile's own.)
use Rattle.std.specs.Prelude.{◌≡◌, ◌≢◌, ℕ, zero, suc, ◌+◌, ◌≤◌, ◌<◌, pos, Bool, true, false, nat_eq, List, [], ◌∷◌, ◌++◌, map, Option, Some, None, slice_get}
use Rattle.std.specs.List.{list_any}
use Rattle.acn_num.specs.Bits.{octets as octets_for, number}
use Rattle.acn_num.specs.Ranges.{In}
use Rattle.acn_grammar.specs.Check.{NodeAt}
use Rattle.acn_grammar.specs.Code.{in_octets}
use Rattle.acn_grammar.specs.Grammar.{Grammar, Form, Fields, Alternatives, node, text, seq, list, choice, contained, no_fields, component, inserted, no_alternatives, alternative}
use Rattle.acn_grammar.specs.Interval.{span}
use Rattle.acn_grammar.specs.Slots.{domain_of}
use Rattle.acn_grammar.specs.Tree.{holds}
use Rattle.acn_grammar.specs.Walk.{Stand, Role, a_component, slot_of, slot_here, nodes_of, conditions_of, presence_tests, form_uses}
use Rattle.acn_grammar.specs.declared.node.SizeRule.{SizeRule}
use Rattle.acn_grammar.specs.declared.node.SizeRule.TheVariants.{Slot}
use Rattle.acn_grammar.specs.declared.node.TextLeaf.{TextLeaf}
use Rattle.acn_grammar.specs.declared.node.Test.{Test}
use Rattle.acn_grammar.specs.Walk.{condition}
use Rattle.acn_extreme_laws.specs.declared.why.Why.{Why}
use Rattle.acn_extreme_laws.specs.declared.why.Why.TheVariants.{TwoUses, ThroughAList, CountNotPermitted, TerminatorAlone, OfAComponent}

-- The uses of slots, all conditions of one CHOICE on a slot counting as one use, at the CHOICE.

abbrev pub once_if : Bool → ℕ
once_if true = 1
once_if false = 0

-- how many of these are the slot
abbrev pub count_of_slot : ℕ → List ℕ → ℕ
count_of_slot s [] = 0
count_of_slot s (t ∷ ts) = once_if (nat_eq t s) + count_of_slot s ts

abbrev pub tested : List Test → List ℕ
tested ts = map (λ t. slot_of (condition t)) ts

-- a component's own conditions
abbrev pub role_uses : ℕ → Role → ℕ
role_uses s (a_component one) = count_of_slot s (tested (presence_tests one.presence))
role_uses s _ = 0

-- whether one of a CHOICE's conditions is on the slot
abbrev pub is_tested : ℕ → List (List ℕ × List Test) → Bool
is_tested s cases = list_any (λ c. list_any (λ t. nat_eq t s) (tested c.1)) cases

abbrev pub choice_use : ℕ → Form → ℕ
choice_use s (choice cases rule) = once_if (is_tested s (conditions_of cases))
choice_use s _ = 0

abbrev pub uses_at : ℕ → Stand → ℕ
uses_at s at = role_uses s at.role + choice_use s at.form + count_of_slot s (map slot_of (form_uses at.form))

abbrev pub uses_among : ℕ → List Stand → ℕ
uses_among s [] = 0
uses_among s (at ∷ rest) = uses_at s at + uses_among s rest

-- What keeps a grammar from it, a line a reason.

-- the size of the slot permits the count of octets
abbrev pub SlotPermits : Grammar → SizeRule → ℕ → Type 0
SlotPermits root (Slot s) n = In (domain_of root s) (pos n)
SlotPermits root _ n = Unit {0}

abbrev pub CountsPermitted : Grammar → Form → Type 0
CountsPermitted root (contained sizing g) = (n : ℕ) → octets_for (span g).least ≤ n → n ≤ octets_for (span g).greatest → In sizing.sizes (pos n) × SlotPermits root sizing.rule n
CountsPermitted root _ = Unit {0}

-- a character other than the first octet of the terminator
abbrev pub OtherThanEnd : Option (List Bool) → TextLeaf → Type 0
OtherThanEnd None leaf = Unit {0}
OtherThanEnd (Some end) leaf = (c : ℕ) × In leaf.alphabet (pos c) × ((octet : List Bool) → slice_get (in_octets end) 0 ≡ Some octet → c ≢ number octet)

abbrev pub HasOther : Form → Type 0
HasOther (text leaf) = OtherThanEnd leaf.ended leaf
HasOther _ = Unit {0}

abbrev pub is_list : Form → Bool
is_list (list sizing g) = true
is_list _ = false

abbrev pub own_slot : Role → Option ℕ
own_slot (a_component one) = one.slot
own_slot _ = None

-- the slots that are open at the nearest list round the node at a path: at the node where the path begins, the slots of the first list are open, and
-- those of the second are open at the nearest list round it
abbrev mutual
  pub barred_in : Grammar → (around barred path : List ℕ) → List ℕ
  barred_in (node align form) around barred [] = barred
  barred_in (node align form) around barred (k ∷ path) = form_barred form around barred k path

  pub form_barred : Form → (around barred : List ℕ) → ℕ → List ℕ → List ℕ
  form_barred (seq fields home) around barred k path = fields_barred fields (home ++ around) barred k path
  form_barred (list sizing g) around barred k path = barred_in g around around path
  form_barred (choice cases rule) around barred k path = cases_barred cases around barred k path
  form_barred (contained sizing g) around barred k path = barred_in g around barred path
  form_barred _ around barred k path = []

  pub fields_barred : Fields → (around barred : List ℕ) → ℕ → List ℕ → List ℕ
  fields_barred no_fields around barred k path = []
  fields_barred (component name g presence default own fs) around barred zero path = barred_in g around barred path
  fields_barred (component name g presence default own fs) around barred (suc k) path = fields_barred fs around barred k path
  fields_barred (inserted name g slot fs) around barred zero path = barred_in g around barred path
  fields_barred (inserted name g slot fs) around barred (suc k) path = fields_barred fs around barred k path

  pub cases_barred : Alternatives → (around barred : List ℕ) → ℕ → List ℕ → List ℕ
  cases_barred no_alternatives around barred k path = []
  cases_barred (alternative name g tests more) around barred zero path = barred_in g around barred path
  cases_barred (alternative name g tests more) around barred (suc k) path = cases_barred more around barred k path

abbrev pub barred_at : Grammar → (path : List ℕ) → List ℕ
barred_at root path = barred_in root [] [] path

-- a node inside a list uses a slot that is open there: the list stands between the slot's home and its use
abbrev pub IsThroughList : Grammar → Stand → Type 0
IsThroughList root at = (s : ℕ) × (holds (barred_at root at.path) s ≡ true) × (0 < uses_at s at)

abbrev pub rank : Why → ℕ
rank TwoUses = 1
rank ThroughAList = 2
rank CountNotPermitted = 3
rank TerminatorAlone = 4
rank OfAComponent = 5

-- the node shows the reason
abbrev pub Shows : Grammar → Why → Stand → Type 0
Shows root TwoUses at = (s : ℕ) × (slot_here at.role ≡ Some s) × (1 < uses_among s (nodes_of root))
Shows root ThroughAList at = IsThroughList root at
Shows root CountNotPermitted at = CountsPermitted root at.form → ⊥
Shows root TerminatorAlone at = HasOther at.form → ⊥
Shows root OfAComponent at = (s : ℕ) × (own_slot at.role ≡ Some s)

abbrev pub Single : Grammar → Type 0
Single root = (why : Why) (k : ℕ) (at : Stand) → NodeAt root k at → Shows root why at → ⊥

-- the least reason, at the first node in preorder that shows it
pub record FirstUnsingle (root : Grammar) (path : List ℕ) (why : Why) : Type 0 where
  pub number : ℕ
  pub here : Stand
  pub stands : NodeAt root number here
  pub shows : Shows root why here
  pub least : (other : Why) (k : ℕ) (at : Stand) → rank other < rank why → NodeAt root k at → Shows root other at → ⊥
  pub first : (k : ℕ) (at : Stand) → k < number → NodeAt root k at → Shows root why at → ⊥
  pub path_is : path ≡ here.path
