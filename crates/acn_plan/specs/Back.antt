-- What a list of steps says, read back as a tree: each step as the node that it is the first step of. (This profile's own.)
use Rattle.std.specs.Prelude.{◌≡◌, ℕ, zero, suc, ◌+◌, ◌-◌, ◌<◌, ◌≤◌, List, [], ◌∷◌, length, map, drop, Option, None}
use Rattle.acn_grammar.specs.Grammar.{Grammar, Form, Fields, Alternatives, node, num, octets, bits, text, seq, list, choice, contained, no_fields, no_alternatives, alternative}
use Rattle.acn_grammar.specs.Scoped.{names_of}
use Rattle.acn_grammar.specs.Slots.{items_of}
use Rattle.acn_grammar.specs.View.{OneField, a_component, an_inserted, with_field}
use Rattle.acn_grammar.specs.declared.node.ChoiceRule.TheVariants.{Item}
use Rattle.acn_plan.specs.Steps.{item_named}
use Rattle.acn_plan.specs.declared.step.Act.{Act}
use Rattle.acn_plan.specs.declared.step.Act.TheVariants as acts
use Rattle.acn_plan.specs.declared.step.Cases.{Cases}
use Rattle.acn_plan.specs.declared.step.Place.{Place}
use Rattle.acn_plan.specs.declared.step.Place.TheVariants as places
use Rattle.acn_plan.specs.declared.step.Step.{Step}

-- a step with the node that begins there
abbrev pub Mark : Type 0
Mark = Step × Grammar

-- what stands where no step is
abbrev pub no_node : Grammar
no_node = node 1 (seq no_fields [])

abbrev pub first_node : List Mark → Grammar
first_node [] = no_node
first_node (m ∷ ms) = m.1

-- a field in front of others, by its place
abbrev pub field_by : Place → Grammar → OneField
field_by (places.Component name presence default own) g = a_component name g presence default own
field_by (places.Inserted name slot) g = an_inserted name g slot
field_by _ g = an_inserted [] g None

abbrev pub put_field : Place → Grammar → Fields → Fields
put_field p g fs = with_field (field_by p g) fs

abbrev pub put_case : Place → Grammar → Alternatives → Alternatives
put_case (places.Alternative name tests item) g more = alternative name g tests more
put_case _ g more = alternative [] g [] more

-- the fields among so many steps from a number on, behind some that are passed over
abbrev pub fields_in : (pass left number : ℕ) → List Mark → Fields
fields_in pass zero n ms = no_fields
fields_in pass (suc left) n [] = no_fields
fields_in zero (suc left) n (m ∷ ms) = put_field m.0.place m.1 (fields_in (m.0.next - (n + 1)) left (n + 1) ms)
fields_in (suc pass) (suc left) n (m ∷ ms) = fields_in pass left (n + 1) ms

abbrev pub cases_in : (pass left number : ℕ) → List Mark → Alternatives
cases_in pass zero n ms = no_alternatives
cases_in pass (suc left) n [] = no_alternatives
cases_in zero (suc left) n (m ∷ ms) = put_case m.0.place m.1 (cases_in (m.0.next - (n + 1)) left (n + 1) ms)
cases_in (suc pass) (suc left) n (m ∷ ms) = cases_in pass left (n + 1) ms

-- the body of an act, with the steps behind it, the first of which has the number
abbrev pub form_in : Act → (next number : ℕ) → List Mark → Form
form_in (acts.Num leaf) next n ms = num leaf
form_in (acts.Octets sizing) next n ms = octets sizing
form_in (acts.Bits sizing) next n ms = bits sizing
form_in (acts.Text leaf) next n ms = text leaf
form_in (acts.Seq home) next n ms = seq (fields_in 0 (next - n) n ms) home
form_in (acts.List sizing) next n ms = list sizing (first_node ms)
form_in (acts.Choice cases) next n ms = choice (cases_in 0 (next - n) n ms) cases.rule
form_in (acts.Contained sizing) next n ms = contained sizing (first_node ms)

-- steps from a number on, each with its node
abbrev pub marks : (number : ℕ) → List Step → List Mark
marks n [] = []
marks n (s ∷ ss) = (s, node s.align (form_in s.act s.next (n + 1) (marks (n + 1) ss))) ∷ marks (n + 1) ss

-- the node of step i, and the root
abbrev pub node_at : List Step → ℕ → Grammar
node_at steps i = first_node (marks i (drop i steps))

abbrev pub root_of : List Step → Grammar
root_of steps = node_at steps 0

-- the body of step i, and the fields and alternatives from step k on to an end
abbrev pub form_at : List Step → ℕ → Step → Form
form_at steps i s = form_in s.act s.next (i + 1) (marks (i + 1) (drop (i + 1) steps))

abbrev pub fields_at : List Step → (k end : ℕ) → Fields
fields_at steps k end = fields_in 0 (end - k) k (marks k (drop k steps))

abbrev pub cases_at : List Step → (k end : ℕ) → Alternatives
cases_at steps k end = cases_in 0 (end - k) k (marks k (drop k steps))

-- Nesting.

-- a node stands inside that of the act
abbrev pub HoldsOne : Act → (number next : ℕ) → Type 0
HoldsOne (acts.List sizing) n next = n + 1 < next
HoldsOne (acts.Contained sizing) n next = n + 1 < next
HoldsOne _ n next = Unit {0}

-- a step ends behind its number and not behind the last one
pub record IsNested (end n : ℕ) (s : Step) : Type 0 where
  pub behind : n < s.next
  pub within : s.next ≤ end
  pub holds : HoldsOne s.act n s.next

-- step i of a list
abbrev pub StepAt : List Step → ℕ → Step → Type 0
StepAt steps i s = drop i steps ≡ s ∷ drop (i + 1) steps

abbrev pub Nested : List Step → Type 0
Nested steps = (i : ℕ) (s : Step) → StepAt steps i s → IsNested (length steps) i s

-- Items.

-- the item that says that an alternative is there
abbrev pub item_at : Place → Option ℕ
item_at (places.Alternative name tests item) = item
item_at _ = None

-- the items of the alternatives among so many steps from a number on, behind some that are passed over
abbrev pub items_in : (pass left number : ℕ) → List Step → List (Option ℕ)
items_in pass zero n ss = []
items_in pass (suc left) n [] = []
items_in zero (suc left) n (s ∷ ss) = item_at s.place ∷ items_in (s.next - (n + 1)) left (n + 1) ss
items_in (suc pass) (suc left) n (s ∷ ss) = items_in pass left (n + 1) ss

-- the items of the alternatives from step k on to an end
abbrev pub case_items : List Step → (k end : ℕ) → List (Option ℕ)
case_items steps k end = items_in 0 (end - k) k (drop k steps)

-- where the number of a slot says which alternative is there, each alternative has the item of its name
abbrev pub Itemed : Grammar → List Step → Type 0
Itemed root steps =
    (i : ℕ) (s : Step) (cases : Cases) (slot : ℕ) → StepAt steps i s → s.act ≡ acts.Choice cases → cases.rule ≡ Item slot
    → case_items steps (i + 1) s.next ≡ map (λ name. item_named name 0 (items_of root slot)) (names_of (cases_at steps (i + 1) s.next))

-- Numbers.

-- the numbers of the alternatives among so many steps from a number on, behind some that are passed over
abbrev pub numbers_in : (pass left number : ℕ) → List Step → List ℕ
numbers_in pass zero n ss = []
numbers_in pass (suc left) n [] = []
numbers_in zero (suc left) n (s ∷ ss) = n ∷ numbers_in (s.next - (n + 1)) left (n + 1) ss
numbers_in (suc pass) (suc left) n (s ∷ ss) = numbers_in pass left (n + 1) ss

-- the numbers of the alternatives from step k on to an end
abbrev pub case_places : List Step → (k end : ℕ) → List ℕ
case_places steps k end = numbers_in 0 (end - k) k (drop k steps)

-- each CHOICE has the numbers of its alternatives' steps
abbrev pub Listed : List Step → Type 0
Listed steps = (i : ℕ) (s : Step) (cases : Cases) → StepAt steps i s → s.act ≡ acts.Choice cases → cases.numbers ≡ case_places steps (i + 1) s.next
