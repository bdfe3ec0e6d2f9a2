-- The steps of a root: one for each node in preorder, with what a node is beside the nodes inside it. (This profile's own.)
use Rattle.std.specs.Prelude.{ℕ, suc, ◌+◌, ℤ, List, [], ◌∷◌, ◌++◌, Option, None, Some, if◌then◌else◌}
use Rattle.acn_grammar.specs.Asks.{same_name}
use Rattle.acn_grammar.specs.Grammar.{Grammar, Form, Fields, Alternatives, node, num, octets, bits, text, seq, list, choice, contained, no_fields, component, inserted, no_alternatives, alternative}
use Rattle.acn_grammar.specs.Slots.{items_of}
use Rattle.acn_grammar.specs.View.{OneField, a_component, an_inserted}
use Rattle.acn_grammar.specs.declared.node.ChoiceRule.{ChoiceRule}
use Rattle.acn_grammar.specs.declared.node.ChoiceRule.TheVariants.{Item}
use Rattle.acn_plan.specs.declared.step.Act.{Act}
use Rattle.acn_plan.specs.declared.step.Act.TheVariants as acts
use Rattle.acn_plan.specs.declared.step.Place.{Place}
use Rattle.acn_plan.specs.declared.step.Place.TheVariants as places
use Rattle.acn_plan.specs.declared.step.Step.{Step}

-- how many nodes there are, the node itself among them
abbrev mutual
  pub count_of : Grammar → ℕ
  count_of (node align form) = suc (form_count form)

  pub form_count : Form → ℕ
  form_count (seq fs home) = fields_count fs
  form_count (list sizing g) = count_of g
  form_count (choice cases rule) = cases_count cases
  form_count (contained sizing g) = count_of g
  form_count _ = 0

  pub fields_count : Fields → ℕ
  fields_count no_fields = 0
  fields_count (component name g presence default own fs) = count_of g + fields_count fs
  fields_count (inserted name g slot fs) = count_of g + fields_count fs

  pub cases_count : Alternatives → ℕ
  cases_count no_alternatives = 0
  cases_count (alternative name g tests more) = count_of g + cases_count more

-- the numbers of the steps of alternatives, of which the first has this number
abbrev pub case_numbers : (number : ℕ) → Alternatives → List ℕ
case_numbers i no_alternatives = []
case_numbers i (alternative name g tests more) = i ∷ case_numbers (i + count_of g) more

-- the body of a node without the nodes inside it, of whose steps the first has this number
abbrev pub act_of : (number : ℕ) → Form → Act
act_of i (num leaf) = acts.Num leaf
act_of i (octets sizing) = acts.Octets sizing
act_of i (bits sizing) = acts.Bits sizing
act_of i (text leaf) = acts.Text leaf
act_of i (seq fs home) = acts.Seq home
act_of i (list sizing g) = acts.List sizing
act_of i (choice cases rule) = acts.Choice (record { rule = rule; numbers = case_numbers i cases })
act_of i (contained sizing g) = acts.Contained sizing

-- the index of the first item of a name
abbrev pub item_named : (name : List ℕ) → (index : ℕ) → List (List ℕ × ℤ) → Option ℕ
item_named name i [] = None
item_named name i (e ∷ es) = if same_name e.0 name then Some i else item_named name (i + 1) es

module _ (root : Grammar) where
  -- the index of the item of the alternative's name, where the number of a slot says which alternative is there
  abbrev pub item_for : ChoiceRule → (name : List ℕ) → Option ℕ
  item_for (Item s) name = item_named name 0 (items_of root s)
  item_for _ name = None

  -- the steps of a node and of all that is inside it, the first of which has this number
  abbrev mutual
    pub node_steps : Place → (number : ℕ) → Grammar → List Step
    node_steps place i (node align form) =
        record { align = align; act = act_of (i + 1) form; place = place; next = i + suc (form_count form) } ∷ form_steps (i + 1) form

    pub form_steps : (number : ℕ) → Form → List Step
    form_steps i (seq fs home) = field_steps i fs
    form_steps i (list sizing g) = node_steps places.Element i g
    form_steps i (choice cases rule) = case_steps rule i cases
    form_steps i (contained sizing g) = node_steps places.Content i g
    form_steps i _ = []

    pub field_steps : (number : ℕ) → Fields → List Step
    field_steps i no_fields = []
    field_steps i (component name g presence default own fs) = node_steps (places.Component name presence default own) i g ++ field_steps (i + count_of g) fs
    field_steps i (inserted name g slot fs) = node_steps (places.Inserted name slot) i g ++ field_steps (i + count_of g) fs

    pub case_steps : ChoiceRule → (number : ℕ) → Alternatives → List Step
    case_steps rule i no_alternatives = []
    case_steps rule i (alternative name g tests more) = node_steps (places.Alternative name tests (item_for rule name)) i g ++ case_steps rule (i + count_of g) more

  -- the steps of one field
  abbrev pub one_field_steps : (number : ℕ) → OneField → List Step
  one_field_steps i (a_component name g presence default own) = node_steps (places.Component name presence default own) i g
  one_field_steps i (an_inserted name g slot) = node_steps (places.Inserted name slot) i g

-- the steps of a root
abbrev pub steps_of : Grammar → List Step
steps_of root = node_steps root places.Root 0 root
