-- What the code keeps on its way: the items by which a CHOICE is told, each with its index, and steps that have neither an end yet nor the numbers of
-- their alternatives' steps.
use Rattle.std.specs.Prelude.{ℕ, ◌+◌, ℤ, List, [], ◌∷◌}
use Rattle.acn_grammar.specs.Grammar.{Grammar, Form, node, choice}
use Rattle.acn_grammar.specs.Slots.{items_of}
use Rattle.acn_grammar.specs.declared.node.ChoiceRule.{ChoiceRule}
use Rattle.acn_grammar.specs.declared.node.ChoiceRule.TheVariants.{Item}
use Rattle.acn_plan.specs.Steps.{case_numbers, act_of}
use Rattle.acn_plan.specs.declared.step.Act.{Act}
use Rattle.acn_plan.specs.declared.step.Act.TheVariants as acts
use Rattle.acn_plan.specs.declared.step.Place.{Place}
use Rattle.acn_plan.specs.declared.step.Step.{Step}

-- the names of items, each with its index
abbrev pub numbered : (index : ℕ) → List (List ℕ × ℤ) → List (List ℕ × ℕ)
numbered i [] = []
numbered i (e ∷ es) = (e.0, i) ∷ numbered (i + 1) es

-- those of the slot that the rule names
abbrev pub item_places : (root : Grammar) → ChoiceRule → List (List ℕ × ℕ)
item_places root (Item s) = numbered 0 (items_of root s)
item_places root _ = []

-- the numbers of the steps of a body's alternatives, of which the first has this number
abbrev pub form_numbers : (number : ℕ) → Form → List ℕ
form_numbers i (choice cases rule) = case_numbers i cases
form_numbers i _ = []

-- an act with these numbers of its alternatives' steps
abbrev pub with_numbers : List ℕ → Act → Act
with_numbers numbers (acts.Choice cases) = acts.Choice (record { rule = cases.rule; numbers = numbers })
with_numbers numbers act = act

-- the act of a body without these numbers
abbrev pub open_act : Form → Act
open_act form = with_numbers [] (act_of 0 form)

-- the step of a node, without its end and these numbers
abbrev pub open_step : Place → Grammar → Step
open_step place (node align form) = record { align = align; act = open_act form; place = place; next = 0 }

abbrev pub ended : Step → (numbers : List ℕ) → (next : ℕ) → Step
ended s numbers next = record { align = s.align; act = with_numbers numbers s.act; place = s.place; next = next }
