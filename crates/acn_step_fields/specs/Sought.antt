-- How the steps to the field of a slot are sought, one field after another.
use Rattle.std.specs.Prelude.{ℕ, Bool, true, false, List, [], ◌∷◌, Option, None, option_map}
use Rattle.acn_events.specs.Located.{in_some, located}
use Rattle.acn_grammar.specs.Asks.{at_slot, steps_to}
use Rattle.acn_grammar.specs.Grammar.{Grammar}
use Rattle.acn_grammar.specs.Paths.{part_node}
use Rattle.acn_plan.specs.declared.step.Act.{Act}
use Rattle.acn_plan.specs.declared.step.Act.TheVariants as acts
use Rattle.acn_plan.specs.declared.step.Place.{Place}
use Rattle.acn_plan.specs.declared.step.Place.TheVariants as places

-- the steps by one field, which has the number k
abbrev pub field_steps_by : Place → Grammar → (k s : ℕ) → Option (List ℕ)
field_steps_by (places.Component name presence default own) g k s = at_slot own s (k ∷ []) (option_map (λ steps. k ∷ steps) (steps_to g s))
field_steps_by (places.Inserted name slot) g k s = at_slot slot s (k ∷ []) None
field_steps_by _ g k s = None

-- the steps by a home further inside on the way, where the first step is k
abbrev pub located_inside : Grammar → (k : ℕ) → (path : List ℕ) → ℕ → Option (List ℕ)
located_inside g k path s = option_map (λ f. k ∷ f) (in_some (part_node g k) (λ inside. located inside path s))

-- the step is a SEQUENCE's
abbrev pub is_sequence : Act → Bool
is_sequence (acts.Seq home) = true
is_sequence _ = false
