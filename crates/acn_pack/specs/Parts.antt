-- Events of parts that the walk takes one by one. (This profile's own.)
use Rattle.std.specs.Prelude.{◌≡◌, ◌≤◌, ℕ, zero, suc, pos, Bool, true, false, List, [], ◌∷◌, ◌++◌, map, drop, slice_get, Option, Some, None, IsTrue}
use Rattle.acn_grammar.specs.Asks.{Equal, index_of, same_name}
use Rattle.acn_grammar.specs.Grammar.{Grammar, Fields, Alternatives, Data, node, num, no_alternatives, alternative}
use Rattle.acn_grammar.specs.Leaves.{text_fine}
use Rattle.acn_grammar.specs.Slots.{items_of}
use Rattle.acn_grammar.specs.View.{OneAlternative, places_view}
use Rattle.acn_grammar.specs.declared.node.ChoiceRule.{ChoiceRule}
use Rattle.acn_grammar.specs.declared.node.ChoiceRule.TheVariants.{Item}
use Rattle.acn_grammar.specs.declared.node.Presence.{Presence}
use Rattle.acn_grammar.specs.declared.node.Test.{Test}
use Rattle.acn_grammar.specs.declared.value.Value.{Value}
use Rattle.acn_events.specs.Event.{Event, wants}
use Rattle.acn_events.specs.Events.{events, field_events, own_events, presence_events, test_event}
use Rattle.acn_plan.specs.Back.{StepAt, node_at, cases_at, case_items, item_at}
use Rattle.acn_plan.specs.declared.step.Act.{Act}
use Rattle.acn_plan.specs.declared.step.Act.TheVariants as acts
use Rattle.acn_plan.specs.declared.step.Place.{Place}
use Rattle.acn_plan.specs.declared.step.Place.TheVariants as places
use Rattle.acn_plan.specs.declared.step.Step.{Step}

-- the name of the alternative of a place, and its conditions
abbrev pub name_in : Place → List ℕ
name_in (places.Alternative name tests item) = name
name_in _ = []

abbrev pub tests_in : Place → List Test
tests_in (places.Alternative name tests item) = tests
tests_in _ = []

-- what tells an alternative, asked at the path of the CHOICE, and asked at its own
abbrev pub item_events : (root : Grammar) → (path : List ℕ) → ChoiceRule → (name : List ℕ) → List Event
item_events root path (Item s) name = wants path s (Equal (pos (index_of (same_name name) (items_of root s)))) ∷ []
item_events root path _ name = []

abbrev pub case_tests : (path : List ℕ) → ChoiceRule → List Test → List Event
case_tests path (Item s) tests = []
case_tests path _ tests = map (test_event path true) tests

-- a component at a path, which may be absent
abbrev pub place_events : (root g : Grammar) → Presence → (own : Option ℕ) → (path : List ℕ) → Option Data → List Event
place_events root g presence own path (Some d) = own_events path own g d ++ (presence_events path true presence ++ events root g path d)
place_events root g presence own path None = presence_events path false presence

-- what is left of the fields, behind the place of the next component; nothing where that is wanting
abbrev pub left_of : (root : Grammar) → Fields → (path : List ℕ) → (k : ℕ) → List (Option Value) → Option ℕ → List Event
left_of root fs path k ps None = []
left_of root fs path k ps (Some next) = field_events root fs path k (places_view (drop next ps))

-- the number of a component is a slot's only where it is a number
abbrev pub IsNumber : Grammar → Type 0
IsNumber (node align (num leaf)) = Unit {0}
IsNumber _ = ⊥

abbrev pub OwnIsNumber : Option ℕ → Grammar → Type 0
OwnIsNumber None g = Unit {0}
OwnIsNumber (Some s) g = IsNumber g

-- octets, bits or a text
abbrev pub says_string : Act → Bool
says_string (acts.Octets sizing) = true
says_string (acts.Bits sizing) = true
says_string (acts.Text leaf) = true
says_string _ = false

-- octets, bits or a text of a leaf that is fine
abbrev pub IsString : Act → Type 0
IsString (acts.Octets sizing) = Unit {0}
IsString (acts.Bits sizing) = Unit {0}
IsString (acts.Text leaf) = IsTrue (text_fine leaf)
IsString _ = ⊥

-- where a slot's number says which alternative is there, the place has the item of its name
abbrev pub IsItemed : (root : Grammar) → ChoiceRule → Place → Type 0
IsItemed root (Item s) place = item_at place ≡ Some (index_of (same_name (name_in place)) (items_of root s))
IsItemed root _ place = Unit {0}

-- the alternative of an index
abbrev pub nth_case : Alternatives → ℕ → Option OneAlternative
nth_case no_alternatives i = None
nth_case (alternative name g tests more) zero = Some (record { name = name; grammar = g; tests = tests })
nth_case (alternative name g tests more) (suc i) = nth_case more i

-- step n is that of the alternative of index i, among those from step k on to an end
pub record IsCase (steps : List Step) (k end i n : ℕ) : Type 0 where
  pub step : Step
  pub at : StepAt steps n step
  pub from : k ≤ n
  pub is : nth_case (cases_at steps k end) i ≡ Some (record { name = name_in step.place; grammar = node_at steps n; tests = tests_in step.place })
  pub item : slice_get (case_items steps k end) i ≡ Some (item_at step.place)

-- the bit of a component, if it has one
abbrev pub bits_in : Option Bool → List Bool
bits_in None = []
bits_in (Some b) = b ∷ []
