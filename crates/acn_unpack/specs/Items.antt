-- Alternatives among steps, and the items that say which of them is there. (This profile's own.)
use Rattle.std.specs.Prelude.{◌≡◌, ◌<◌, ◌≤◌, ℕ, suc, pos, ℤ, Bool, false, List, [], ◌∷◌, length, map, Option, Some, None, if◌then◌else◌}
use Rattle.std.specs.Ordering.{int_eq}
use Rattle.acn_grammar.specs.Grammar.{Grammar, Alternatives}
use Rattle.acn_grammar.specs.Scoped.{names_of}
use Rattle.acn_grammar.specs.Slots.{items_of}
use Rattle.acn_plan.specs.Back.{node_at, cases_at}
use Rattle.acn_plan.specs.Steps.{item_named}
use Rattle.acn_plan.specs.declared.step.Place.{Place}
use Rattle.acn_plan.specs.declared.step.Place.TheVariants as places
use Rattle.acn_plan.specs.declared.step.Step.{Step}
use Rattle.acn_reads.specs.Choices.{grammar_at}

-- the name of the alternative of a place
abbrev pub name_in : Place → List ℕ
name_in (places.Alternative name tests item) = name
name_in _ = []

-- the number is that of the item
abbrev pub is_item : ℤ → Option ℕ → Bool
is_item x None = false
is_item x (Some i) = int_eq x (pos i)

-- the first alternative whose item has the number, the first of these having the index k
abbrev pub first_item : ℤ → (k : ℕ) → List (Option ℕ) → Option ℕ
first_item x k [] = None
first_item x k (item ∷ items) = if is_item x item then Some k else first_item x (suc k) items

-- the items of alternatives are those of their names, among the items of a slot
abbrev pub ItemsAre : Grammar → (slot : ℕ) → Alternatives → List (Option ℕ) → Type 0
ItemsAre root slot cases items = items ≡ map (λ name. item_named name 0 (items_of root slot)) (names_of cases)

-- step n is that of the alternative of index i, among those from step k on to an end
pub record IsCase (steps : List Step) (k end i n : ℕ) : Type 0 where
  pub from : k ≤ n
  pub inside : n < length steps
  pub is : grammar_at (cases_at steps k end) i ≡ Some (node_at steps n)
