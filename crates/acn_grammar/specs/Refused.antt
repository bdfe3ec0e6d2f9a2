-- Which values have no spelling, and why: the first thing in the order of the walk that can't be met. (This profile's own.)
use Rattle.std.specs.Prelude.{◌≡◌, ℕ, ℤ, pos, List, [], ◌∷◌, ◌++◌, Option, Some, None, if◌then◌else◌}
use Rattle.std.specs.List.{flat_map}
use Rattle.acn_num.specs.Ranges.{In}
use Rattle.acn_grammar.specs.Grammar.{Grammar, Data}
use Rattle.acn_grammar.specs.Asks.{Ask, Equal, Avoid, Moment, asks, counts, moments, same_name}
use Rattle.acn_grammar.specs.AsksOn.{Meetable}
use Rattle.acn_grammar.specs.Slots.{domain_of}
use Rattle.acn_grammar.specs.Meets.{Unfit, conflict, content_size, breach}

-- the ask of a moment, where it is of the field at this path of the packet
abbrev pub of_field : (field : List ℕ) → Moment → List Ask
of_field field (asks path other s a) = if same_name field other then a ∷ [] else []
of_field field (counts path n sizing) = []

-- what was asked of one field of the packet
abbrev pub asks_of : (field : List ℕ) → List Moment → List Ask
asks_of field ms = flat_map (of_field field) ms

-- two asks that no number meets
abbrev pub Contradicts : Ask → Ask → Type 0
Contradicts (Equal m) (Equal n) = m ≡ n → ⊥
Contradicts (Equal m) (Avoid n) = m ≡ n
Contradicts (Avoid m) (Equal n) = m ≡ n
Contradicts (Avoid m) (Avoid n) = ⊥

-- something before it asked this
pub record IsAsked (wanted : List Ask) (a : Ask) : Type 0 where
  pub early : List Ask
  pub late : List Ask
  pub is : wanted ≡ early ++ a ∷ late

-- which of the asks of the field before it contradicts one: an Equal, else an Avoid, else none
abbrev pub Earlier : (before : List Ask) → (wanted : Ask) → Option Ask → Type 0
Earlier before wanted (Some (Equal m)) = IsAsked before (Equal m) × Contradicts (Equal m) wanted
Earlier before wanted (Some (Avoid m)) = IsAsked before (Avoid m) × Contradicts (Avoid m) wanted × ((n : ℤ) → IsAsked before (Equal n) → Contradicts (Equal n) wanted → ⊥)
Earlier before wanted None = (a : Ask) → IsAsked before a → Contradicts a wanted → ⊥

abbrev pub Says : List Moment → Moment → Unfit → Type 0
Says before (asks path field s a) u = (earlier : Option Ask) × Earlier (asks_of field before) a earlier × (u ≡ record { path = path; why = conflict field earlier a })
Says before (counts path n sizing) u = u ≡ record { path = path; why = content_size n }

module _ (root : Grammar) where
  -- what comes can be met, after what came before
  abbrev pub CanBeMet : List Moment → Moment → Type 0
  CanBeMet before (asks path field s a) = Meetable (domain_of root s) (asks_of field before ++ a ∷ [])
  CanBeMet before (counts path n sizing) = In sizing.sizes (pos n)

  -- the first moment that can't be met
  pub record FirstUnmet (ms : List Moment) (u : Unfit) : Type 0 where
    pub before : List Moment
    pub here : Moment
    pub after : List Moment
    pub whole : ms ≡ before ++ here ∷ after
    pub met : (early late : List Moment) (m : Moment) → before ≡ early ++ m ∷ late → CanBeMet early m
    pub unmet : CanBeMet before here → ⊥
    pub says : Says before here u

  abbrev pub RefusedAfter : Option Unfit → Data → Unfit → Type 0
  RefusedAfter (Some first) d u = u ≡ first
  RefusedAfter None d u = FirstUnmet (moments root root [] [] d) u

  abbrev pub Refused : Data → Unfit → Type 0
  Refused d u = RefusedAfter (breach root d) d u
