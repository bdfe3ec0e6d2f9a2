-- Whether the moments of a walk can be met, one after another, and the first that can't. (This profile's own.)
use Rattle.std.specs.Prelude.{◌≡◌, ℕ, ℤ, List, [], ◌∷◌, ◌++◌, Option, Some, option_map}
use Rattle.acn_grammar.specs.Asks.{Ask, Moment, asks}
use Rattle.acn_grammar.specs.Faults.{ask_of}
use Rattle.acn_grammar.specs.Grammar.{Grammar}
use Rattle.acn_grammar.specs.Meets.{conflict}
use Rattle.acn_grammar.specs.Refused.{CanBeMet, FirstUnmet, asks_of}
use Rattle.acn_grammar.specs.Slots.{domain_of}
use Rattle.acn_asks.specs.Heard.{Hears}
use Rattle.acn_asks.specs.declared.asked.Asked.{Asked}
use Rattle.acn_asks.specs.declared.asked.Unmet.{Unmet}
use Rattle.acn_asks.specs.declared.asked.Unmet.TheVariants.{Conflict, NoMemory}

-- Each of the moments so far can be met, after those before it, and what they ask of each field is heard. `slot_at` says
-- which slot the field at a path is of.
pub record Judged (root : Grammar) (slot_at : List ℕ → Option ℕ) (before : List Moment) (heard : List (List ℕ × Asked)) : Type 0 where
  pub met : (early late : List Moment) (m : Moment) → before ≡ early ++ m ∷ late → CanBeMet root early m
  pub hears : (field : List ℕ) (s : ℕ) → slot_at field ≡ Some s → Hears (domain_of root s) (asks_of field before) heard field

-- Where a moment asks this of the field at a path, which is of the slot s: it is the first moment that can't be met, whatever comes behind it.
abbrev pub FirstConflict : (set : List (ℤ × ℤ)) → List (List ℕ × Asked) → (field : List ℕ) → (wanted : Ask) → Unmet → Type 0
FirstConflict set heard field wanted (Conflict earlier) =
    (root : Grammar) (slot_at : List ℕ → Option ℕ) (path : List ℕ) (s : ℕ) (before more : List Moment) → set ≡ domain_of root s → slot_at field ≡ Some s → Judged root slot_at before heard
    → FirstUnmet root (before ++ asks path field s wanted ∷ more) (record { path = path; why = conflict field (option_map ask_of earlier) wanted })
FirstConflict set heard field wanted NoMemory = Unit {0}

-- and where it can be met it is judged too
abbrev pub JudgesOneMore : (set : List (ℤ × ℤ)) → (old new : List (List ℕ × Asked)) → (field : List ℕ) → (wanted : Ask) → Type 0
JudgesOneMore set old new field wanted =
    (root : Grammar) (slot_at : List ℕ → Option ℕ) (path : List ℕ) (s : ℕ) (before : List Moment) → set ≡ domain_of root s → slot_at field ≡ Some s → Judged root slot_at before old
    → Judged root slot_at (before ++ asks path field s wanted ∷ []) new
