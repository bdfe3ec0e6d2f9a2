-- The moments of a walk, as the program has them. (This profile's own.)
use Rattle.std.specs.Prelude.{◌≡◌, ℕ, List, ◌∷◌, ◌++◌, Option, Some, map, option_map, slice_get}
use Rattle.std.specs.List.{AllByRecursion}
use Rattle.acn_grammar.specs.Asks as asks
use Rattle.acn_grammar.specs.Faults.{ask_of}
use Rattle.acn_grammar.specs.Grammar.{Grammar}
use Rattle.acn_grammar.specs.Meets.{Unfit, conflict, content_size}
use Rattle.acn_grammar.specs.Refused.{FirstUnmet}
use Rattle.acn_grammar.specs.Slots.{domain_of}
use Rattle.acn_asks.specs.Judged.{Judged}
use Rattle.acn_asks.specs.declared.asked.Asked.{Asked}
use Rattle.acn_asks.specs.declared.asked.Unmet.{Unmet}
use Rattle.acn_asks.specs.declared.asked.Unmet.TheVariants as unmet
use Rattle.acn_asks.specs.declared.moments.Halt.{Halt}
use Rattle.acn_asks.specs.declared.moments.Halt.TheVariants as halt
use Rattle.acn_asks.specs.declared.moments.Moment.{Moment}
use Rattle.acn_asks.specs.declared.moments.Moment.TheVariants as moment

-- a moment as plain data
abbrev pub moment_of : Moment → asks.Moment
moment_of (moment.Asks path field slot set wanted) = asks.asks path field slot (ask_of wanted)
moment_of (moment.Counts path octets sizing) = asks.counts path octets sizing.now

-- the field is of the moment's slot, and so are the numbers
abbrev pub IsOf : (root : Grammar) → (slot_at : List ℕ → Option ℕ) → Moment → Type 0
IsOf root slot_at (moment.Asks path field slot set wanted) = (set.now ≡ domain_of root slot) × (slot_at field ≡ Some slot)
IsOf root slot_at (moment.Counts path octets sizing) = Unit {0}

abbrev pub AreOf : (root : Grammar) → (slot_at : List ℕ → Option ℕ) → List Moment → Type 0
AreOf root slot_at ms = AllByRecursion (IsOf root slot_at) ms

-- what a value is refused for where the moment is the first that can't be met
abbrev pub unfit_of : Moment → (earlier : Option asks.Ask) → Unfit
unfit_of (moment.Asks path field slot set wanted) earlier = record { path = path; why = conflict field earlier (ask_of wanted) }
unfit_of (moment.Counts path octets sizing) earlier = record { path = path; why = content_size octets }

-- the moment is the first that can't be met, behind those that are judged, whatever comes behind it
abbrev pub StopsAt : Moment → List (List ℕ × Asked) → Unmet → Type 0
StopsAt m heard (unmet.Conflict earlier) =
    (root : Grammar) (slot_at : List ℕ → Option ℕ) (before more : List asks.Moment) → IsOf root slot_at m → Judged root slot_at before heard
    → FirstUnmet root (before ++ moment_of m ∷ more) (unfit_of m (option_map ask_of earlier))
StopsAt m heard unmet.NoMemory = Unit {0}

-- why hearing them ends at a place
abbrev pub halted : (at : ℕ) → Unmet → Halt
halted at (unmet.Conflict earlier) = halt.Unmet at earlier
halted at unmet.NoMemory = halt.NoMemory

-- the moment at a place is the first of them that can't be met
abbrev pub HaltsAt : List Moment → Halt → Type 0
HaltsAt ms (halt.Unmet at earlier) =
    (m : Moment) × (slice_get ms at ≡ Some m) × ((root : Grammar) (slot_at : List ℕ → Option ℕ) → AreOf root slot_at ms → FirstUnmet root (map moment_of ms) (unfit_of m (option_map ask_of earlier)))
HaltsAt ms halt.NoMemory = Unit {0}
