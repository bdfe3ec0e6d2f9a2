-- The components of a SEQUENCE, noted by their names in byte order.
use Rattle.std.specs.Prelude.{List, [], ◌∷◌, ℕ}
use Rattle.std.specs.Borrow.{Bor}
use Rattle.acn_grammar.specs.Grammar.{Fields}
use Rattle.acn_lines.specs.Keys.{short_of}
use Rattle.acn_lines.specs.Order.{key_text, AreTurns}
use Rattle.acn_lines.specs.declared.turns.Spot.{Spot}
use Rattle.acn_lines.specs.declared.turns.Turn.{Turn}

-- spots with their names
abbrev pub Spots : Type 0
Spots = List (Bor (List ℕ) × Spot)

abbrev pub turn_at : List ℕ → Spot → Turn
turn_at name spot = record { field = spot.field; place = spot.place; key = key_text name; short = short_of (key_text name) }

abbrev pub turns_at : Spots → List Turn
turns_at [] = []
turns_at (e ∷ es) = turn_at e.0.now e.1 ∷ turns_at es

-- the turns of these are those of the fields
abbrev pub AreSpots : Fields → Spots → Type 0
AreSpots fs es = AreTurns fs (turns_at es)
