-- A text that was put behind others.
use Rattle.std.specs.Prelude.{◌≡◌, ℕ, List, ◌++◌}

-- a text of which this holds stands behind what stood there
abbrev pub Adds : (List ℕ → Type 0) → (old new : List ℕ) → Type 0
Adds P old new = (text : List ℕ) × (new ≡ old ++ text) × P text
