-- Whole files, and writes that end early.
use Rattle.std.specs.Prelude.{◌≡◌, ℕ, ◌<◌, List, ◌++◌, Option, IfSome, length}
use Rattle.acn_num.specs.declared.limits.TheConstants.{MOST_FILE_BYTES}
use Rattle.acn_outside.specs.Moves.{Gains}

-- these bytes are the whole file, as far as it is told
abbrev pub IsWhole : Option (List ℕ) → List ℕ → Type 0
IsWhole file bytes = IfSome file (λ all. bytes ≡ all)

-- the file has more bytes than a file may have, as far as it is told
abbrev pub IsTooLong : Option (List ℕ) → Type 0
IsTooLong file = IfSome file (λ all. MOST_FILE_BYTES < length all)

-- some front of the bytes was added at the end
abbrev pub GainsFront : Option (List ℕ) → Option (List ℕ) → List ℕ → Type 0
GainsFront before after bytes = (front : List ℕ) × (back : List ℕ) × (bytes ≡ front ++ back) × Gains before after front
