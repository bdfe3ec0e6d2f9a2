-- Bytes that come in and go out, where they are told.
use Rattle.std.specs.Prelude.{◌≡◌, ℕ, ◌≤◌, List, [], ◌++◌, Option, None, Some, option_map, IfSome, length, take, drop}

-- These bytes were taken from the front of what was left. Where nothing is told, nothing is said.
abbrev pub Takes : Option (List ℕ) → Option (List ℕ) → List ℕ → Type 0
Takes before after given = before ≡ option_map (λ rest. given ++ rest) after

-- These bytes were added at the end. An output may cease to tell what it took, and then tells nothing for good.
abbrev pub Gains : Option (List ℕ) → Option (List ℕ) → List ℕ → Type 0
Gains before None bytes = Unit {0}
Gains before (Some new) bytes = (old : List ℕ) × (before ≡ Some old) × (new ≡ old ++ bytes)

-- nothing is left, as far as it is told
abbrev pub IsUsedUp : Option (List ℕ) → Type 0
IsUsedUp rest = IfSome rest (λ bytes. bytes ≡ [])

-- these are the bytes of the file from a place on, as many as they are, as far as it is told
abbrev pub AreAt : Option (List ℕ) → ℕ → List ℕ → Type 0
AreAt file at bytes = IfSome file (λ all. bytes ≡ take (length bytes) (drop at all))

-- the file ends at or before a place, as far as it is told
abbrev pub EndsBy : Option (List ℕ) → ℕ → Type 0
EndsBy file at = IfSome file (λ all. length all ≤ at)
