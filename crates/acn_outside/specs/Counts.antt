-- Counts of faults. They and their law are this program's own.
use Rattle.std.specs.Prelude.{◌≡◌, ◌⊎◌, ℕ, ◌<◌, List}

-- The count stays.
abbrev pub Stays : ℕ → ℕ → Type 0
Stays before after = after ≡ before

-- No name's count changes.
abbrev pub AllStay : (List ℕ → ℕ) → (List ℕ → ℕ) → Type 0
AllStay before after = (name : List ℕ) → Stays (before name) (after name)

-- The count rose. One that stands at the greatest number of 64 bits is said to rise.
abbrev pub Rose : ℕ → ℕ → Type 0
Rose before after = (before < after) ⊎ (before ≡ 18446744073709551615)
