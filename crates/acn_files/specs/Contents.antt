-- Files that are read whole, one after the other. (This program's own.)
use Rattle.std.specs.Prelude.{◌≡◌, ℕ, ◌≤◌, List, [], ◌∷◌, length, Option, Some, IfSome, slice_get, take}
use Rattle.acn_num.specs.declared.limits.TheConstants.{MOST_FILE_BYTES}
use Rattle.acn_outside.specs.Whole.{IsWhole, IsTooLong}

-- what files hold, by name, where it is told
abbrev pub Told : Type 0
Told = List ℕ → Option (List ℕ)

-- these are the whole contents of the files of these names, and none has more bytes than a file may have
abbrev pub AreWhole : Told → (names contents : List (List ℕ)) → Type 0
AreWhole told [] [] = Unit {0}
AreWhole told (name ∷ names) (bytes ∷ contents) = (IsWhole (told name) bytes × (length bytes ≤ MOST_FILE_BYTES)) × AreWhole told names contents
AreWhole told [] (bytes ∷ contents) = ⊥
AreWhole told (name ∷ names) [] = ⊥

-- no more bytes than a file may have, as far as they are told
abbrev pub IsShort : Option (List ℕ) → Type 0
IsShort file = IfSome file (λ all. length all ≤ MOST_FILE_BYTES)

abbrev pub AreShort : Told → List (List ℕ) → Type 0
AreShort told [] = Unit {0}
AreShort told (name ∷ names) = IsShort (told name) × AreShort told names

-- the file at this place is the first that is too long
pub record IsFirstTooLong (told : Told) (names : List (List ℕ)) (k : ℕ) : Type 0 where
  pub name : List ℕ
  pub stands : slice_get names k ≡ Some name
  pub long : IsTooLong (told name)
  pub short : AreShort told (take k names)
