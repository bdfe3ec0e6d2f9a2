-- Where a byte of a file stands in its line. (This program's own.)
use Rattle.std.specs.Prelude.{ℕ, ◌==◌, ◌||◌, List, [], ◌∷◌, if◌then◌else◌}

-- what stands behind the last line feed, where `line` stands behind the last one before
abbrev pub behind_feed : (line rest : List ℕ) → List ℕ
behind_feed line [] = line
behind_feed line (b ∷ rest) = if b == 10 then behind_feed rest rest else behind_feed line rest

-- what stands of the last line
abbrev pub last_line : List ℕ → List ℕ
last_line bytes = behind_feed bytes bytes

-- what stands before the first end of a line
abbrev pub first_line : List ℕ → List ℕ
first_line [] = []
first_line (b ∷ rest) = if b == 10 || b == 13 then [] else b ∷ first_line rest
