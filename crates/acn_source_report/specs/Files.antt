-- Places in files. (This program's own.)
use Rattle.std.specs.Prelude.{ℕ, suc, nat_eq, Bool, List, take, count_by}

-- a line ends with a line feed, and the first one is line 1
abbrev pub is_line_feed : ℕ → Bool
is_line_feed byte = nat_eq byte 10

-- the number of the line in which the byte with so many before it stands
abbrev pub line_number : (bytes : List ℕ) → (at : ℕ) → ℕ
line_number bytes at = suc (count_by is_line_feed (take at bytes))
