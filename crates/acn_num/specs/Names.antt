-- Names as plain data.
use Rattle.std.specs.Prelude.{ℕ, List}

-- the bytes of a name
abbrev pub Name : Type 0
Name = List ℕ
