-- How many modules and assignments there are.
use Rattle.std.specs.Prelude.{ℕ, ◌+◌, List, [], ◌∷◌, length, suc}
use Rattle.acn_asn_syntax.specs.Mirror.{AsnModule}

-- modules and their assignments together
abbrev pub weight : List AsnModule → ℕ
weight [] = 0
weight (m ∷ ms) = suc (length m.items) + weight ms
