-- The named numbers of an INTEGER by their places in the list.
use Rattle.std.specs.Prelude.{ℕ, ◌+◌, List, [], ◌∷◌, Option, option_map, slice_get, ℤ}
use Rattle.acn_asn_syntax.specs.declared.types.Named.{Named}
use Rattle.acn_num.specs.Names.{Name}
use Rattle.acn_set_elements.specs.Written.{signed}

-- each name with its place
abbrev pub placed : ℕ → List Named → List (Name × ℕ)
placed i [] = []
placed i (n ∷ ns) = (n.name, i) ∷ placed (i + 1) ns

-- the number at a place
abbrev pub number_at : List Named → ℕ → Option ℤ
number_at ns i = option_map (λ (n : Named). signed n.negative n.number) (slice_get ns i)
