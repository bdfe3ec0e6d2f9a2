-- The least and the greatest number of ranges, range by range.
use Rattle.std.specs.Prelude.{ℤ, List, [], ◌∷◌, Option, Some, None}
use Rattle.acn_grammar.specs.Images.{ends_from}

-- the ends of these ranges and of some before them
abbrev pub ends_behind : Option (ℤ × ℤ) → List (ℤ × ℤ) → Option (ℤ × ℤ)
ends_behind None [] = None
ends_behind None (r ∷ rs) = Some (ends_from r rs)
ends_behind (Some e) rs = Some (ends_from e rs)
