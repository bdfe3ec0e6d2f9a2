-- How two sets are met in one walk over both.
use Rattle.std.specs.Prelude.{int_le, int_lt, if◌then◌else◌, ℤ, [], ◌∷◌, ◌++◌}
use Rattle.acn_num.specs.Ranges.{Ranges, piece}

-- the ranges from the first on that reaches up to this number
abbrev pub reaching_from : ℤ → Ranges → Ranges
reaching_from low [] = []
reaching_from low (s ∷ rest) = if int_le low s.1 then s ∷ rest else reaching_from low rest

-- what a range shares with the others, up to the first that begins behind it
abbrev pub clip_until : ℤ × ℤ → Ranges → Ranges
clip_until r [] = []
clip_until r (s ∷ rest) = if int_lt r.1 s.0 then [] else (piece r s ++ clip_until r rest)
