-- The least width in bits in which a number stands. (X.691, 11.5 and 30.)
use Rattle.std.specs.Prelude.{ℕ, ◌^◌, nat_lt, find, Option, Some, None}
use Rattle.std.specs.List.{range_with_len}

abbrev pub or_word : Option ℕ → ℕ
or_word None = 64
or_word (Some width) = width

-- a number of more than 64 bits has this width too
unfoldable pub least_width : ℕ → ℕ
least_width n = or_word (find (λ width. nat_lt n (2 ^ width)) (range_with_len 0 65))
