-- Decimal digits that are written.
use Rattle.std.specs.Prelude.{ℕ, zero, suc, ◌/◌, ◌%◌, ◌^◌, List, [], ◌∷◌}

-- the n lowest decimal digits of a number, the most significant first
abbrev pub low_digits : ℕ → ℕ → List ℕ
low_digits zero k = []
low_digits (suc n) k = k / 10 ^ n % 10 ∷ low_digits n k
