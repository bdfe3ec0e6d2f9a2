-- Least widths of numbers, in bits, octets and decimal digits.
use Rattle.std.specs.Prelude.{ℕ, ◌<◌, ◌≤◌, ◌*◌, ◌-◌, ◌^◌, ℤ, pos, neg_ℤ, ◌≤ℤ◌, ◌<ℤ◌}

-- w bits hold every number up to the span, and no fewer bits do
pub record IsLeastWidth (span w : ℕ) : Type 0 where
  pub holds : span < 2 ^ w
  pub least : (v : ℕ) → span < 2 ^ v → w ≤ v

-- n octets hold the number, and no fewer but one do
pub record IsLeastOctets (x n : ℕ) : Type 0 where
  pub some : 1 ≤ n
  pub holds : x < 2 ^ (8 * n)
  pub least : (m : ℕ) → 1 ≤ m → x < 2 ^ (8 * m) → n ≤ m

-- n octets hold the number in two's complement
pub record FitsSignedOctets (x : ℤ) (n : ℕ) : Type 0 where
  pub low : neg_ℤ (pos (2 ^ (8 * n - 1))) ≤ℤ x
  pub high : x <ℤ pos (2 ^ (8 * n - 1))

pub record IsLeastSignedOctets (x : ℤ) (n : ℕ) : Type 0 where
  pub some : 1 ≤ n
  pub holds : FitsSignedOctets x n
  pub least : (m : ℕ) → 1 ≤ m → FitsSignedOctets x m → n ≤ m

-- n decimal digits write the number, and no fewer but one do
pub record IsDigitCount (x n : ℕ) : Type 0 where
  pub some : 1 ≤ n
  pub holds : x < 10 ^ n
  pub least : (m : ℕ) → 1 ≤ m → x < 10 ^ m → n ≤ m
