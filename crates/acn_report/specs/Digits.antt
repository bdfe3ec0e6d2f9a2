-- Bits in words: as 0 and 1, or four bits a hexadecimal digit. (This program's own.)
use Rattle.std.specs.Prelude.{ℕ, ◌+◌, nat_lt, Bool, true, false, if◌then◌else◌, List, [], ◌∷◌, codes}
use Rattle.std.specs.List.{flat_map}
use Rattle.acn_num.specs.Bits.{number}

abbrev pub bit_text : Bool → List ℕ
bit_text false = codes "0"
bit_text true = codes "1"

abbrev pub bits_text : List Bool → List ℕ
bits_text bits = flat_map bit_text bits

-- a digit from 0 to 9 or from a to f
abbrev pub hex_digit : ℕ → ℕ
hex_digit n = if nat_lt n 10 then 48 + n else 87 + n

-- less than four bits at the end are left out
abbrev pub hex_text : List Bool → List ℕ
hex_text (a ∷ b ∷ c ∷ d ∷ rest) = hex_digit (number (a ∷ b ∷ c ∷ d ∷ [])) ∷ hex_text rest
hex_text _ = []
