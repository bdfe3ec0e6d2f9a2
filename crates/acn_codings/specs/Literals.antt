-- The bits of a literal, by the text of its token (X.680, 12.10 and 12.12).
use Rattle.std.specs.Prelude.{ℕ, ◌-◌, ◌%◌, nat_eq, nat_le, nat_lt, Bool, true, false, ◌&&◌, if◌then◌else◌, List, [], ◌∷◌, length, Option, Some, None}
use Rattle.std.specs.List.{flat_map}
use Rattle.acn_acn_syntax.specs.declared.modules.Literal.{Literal}
use Rattle.acn_acn_syntax.specs.declared.modules.Literal.TheVariants.{Bits, Hex}
use Rattle.acn_grammar.specs.declared.limits.TheConstants.{MOST_PATTERN_BITS}

-- a binary digit is one bit; the apostrophes, the letter behind them and white space are none
abbrev pub binary_bits : ℕ → List Bool
binary_bits c = if nat_eq c 48 then false ∷ [] else if nat_eq c 49 then true ∷ [] else []

-- the four bits of a number below 16
abbrev pub nibble : ℕ → List Bool
nibble n = nat_le 8 n ∷ nat_le 4 (n % 8) ∷ nat_le 2 (n % 4) ∷ nat_le 1 (n % 2) ∷ []

abbrev pub from_to : (low high c : ℕ) → Bool
from_to low high c = nat_le low c && nat_le c high

-- the number of a hexadecimal digit of either case
abbrev pub hex_digit : ℕ → Option ℕ
hex_digit c = if from_to 48 57 c then Some (c - 48) else if from_to 65 70 c then Some (c - 55) else if from_to 97 102 c then Some (c - 87) else None

abbrev pub nibble_of : Option ℕ → List Bool
nibble_of None = []
nibble_of (Some n) = nibble n

unfoldable pub digit_bits : (hex : Bool) → ℕ → List Bool
digit_bits true c = nibble_of (hex_digit c)
digit_bits false c = binary_bits c

abbrev pub text_bits : (hex : Bool) → List ℕ → List Bool
text_bits hex text = flat_map (digit_bits hex) text

abbrev pub bits_in : Literal → List Bool
bits_in (Bits text) = text_bits false text
bits_in (Hex text) = text_bits true text

-- a pattern has a bit, and not too many
abbrev pub fitting : List Bool → Option (List Bool)
fitting bs = if nat_lt 0 (length bs) && nat_le (length bs) MOST_PATTERN_BITS then Some bs else None
