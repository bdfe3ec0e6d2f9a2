-- Numbers that are read digit by digit, up to their end.
use Rattle.std.specs.Prelude.{◌≡◌, ℕ, ◌+◌, ◌-◌, ◌<◌, ◌≤◌, ℤ, pos, neg_ℤ, nat_eq, Bool, true, false, List, [], ◌∷◌, ◌++◌, length, take, drop, ◌⊎◌}
use Rattle.std.specs.List.{AllByRecursion, flat_map}
use Rattle.acn_num.specs.Bits.{number, low_bits}
use Rattle.acn_bits.specs.Reading.{Reading, passed, Reads}
use Rattle.acn_grammar.specs.Code.{decimal_number, IsMinimal}
use Rattle.acn_grammar.specs.LeafFails.{Reason, short, bad_digit, too_long, EndAt}
use Rattle.acn_ints.specs.declared.ended.Character.{Character}
use Rattle.acn_ints.specs.declared.ended.Character.TheVariants.{Digit, End}

-- digits of some bits each, counted from the code of 0
abbrev pub digit_codes : (size zero_digit : ℕ) → List ℕ → List Bool
digit_codes size z ds = flat_map (λ d. low_bits size (z + d)) ds

-- each is a decimal digit
abbrev pub AreDecimal : List ℕ → Type 0
AreDecimal ds = AllByRecursion (λ d. d < 10) ds

-- the bits at the front are no digit
abbrev pub NoDigit : (size zero_digit : ℕ) → List Bool → Type 0
NoDigit size z rest = (d : ℕ) → d < 10 → number (take size rest) ≡ z + d → ⊥

-- a digit was passed
pub record PassedDigit (size z : ℕ) (old new : Reading) (d : ℕ) : Type 0 where
  pub below : d < 10
  pub within : size ≤ length old.rest
  pub value : number (take size old.rest) ≡ z + d
  pub moved : new ≡ passed size old

-- the end was passed
pub record PassedEnd (end : List Bool) (old new : Reading) : Type 0 where
  pub within : length end ≤ length old.rest
  pub stands : EndAt end old.rest
  pub moved : new ≡ passed (length end) old

-- the reason at one character
abbrev pub CharacterWrong : (size zero_digit : ℕ) → (end : List Bool) → List Bool → Reason → Type 0
CharacterWrong size z end rest r =
    ((length rest < size) × (r ≡ short))
    ⊎ ((size ≤ length rest) × NoDigit size z rest × (length rest < length end) × (r ≡ short))
    ⊎ ((size ≤ length rest) × NoDigit size z rest × (length end ≤ length rest) × (EndAt end rest → ⊥) × (r ≡ bad_digit))

-- digits and the end were passed
pub record PassedEnded (size z : ℕ) (end : List Bool) (most : ℕ) (old new : Reading) (k : ℕ) (minimal : Bool) : Type 0 where
  pub digits : List ℕ
  pub are : AreDecimal digits
  pub some : 0 < length digits
  pub few : length digits ≤ most
  pub value : k ≡ decimal_number digits
  pub least : minimal ≡ true → IsMinimal digits
  pub longer : (minimal ≡ true → ⊥) → IsMinimal digits → ⊥
  pub read : Reads (λ front. front ≡ digit_codes size z digits ++ end) old new

-- digits, and the reason at the character behind them
pub record EndedWrong (size z : ℕ) (end : List Bool) (most : ℕ) (rest : List Bool) (r : Reason) : Type 0 where
  pub digits : List ℕ
  pub behind : List Bool
  pub are : AreDecimal digits
  pub few : length digits ≤ most
  pub whole : rest ≡ digit_codes size z digits ++ behind
  pub wrong :
      CharacterWrong size z end behind r
      ⊎ ((size ≤ length behind) × ((d : ℕ) × (d < 10) × (number (take size behind) ≡ z + d)) × (length digits ≡ most) × (r ≡ too_long))
      ⊎ ((length end ≤ length behind) × EndAt end behind × (digits ≡ []) × (r ≡ bad_digit))

-- the first digit is a zero
abbrev pub starts_with_zero : List ℕ → Bool
starts_with_zero [] = false
starts_with_zero (d ∷ ds) = nat_eq d 0

-- how many digits there are, the number that they spell, and whether the first is a zero
pub record AreSoFar (ds : List ℕ) (count value : ℕ) (leading : Bool) : Type 0 where
  pub are : AreDecimal ds
  pub long : length ds ≡ count
  pub spells : decimal_number ds ≡ value
  pub first : leading ≡ starts_with_zero ds

-- the bits of the end behind its first ones
pub record PassedRest (size front : ℕ) (end : List Bool) (old new : Reading) : Type 0 where
  pub within : length end - size ≤ length old.rest
  pub head : front ≡ number (take size end)
  pub tail : number (take (length end - size) old.rest) ≡ number (drop size end)
  pub moved : new ≡ passed (length end - size) old

-- the bits behind the first ones are too few, or are not those of the end
abbrev pub RestWrong : (size front : ℕ) → (end : List Bool) → List Bool → Reason → Type 0
RestWrong size front end rest r =
    ((length rest < length end - size) × (r ≡ short))
    ⊎ ((length end - size ≤ length rest) × (front ≡ number (take size end) → number (take (length end - size) rest) ≡ number (drop size end) → ⊥) × (r ≡ bad_digit))

-- a digit, or the end where no digit stands
abbrev pub PassedCharacter : (size zero_digit : ℕ) → (end : List Bool) → (old new : Reading) → Character → Type 0
PassedCharacter size z end old new (Digit d) = PassedDigit size z old new d
PassedCharacter size z end old new End = PassedEnd end old new

-- the octet of a sign was passed
abbrev pub sign_code : (negative : Bool) → ℕ
sign_code true = 45
sign_code false = 43

pub record PassedSign (old new : Reading) (negative : Bool) : Type 0 where
  pub within : 8 ≤ length old.rest
  pub value : number (take 8 old.rest) ≡ sign_code negative
  pub moved : new ≡ passed 8 old

-- the octet is short, or no sign
abbrev pub SignWrong : List Bool → Reason → Type 0
SignWrong rest r =
    ((length rest < 8) × (r ≡ short))
    ⊎ ((8 ≤ length rest) × ((number (take 8 rest) ≡ 43) ⊎ (number (take 8 rest) ≡ 45) → ⊥) × (r ≡ bad_digit))

-- the number with this sign and magnitude
abbrev pub with_sign : (negative : Bool) → ℕ → ℤ
with_sign true n = neg_ℤ (pos n)
with_sign false n = pos n

-- the digits are a code with this sign
pub record IsSignedValue (negative minimal : Bool) (magnitude : ℕ) (value : ℤ) : Type 0 where
  pub shortest : minimal ≡ true
  pub some : negative ≡ true → 0 < magnitude
  pub is : value ≡ with_sign negative magnitude
