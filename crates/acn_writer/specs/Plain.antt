-- Codes of numbers that are one subtraction, or a pattern. (This profile's own.)
use Rattle.std.specs.Prelude.{◌≡◌, ℕ, ◌^◌, ◌<◌, ◌≤◌, ℤ, pos, ◌+ℤ◌, ◌≤ℤ◌, false, None}
use Rattle.acn_num.specs.Bits.{low_bits}
use Rattle.acn_num.specs.Ranges.{bottom, top}
use Rattle.acn_bits.specs.declared.word.TheConstants.{WORD_BITS}
use Rattle.acn_grammar.specs.Code.{Code, CodingCode, Written}
use Rattle.acn_grammar.specs.declared.node.NumCoding.{NumCoding}
use Rattle.acn_grammar.specs.declared.node.NumCoding.TheVariants.{Range, PosInt, Flag, Fixed}
use Rattle.acn_grammar.specs.declared.node.NumLeaf.{NumLeaf}

-- a leaf without a table, numbers of items and another order of octets
pub record IsPlain (leaf : NumLeaf) : Type 0 where
  pub values : leaf.items.values ≡ false
  pub little : leaf.little ≡ false
  pub table : leaf.table ≡ None

-- so far behind the least number that so many bits say it
abbrev pub IsAhead : (low x : ℤ) (width : ℕ) → Type 0
IsAhead low x width = (ahead : ℕ) × (x ≡ low +ℤ pos ahead) × (ahead < 2 ^ width)

-- what is known of a permitted number where the coding counts from a least one, or is a pattern
abbrev pub CanCount : NumCoding → ℤ → Type 0
CanCount (Range low width) x = IsAhead low x width
CanCount (PosInt n) x = IsAhead (pos 0) x n
CanCount (Flag ones zeros) x = IsAhead (pos 0) x 1
CanCount (Fixed pattern) x = x ≡ pos 0
CanCount _ x = Unit {0}

-- within the ends of all sets
abbrev pub IsBounded : ℤ → Type 0
IsBounded x = (bottom ≤ℤ x) × (x ≤ℤ top)

-- the value says how far the number is from the least one
pub record IsOffset (low x : ℤ) (wanted width value : ℕ) : Type 0 where
  pub same : width ≡ wanted
  pub few : width ≤ WORD_BITS
  pub fits : value < 2 ^ width
  pub is : x ≡ low +ℤ pos value

-- the lowest bits of the value are the code of a number that is written itself
pub record IsCounted (coding : NumCoding) (x : ℤ) (width value : ℕ) : Type 0 where
  pub few : width ≤ WORD_BITS
  pub fits : value < 2 ^ width
  pub spells : CodingCode Written coding false x (low_bits width value)

-- the lowest bits of the value are the code of the number
pub record IsPlainCode (leaf : NumLeaf) (x : ℤ) (width value : ℕ) : Type 0 where
  pub few : width ≤ WORD_BITS
  pub fits : value < 2 ^ width
  pub code : Code Written leaf x (low_bits width value)
