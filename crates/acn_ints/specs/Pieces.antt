-- What writing a number gives.
use Rattle.std.specs.Prelude.{◌≡◌, ℕ, ◌<◌, ◌≤◌, ◌^◌, ℤ, Bool, List, length, Some}
use Rattle.acn_num.specs.Bits.{low_bits, number}
use Rattle.acn_num.specs.Ranges.{In}
use Rattle.acn_grammar.specs.Code.{Written, CodingCode, image_of}
use Rattle.acn_grammar.specs.Length.{coding_length}
use Rattle.acn_ints.specs.Limits.{CanWrite}
use Rattle.acn_grammar.specs.declared.node.NumLeaf.{NumLeaf}
use Rattle.acn_grammar.specs.declared.node.NumCoding.{NumCoding}
use Rattle.acn_ints.specs.Limits.{IsNear}
use Rattle.acn_bits.specs.declared.word.TheConstants.{WORD_BITS}

-- a permitted number, and what is written for it, which the coding can write
pub record CanCode (leaf : NumLeaf) (x : ℤ) : Type 0 where
  pub permitted : In leaf.set x
  pub near : IsNear x
  pub image : ℤ
  pub maps : image_of leaf x ≡ Some image
  pub can : CanWrite leaf.coding image

-- the lowest bits of the value are the written code
pub record IsPiece (coding : NumCoding) (little : Bool) (y : ℤ) (width value : ℕ) : Type 0 where
  pub small : width ≤ WORD_BITS
  pub fits : value < 2 ^ width
  pub long : width ≡ coding_length coding y
  pub spells : CodingCode Written coding little y (low_bits width value)

-- the lowest bits of the value are these bits
pub record IsBits (bs : List Bool) (width value : ℕ) : Type 0 where
  pub long : width ≡ length bs
  pub small : width ≤ WORD_BITS
  pub same : value ≡ number bs
