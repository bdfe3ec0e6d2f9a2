-- Which leaves are cut, and how. (This profile's own.)
use Rattle.std.specs.Prelude.{◌≡◌, ℕ, ◌+◌, ◌^◌, ◌<◌, ◌≤◌, ℤ, pos, ◌+ℤ◌, ◌-ℤ◌, ◌≤ℤ◌, ◌<ℤ◌, Bool, false, List, length, Option, Some}
use Rattle.acn_num.specs.Bits.{number}
use Rattle.acn_bits.specs.declared.word.TheConstants.{WORD_BITS}
use Rattle.acn_grammar.specs.Code.{image_by}
use Rattle.acn_grammar.specs.declared.node.NumLeaf.{NumLeaf}
use Rattle.acn_grammar.specs.declared.node.Table.{Table}
use Rattle.acn_cut.specs.declared.cut.Cut.{Cut}

-- a leaf without numbers of items and another order of octets
pub record IsPlain (leaf : NumLeaf) : Type 0 where
  pub values : leaf.items.values ≡ false
  pub little : leaf.little ≡ false

-- the numbers from low to high are on the line, and the image is that of the least one
abbrev pub CountsOnLine : (line : ℤ × ℤ × ℤ) → (low high image : ℤ) → Type 0
CountsOnLine line low high image = (line.0 ≤ℤ low) × (high ≤ℤ line.1) × (image ≡ line.2 +ℤ (low -ℤ line.0))

-- the numbers from low to high are written as the image and those behind it
abbrev pub CountsUp : Option Table → (low high image : ℤ) → Type 0
CountsUp table low high image = (ahead : ℕ) → (low +ℤ pos ahead) ≤ℤ high → image_by table (low +ℤ pos ahead) ≡ Some (image +ℤ pos ahead)

-- a cut of the numbers from low to high, which are written as an image and those behind it, and whose codes are how far these are from another number
pub record IsBetween (cut : Cut) (low high image from : ℤ) (width : ℕ) : Type 0 where
  pub least : cut.low ≡ low
  pub same : cut.width ≡ width
  pub few : width ≤ WORD_BITS
  pub first : image ≡ from +ℤ pos cut.first
  pub span : high ≡ low +ℤ pos cut.span
  pub fits : cut.first + cut.span < 2 ^ width
  pub greatest : high <ℤ pos (2 ^ 64)

-- a cut of the number 0 under a pattern
pub record IsUnder (cut : Cut) (pattern : List Bool) : Type 0 where
  pub least : cut.low ≡ pos 0
  pub same : cut.width ≡ length pattern
  pub few : length pattern ≤ WORD_BITS
  pub first : cut.first ≡ number pattern
  pub span : cut.span ≡ 0
