-- Leaves whose codes count up side by side with their numbers. (This profile's own.)
use Rattle.std.specs.Prelude.{ℕ, ◌+◌, ◌^◌, ◌<◌, ◌≤◌, pos, ◌+ℤ◌, ◌<ℤ◌, Bool, List}
use Rattle.acn_num.specs.Bits.{IsNumber}
use Rattle.acn_bits.specs.declared.word.TheConstants.{WORD_BITS}
use Rattle.acn_grammar.specs.Code.{Mode, Code}
use Rattle.acn_grammar.specs.declared.node.NumLeaf.{NumLeaf}
use Rattle.acn_cut.specs.declared.cut.Cut.{Cut}

-- so far behind the first code stands that of the number which is as far behind the least one
pub record IsCut (cut : Cut) (leaf : NumLeaf) : Type 0 where
  pub width : cut.width ≤ WORD_BITS
  pub fits : cut.first + cut.span < 2 ^ cut.width
  pub greatest : (cut.low +ℤ pos cut.span) <ℤ pos (2 ^ 64)
  pub codes : (mode : Mode) (ahead : ℕ) (bs : List Bool) → ahead ≤ cut.span → IsNumber cut.width (cut.first + ahead) bs → Code mode leaf (cut.low +ℤ pos ahead) bs
