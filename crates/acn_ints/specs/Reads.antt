-- What reading a number leaf gives.
use Rattle.std.specs.Prelude.{ℕ, ℤ, Bool, List}
use Rattle.acn_bits.specs.Reading.{Reading, Reads}
use Rattle.acn_grammar.specs.Code.{Any, CodingCode}
use Rattle.acn_grammar.specs.LeafFails.{NoneHas, Reason, LeafFails, CodingFails, out_of_range}
use Rattle.acn_grammar.specs.declared.node.NumLeaf.{NumLeaf}
use Rattle.acn_grammar.specs.declared.node.NumCoding.{NumCoding}

-- the first reason why the bits are no code, and it rests on some of them
abbrev pub Refuses : NumCoding → NumLeaf → List Bool → Reason → Type 0
Refuses coding leaf rest r = (reach : ℕ) × CodingFails coding leaf rest r reach

-- the same of the leaf itself
abbrev pub Refused : NumLeaf → List Bool → Reason → Type 0
Refused leaf rest r = (reach : ℕ) × LeafFails leaf rest r reach

-- a front codes a written number, and if no permitted number is written so, that is the reason of the failure
pub record IsSaid (coding : NumCoding) (leaf : NumLeaf) (old new : Reading) (wire image : ℤ) : Type 0 where
  pub read : Reads (CodingCode Any coding leaf.little image) old new
  pub refused : NoneHas leaf image → Refuses coding leaf old.rest (out_of_range wire)
