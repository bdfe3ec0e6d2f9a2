-- What is asked of the slots at home in a SEQUENCE, and what is told. (This profile's own.)
use Rattle.std.specs.Prelude.{◌≡◌, ℕ, List, Option, Some}
use Rattle.acn_grammar.specs.Grammar.{Grammar, Fields, seq}
use Rattle.acn_grammar.specs.Scoped.{Known}
use Rattle.acn_grammar.specs.Slots.{slot_leaf}
use Rattle.acn_grammar.specs.Sound.{FormSound}
use Rattle.acn_grammar.specs.declared.node.NumLeaf.{NumLeaf}
use Rattle.acn_determinants.specs.Spots.{Spot}
use Rattle.acn_determinants.specs.declared.homes.Determinant.{Determinant}

-- the SEQUENCE with these fields and these slots at home keeps what one of an accepted tree keeps
pub record SequenceIn (root : Grammar) (fields : Fields) (home : List ℕ) : Type 0 where
  pub depth : ℕ
  pub around : List ℕ
  pub known : Known
  pub sound : FormSound root depth around known (seq fields home)

-- the steps to the field of a slot
abbrev pub steps_of : Determinant → ℕ × Option (List ℕ)
steps_of d = (d.slot, Some d.steps)

-- the leaf of the field is the slot's
abbrev pub IsLeafIn : (root : Grammar) → Determinant → Type 0
IsLeafIn root d = slot_leaf root d.slot ≡ Some d.leaf.now

-- all of it
abbrev pub spot_told : Determinant → ℕ × Option Spot
spot_told d = (d.slot, Some (record { steps = d.steps; leaf = Some d.leaf.now }))

-- a field that is a number
pub record IsNumber (found : Option Spot) : Type 0 where
  pub steps : List ℕ
  pub leaf : NumLeaf
  pub is : found ≡ Some (record { steps = steps; leaf = Some leaf })
