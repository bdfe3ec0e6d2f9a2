-- What is added at the end of a list of bits.
use Rattle.std.specs.Prelude.{◌≡◌, ℕ, ◌+◌, ◌-◌, Bool, List, [], ◌++◌, length, Option, Some, None}
use Rattle.acn_num.specs.Bits.{low_bits}
use Rattle.acn_grammar.specs.Code.{Written}
use Rattle.acn_grammar.specs.Env.{Env}
use Rattle.acn_grammar.specs.Grammar.{Grammar, Data, null}
use Rattle.acn_grammar.specs.Spell.{Part, Exactly, SlotField, Spell}
use Rattle.acn_grammar.specs.declared.node.ChoiceRule.{ChoiceRule}
use Rattle.acn_grammar.specs.declared.node.ChoiceRule.TheVariants.{Index, Tests, Item}
use Rattle.acn_grammar.specs.declared.node.SizeRule.{SizeRule}
use Rattle.acn_grammar.specs.declared.node.SizeRule.TheVariants.{Prefix, Slot, Ended}

-- The bits that were added spell the part at their position, which counts from a base: the start of the packet, or that of
-- the octets round it.
pub record Adds (P : Part) (base : ℕ) (old new : List Bool) : Type 0 where
  pub front : List Bool
  pub added : new ≡ old ++ front
  pub spelled : (at : ℕ) → base + at ≡ length old → P at front

-- bits were added of which this holds, wherever they stand
pub record Appends (Q : List Bool → Type 0) (old new : List Bool) : Type 0 where
  pub front : List Bool
  pub added : new ≡ old ++ front
  pub is : Q front

-- What was added makes the part Q of each part P behind it.
pub record Leads (P Q : Part) (base : ℕ) (old new : List Bool) : Type 0 where
  pub front : List Bool
  pub added : new ≡ old ++ front
  pub goes : (at : ℕ) → base + at ≡ length old → (bs : List Bool) → P (at + length front) bs → Q at (front ++ bs)

-- the part of a component that may be absent, and of an inserted field

abbrev pub PlacePart : (Data → Part) → Option Data → Part
PlacePart each None = Exactly []
PlacePart each (Some d) = each d

abbrev pub InsertedPart : (root : Grammar) → Option ℕ → Grammar → Env → Part
InsertedPart root (Some s) g env = SlotField root Written g env s
InsertedPart root None g env = Spell root Written g env null

-- the bits of a size in front, of the pattern behind the elements, and of an index in front

abbrev pub size_bits : SizeRule → ℕ → List Bool
size_bits (Prefix low width) n = low_bits width (n - low)
size_bits (Slot s) n = []
size_bits (Ended p) n = []

abbrev pub end_bits : SizeRule → List Bool
end_bits (Prefix low width) = []
end_bits (Slot s) = []
end_bits (Ended p) = p

abbrev pub index_bits : ChoiceRule → ℕ → List Bool
index_bits (Index width) i = low_bits width i
index_bits Tests i = []
index_bits (Item s) i = []
