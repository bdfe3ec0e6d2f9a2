-- What writing a value does, in its order, and what it works on: a writer in place, the table of open slots, and the contents
-- that it stands in. (This profile's own.)
use Rattle.std.specs.Prelude.{ℕ, ◌-◌, ◌/◌, ℤ, Bool, List, [], ◌∷◌, Option, Some, None, nat_eq, if◌then◌else◌}
use Rattle.acn_bits.specs.Overwrite.{Gap}
use Rattle.acn_fill.specs.Table.{Table}
use Rattle.acn_grammar.specs.Asks.{Ask}
use Rattle.acn_grammar.specs.declared.node.NumLeaf.{NumLeaf}
use Rattle.acn_grammar.specs.declared.node.SizeRule.{SizeRule}
use Rattle.acn_grammar.specs.declared.node.Sizing.{Sizing}
use Rattle.acn_grammar.specs.declared.node.TextLeaf.{TextLeaf}

pub data Event : Type 0 where
  -- zeros bring the position to a multiple
  aligns : (align : ℕ) → Event
  -- bits are copied
  copies : List Bool → Event
  -- a SEQUENCE begins: the slots at home there, each with the path of its field, and the presence bits
  begins : (homes : List (ℕ × List ℕ)) → List Bool → Event
  -- the number of an alternative is put in so many bits
  puts : (width n : ℕ) → Event
  -- a size is tested, and put in front where the rule says so
  sizes : Sizing → (n : ℕ) → Event
  -- a number is tested and coded
  codes : NumLeaf → ℤ → Event
  -- a text is tested and put
  texts : TextLeaf → List ℕ → Event
  -- a hole is left for the number of a slot
  opens : (slot : ℕ) → NumLeaf → Event
  -- the node at a path gives a slot its own number, one of a set
  notes : (path : List ℕ) → (slot : ℕ) → (set : List (ℤ × ℤ)) → ℤ → Event
  -- the node at a path asks of a slot
  wants : (path : List ℕ) → (slot : ℕ) → Ask → Event
  -- the hole of a slot is filled, where it has one
  fills : (slot : ℕ) → Event
  -- contents begin, behind a hole for their size where it stands in front
  enters : SizeRule → Event
  -- Contents of so many octets end: their count is tested, and put in front or asked of a slot.
  closes : (path : List ℕ) → Sizing → (octets : ℕ) → Event

-- Contents that aren't ended: where they begin, and the hole for their size where it stands in front.
pub record Frame : Type 0 where
  pub base : ℕ
  pub gap : Option Gap

-- A writer in place with its buffer's bits and its next place, the table of open slots with the leaves of those that have a
-- hole, and the contents that aren't ended, the innermost first.
pub record State : Type 0 where
  pub buf : List Bool
  pub place : ℕ
  pub table : Table
  pub leaves : List (ℕ × NumLeaf)
  pub contents : List Frame

abbrev pub base_of : List Frame → ℕ
base_of [] = 0
base_of (f ∷ fs) = f.base

-- the place, from the start of the contents round it
abbrev pub position : State → ℕ
position m = m.place - base_of m.contents

-- the octets of the contents so far
abbrev pub octets_in : State → ℕ
octets_in m = position m / 8

abbrev pub leaf_of : ℕ → List (ℕ × NumLeaf) → Option NumLeaf
leaf_of s [] = None
leaf_of s (e ∷ es) = if nat_eq e.0 s then Some e.1 else leaf_of s es

-- without the newest leaf of the slot
abbrev pub leaves_without : ℕ → List (ℕ × NumLeaf) → List (ℕ × NumLeaf)
leaves_without s [] = []
leaves_without s (e ∷ es) = if nat_eq e.0 s then es else e ∷ leaves_without s es

-- Why writing stops: a constraint isn't met, an ask can't be met, contents have no permitted size, the table is full, or what
-- never comes.
pub data Halt : Type 0 where
  breaks : Halt
  unmet : (path : List ℕ) → (slot : ℕ) → (earlier : Option Ask) → (wanted : Ask) → Halt
  miscounts : (path : List ℕ) → (octets : ℕ) → Halt
  full : Halt
  lost : Halt
