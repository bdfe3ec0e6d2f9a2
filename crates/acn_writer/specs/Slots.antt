-- The slots that are begun: the table, and the leaf of each that has a hole. (This profile's own.)
use Rattle.std.specs.Prelude.{◌≡◌, ℕ, suc, ◌+◌, List, [], ◌∷◌, length, Option, Some, None, IsTrue, true, MatchOption}
use Rattle.acn_bits.specs.Overwrite.{Gap}
use Rattle.acn_events.specs.Event.{leaf_of}
use Rattle.acn_fill.specs.Table.{Table, Keeps, begun, gap_at}
use Rattle.acn_grammar.specs.Asks.{Ask}
use Rattle.acn_grammar.specs.Interval.{width_of}
use Rattle.acn_grammar.specs.Leaves.{num_fine}
use Rattle.acn_grammar.specs.declared.node.NumLeaf.{NumLeaf}
use Rattle.acn_writer.specs.Leaves.{AreLeaves, end_of, leaves_in}
use Rattle.acn_writer.specs.declared.leaf.SlotLeaf.{SlotLeaf}

pub record OpenSlots : Type 0 where
  pub table : Table
  pub leaves : List (ℕ × NumLeaf)

-- The hole of a slot has the width of the slot's leaf, and asks are kept that some number of the
-- leaf meets.
pub record HasLeaf (s : ℕ) (g : Gap) (t : Table) (es : List SlotLeaf) : Type 0 where
  pub leaf : NumLeaf
  pub of_slot : leaf_of s (leaves_in es) ≡ Some leaf
  pub ends : end_of s es ≡ g.place + g.width
  pub fine : IsTrue (num_fine leaf)
  pub width : width_of leaf ≡ Some g.width
  pub wanted : List Ask
  pub keeps : Keeps leaf.set wanted t s

-- each hole has one
abbrev pub HaveLeaves : Table → List SlotLeaf → Type 0
HaveLeaves t es = (s : ℕ) (g : Gap) → begun t s ≡ true → gap_at t s ≡ Some (Some g) → HasLeaf s g t es

-- how many holes are kept
abbrev pub hole_count : List (Option Gap) → ℕ
hole_count [] = 0
hole_count (None ∷ gs) = hole_count gs
hole_count (Some g ∷ gs) = suc (hole_count gs)

-- the table and the leaves belong together
pub record Tied (t : Table) (es : List SlotLeaf) : Type 0 where
  pub are_leaves : AreLeaves es
  pub count : length es ≡ hole_count t.gaps
  pub paired : length t.gaps ≡ length t.spots
  pub have : HaveLeaves t es

-- where the hole of a slot ends, if it has one
abbrev pub HoleEnds : Option ℕ → Option (Option Gap) → Type 0
HoleEnds o gap = MatchOption o (gap ≡ Some None) (λ end. (g : Gap) × (gap ≡ Some (Some g)) × (end ≡ g.place + g.width))
