-- How two sets are joined in one walk over both: ranges are added in the order in which they begin.
use Rattle.std.specs.Prelude.{◌≡◌, ℤ, ◌≤ℤ◌, ◌||◌, [], ◌∷◌}
use Rattle.acn_num.specs.Ranges.{Ranges, has, is_in, AreRanges, IsRange}

-- every range begins at this number or before it
abbrev pub Begun : ℤ → Ranges → Type 0
Begun l [] = Unit {0}
Begun l (r ∷ rest) = (r.0 ≤ℤ l) × Begun l rest

-- every range begins at this number or behind it
abbrev pub Begins : ℤ → Ranges → Type 0
Begins l [] = Unit {0}
Begins l (r ∷ rest) = (l ≤ℤ r.0) × Begins l rest

-- no range of the first begins behind one of the others
abbrev pub InTurn : (ranges others : Ranges) → Type 0
InTurn ranges [] = Unit {0}
InTurn ranges (r ∷ rest) = Begun r.0 ranges × InTurn ranges rest

-- the range begins with the last one of the set, or behind it
pub record CanJoin (ranges : Ranges) (next : ℤ × ℤ) : Type 0 where
  pub are : AreRanges ranges
  pub range : IsRange next
  pub begun : Begun next.0 ranges

-- and so does each of these
pub record CanJoinAll (ranges others : Ranges) : Type 0 where
  pub are : AreRanges ranges
  pub others_are : AreRanges others
  pub turn : InTurn ranges others

-- the set has the numbers of the range besides, and no range that begins behind both
pub record Joins (old : Ranges) (next : ℤ × ℤ) (new : Ranges) : Type 0 where
  pub are : AreRanges new
  pub numbers : (x : ℤ) → has new x ≡ (has old x || is_in x next)
  pub begun : (l : ℤ) → next.0 ≤ℤ l → Begun l old → Begun l new

-- the set has the numbers of the others besides, but for those that are left, which begin at the number or behind it
pub record JoinsBefore (low : ℤ) (old others new left : Ranges) : Type 0 where
  pub are : AreRanges new
  pub left_are : AreRanges left
  pub turn : InTurn new left
  pub behind : Begins low left
  pub numbers : (x : ℤ) → (has new x || has left x) ≡ (has old x || has others x)
  pub begun : (l : ℤ) → low ≤ℤ l → Begun l old → Begun l new
