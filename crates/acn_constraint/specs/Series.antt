-- Constraints in series, of which each leaves some numbers of what stood before it.
use Rattle.std.specs.Prelude.{◌≡◌, ℕ, Bool, true, ◌&&◌, List, [], ◌∷◌, Option, Some, None, ℤ}
use Rattle.acn_num.specs.Ranges.{Ranges, AreRanges, has, meet, except}
use Rattle.acn_num.specs.Unions.{AreAllRanges}
use Rattle.acn_asn_syntax.specs.Mirror.{Constraint}
use Rattle.acn_index.specs.World.{World}
use Rattle.acn_constraint.specs.Asks.{asks}
use Rattle.acn_constraint.specs.Constraints.{left_by}
use Rattle.acn_constraint.specs.Hull.{IsHull}
use Rattle.acn_constraint.specs.Sets.{Reading}
use Rattle.acn_constraint.specs.declared.standing.Standing.{Standing}

-- what a set holds outside these, taken away one after the other
abbrev pub without : Ranges → List Ranges → Ranges
without s [] = s
without s (t ∷ rest) = without (except s t) rest

-- what a set holds inside another, where there is one
abbrev pub within : Option Ranges → Ranges → Ranges
within None s = s
within (Some t) s = meet s t

-- whether a number is inside
abbrev pub is_inside : Option Ranges → ℤ → Bool
is_inside None x = true
is_inside (Some t) x = has t x

-- what stands
abbrev pub numbers_left : Standing → Ranges
numbers_left s = without (within s.inside s.numbers) s.taken.items

-- what stands inside is in order
abbrev pub AreInside : Option Ranges → Type 0
AreInside None = Unit {0}
AreInside (Some t) = AreRanges t

-- its sets are in order
pub record AreOrdered (s : Standing) : Type 0 where
  pub numbers : AreRanges s.numbers
  pub inside : AreInside s.inside
  pub taken : AreAllRanges s.taken.items

-- of a set all stands
pub record IsWhole (before : Ranges) (s : Standing) : Type 0 where
  pub ordered : AreOrdered s
  pub same : numbers_left s ≡ before
  pub none : s.taken.items ≡ []

-- what stands is this set
abbrev pub IsGathered : Standing → Ranges → Type 0
IsGathered before s = AreOrdered before → s ≡ numbers_left before

-- the same stands, and nothing is to be taken away where the constraint asks for the ends
pub record IsReady (c : Constraint) (before s : Standing) : Type 0 where
  pub ordered : AreOrdered before → AreOrdered s
  pub same : AreOrdered before → numbers_left s ≡ numbers_left before
  pub none : asks c ≡ true → s.taken.items ≡ []

-- where these stood round what was inside, and `left` are left of them, what stands is what stood and is left
pub record IsKept (before : Standing) (stood left : Ranges) (s : Standing) : Type 0 where
  pub ordered : AreOrdered before → AreRanges stood → AreOrdered s
  pub same : AreOrdered before → IsHull (within before.inside before.numbers) stood → (x : ℤ) → has (numbers_left s) x ≡ (has (numbers_left before) x && has left x)

-- what stands is what the constraint leaves of what stood
pub record IsNarrowed (w : World) (r : Reading) (c : ℕ × Constraint) (before s : Standing) : Type 0 where
  pub ordered : AreOrdered before → AreOrdered s
  pub same : AreOrdered before → numbers_left s ≡ left_by w r c (numbers_left before)
