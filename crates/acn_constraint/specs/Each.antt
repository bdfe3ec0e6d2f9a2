-- The sets of the elements that a union joins, each by itself, and the numbers outside those that a meet shares.
use Rattle.std.specs.Prelude.{◌≡◌, ℕ, not, ◌&&◌, ℤ, List, [], ◌∷◌}
use Rattle.acn_num.specs.Ranges.{Ranges, has, AreRanges, except, bottom, top}
use Rattle.acn_num.specs.Unions.{one_has}
use Rattle.acn_asn_syntax.specs.Mirror.{Meets, no_meets, and_meet, Parts, no_parts, and_part}
use Rattle.acn_index.specs.World.{World}
use Rattle.acn_constraint.specs.Sets.{Reading, meet_in, part_in}

abbrev pub each_meet : World → ℕ → Reading → Meets → Ranges → List Ranges
each_meet w k r no_meets before = []
each_meet w k r (and_meet b m more) before = meet_in w k r m before ∷ each_meet w k r more before

-- all numbers that a set can hold
abbrev pub everything : Ranges
everything = (bottom, top) ∷ []

abbrev pub each_outside : World → ℕ → Reading → Parts → Ranges → List Ranges
each_outside w k r no_parts before = []
each_outside w k r (and_part b p more) before = except everything (part_in w k r p before) ∷ each_outside w k r more before

-- the numbers of a set that are in none of these
pub record IsWithoutAll (a : Ranges) (others : List Ranges) (s : Ranges) : Type 0 where
  pub first : AreRanges a
  pub ranges : AreRanges s
  pub numbers : (x : ℤ) → has s x ≡ (has a x && not (one_has others x))
