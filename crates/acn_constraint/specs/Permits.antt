-- Which numbers a set permits (X.680 clause 50): a union those of any of its parts, a meet those of all, EXCEPT those of what
-- stands before it but for those behind it, and ALL EXCEPT those that stood before the constraint but for those behind it.
use Rattle.std.specs.Prelude.{◌≡◌, ℕ, Bool, true, false, not, ◌&&◌, ◌||◌, if◌then◌else◌, ℤ}
use Rattle.acn_num.specs.Ranges.{Ranges, has, AreRanges}
use Rattle.acn_asn_syntax.specs.Mirror.{Set, all_except, union_of, Meets, no_meets, and_meet, Meet, meet_of, Parts, no_parts, and_part, Part, part_of, part_but, Element, value_of, range_of, size_of, from_of, inner_of}
use Rattle.acn_index.specs.World.{World}
use Rattle.acn_constraint.specs.Sets.{Reading, numbers, sizes, characters, is_aside, value_set, end_number, range_in, set_in}

module _ (w : World) (k : ℕ) (before : Ranges) (x : ℤ) where
  unfoldable mutual
    pub permits : Reading → Set → Bool
    permits r (all_except e) = has before x && not (element_permits r e)
    permits r (union_of m more) = meet_permits r m || any_permits r more

    pub any_permits : Reading → Meets → Bool
    any_permits r no_meets = false
    any_permits r (and_meet word m more) = meet_permits r m || any_permits r more

    pub meet_permits : Reading → Meet → Bool
    meet_permits r (meet_of p more) = part_permits r p && all_permit r more

    pub all_permit : Reading → Parts → Bool
    all_permit r no_parts = true
    all_permit r (and_part word p more) = part_permits r p && all_permit r more

    pub part_permits : Reading → Part → Bool
    part_permits r (part_of e) = element_permits r e
    part_permits r (part_but e but) = if is_aside r e then has before x else (element_permits r e && not (element_permits r but))

    -- SIZE and FROM permit what stood before where they don't speak of what is asked for
    pub element_permits : Reading → Element → Bool
    element_permits r (value_of v) = has (value_set w k r v) x
    element_permits r (range_of ends) = has (range_in (end_number w k r) ends before) x
    element_permits sizes (size_of s) = permits sizes s
    element_permits (numbers ns) (size_of s) = has before x
    element_permits characters (size_of s) = has before x
    element_permits characters (from_of s) = permits characters s
    element_permits (numbers ns) (from_of s) = has before x
    element_permits sizes (from_of s) = has before x
    element_permits r (inner_of s) = permits r s

-- the set that a constraint is evaluated to holds the numbers that it permits
abbrev pub SetsHoldWhatTheyPermit : Type 0
SetsHoldWhatTheyPermit = (w : World) (k : ℕ) (r : Reading) (s : Set) (before : Ranges) (x : ℤ) → AreRanges before → has (set_in w k r s before) x ≡ permits w k before x r s
