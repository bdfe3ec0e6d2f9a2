-- Sets that lie round another, as `MIN..MAX` does.
use Rattle.std.specs.Prelude.{◌≡◌, true, ℤ}
use Rattle.acn_num.specs.Ranges.{Ranges, AreRanges, has, least, greatest}

-- the same least and the same greatest number
pub record SameEnds (a b : Ranges) : Type 0 where
  pub low : least a ≡ least b
  pub high : greatest a ≡ greatest b

-- t has the ends of s and holds all that s holds
pub record IsHull (s t : Ranges) : Type 0 where
  pub ordered : AreRanges t
  pub ends : SameEnds t s
  pub inside : (x : ℤ) → has s x ≡ true → has t x ≡ true
