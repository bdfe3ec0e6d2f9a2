-- Unions of many sets.
use Rattle.std.specs.Prelude.{◌≡◌, Bool, false, ◌||◌, ℤ, List, [], ◌∷◌}
use Rattle.acn_num.specs.Ranges.{Ranges, has, AreRanges, union}

-- a set with the numbers of these, one after the other
abbrev pub unions : Ranges → List Ranges → Ranges
unions s [] = s
unions s (t ∷ rest) = unions (union s t) rest

-- whether one of the sets has the number
abbrev pub one_has : List Ranges → ℤ → Bool
one_has [] x = false
one_has (s ∷ rest) x = has s x || one_has rest x

abbrev pub AreAllRanges : List Ranges → Type 0
AreAllRanges [] = Unit {0}
AreAllRanges (s ∷ rest) = AreRanges s × AreAllRanges rest

abbrev pub IsUnionOfAll : Ranges → List Ranges → Ranges → Type 0
IsUnionOfAll a others s = (x : ℤ) → has s x ≡ (has a x || one_has others x)
