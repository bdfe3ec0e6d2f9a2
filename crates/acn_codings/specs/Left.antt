-- What is left of the numbers of an INTEGER where its coding can't write all. (This profile's own.)
use Rattle.std.specs.Prelude.{Bool, true, false, [], ◌∷◌, Option, Some, None, ℤ}
use Rattle.acn_num.specs.Ranges.{Ranges, meet, except, some_range, bottom, top, least, greatest}
use Rattle.acn_constraint.specs.Constraints.{Opened}

abbrev pub end_or : ℤ → Option ℤ → ℤ
end_or d None = d
end_or d (Some x) = x

-- A set that is open at both ends is met with the numbers that can be written. One that is open at one end loses what lies beyond their end on that side.
abbrev pub left_by : (open_below open_above : Bool) → Ranges → Ranges → Ranges
left_by true true s can = meet s can
left_by false true s can = meet s (some_range bottom (end_or bottom (greatest can)))
left_by true false s can = meet s (some_range (end_or top (least can)) top)
left_by false false s can = s

unfoldable pub left_of : Opened → Ranges → Ranges
left_of s can = left_by s.open_below s.open_above s.numbers can

-- the least permitted number that can't be written; where nothing is left of the set, the least that it held before
abbrev pub lost_from : Ranges → Ranges → Ranges → Option ℤ
lost_from before [] can = least before
lost_from before (r ∷ s) can = least (except (r ∷ s) can)

unfoldable pub least_lost : Opened → Ranges → Option ℤ
least_lost s can = lost_from s.numbers (left_of s can) can
