use Rattle.std.proofs.Common.{◌≡◌, ◌++◌, drop, pos}
use Rattle.std.specs.Prelude.{◌-ℤ◌}
use Rattle.acn_num.specs.Ranges.{Above, meet, bottom}
use Rattle.acn_num.proofs.range_set.RangeSet.meet.Given as goal

abbrev pub invariant-loop-r : goal.invariant-loop-r
invariant-loop-r l = record { so_far : l.ranges.items ++ meet (drop l.r-index l.self) l.rest ≡ meet l.self l.other; above : Above (bottom -ℤ pos 1) l.rest }
