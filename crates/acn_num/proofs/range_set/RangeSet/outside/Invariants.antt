use Rattle.std.proofs.Common.{◌≡◌, ◌++◌, drop}
use Rattle.acn_num.specs.Ranges.{outside_from}
use Rattle.std.specs.Prelude.{◌≤ℤ◌, ◌-ℤ◌, pos}
use Rattle.acn_num.specs.Ranges.{Above, outside, top, bottom}
use Rattle.acn_num.proofs.range_set.RangeSet.outside.Given as goal

abbrev pub invariant-loop-r : goal.invariant-loop-r
invariant-loop-r l = record { so_far : l.ranges.items ++ outside_from l.below (drop l.r-index l.self) ≡ outside l.self; above : Above l.below (drop l.r-index l.self); low : (bottom -ℤ pos 1) ≤ℤ l.below; high : l.below ≤ℤ top }
