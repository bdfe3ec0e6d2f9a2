use Rattle.std.proofs.Common.{◌≡◌, drop}
use Rattle.acn_num.specs.Ranges.{has}
use Rattle.acn_num.proofs.range_set.RangeSet.holds.Given as goal

abbrev pub invariant-loop-r : goal.invariant-loop-r
invariant-loop-r l = has (drop l.r-index l.self) l.x ≡ has l.self l.x
