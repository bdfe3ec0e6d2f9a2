use Rattle.std.proofs.Common.{◌≡◌, drop, ◌+◌}
use Rattle.acn_num.specs.Ranges.{count}
use Rattle.acn_num.proofs.range_set.RangeSet.count.Given as goal

abbrev pub invariant-loop-r : goal.invariant-loop-r
invariant-loop-r l = l.total + count (drop l.r-index l.self) ≡ count l.self
