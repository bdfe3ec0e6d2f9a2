use Rattle.std.proofs.Common.{◌≡◌, drop}
use Rattle.acn_num.specs.Ranges.{nth}
use Rattle.acn_num.proofs.range_set.RangeSet.nth.Given as goal

abbrev pub invariant-loop-r : goal.invariant-loop-r
invariant-loop-r l = nth (drop l.r-index l.self) l.left ≡ nth l.self l.n
