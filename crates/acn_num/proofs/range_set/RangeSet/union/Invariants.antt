use Rattle.std.proofs.Common.{drop}
use Rattle.acn_num.proofs.Joining.{Both}
use Rattle.acn_num.proofs.range_set.RangeSet.union.Given as goal

abbrev pub invariant-loop-range : goal.invariant-loop-range
invariant-loop-range l = Both l.self l.other l.ranges.items (drop l.range-index l.self) l.rest
