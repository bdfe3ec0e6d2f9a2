use Rattle.std.proofs.Common.{drop}
use Rattle.acn_num.proofs.Joining.{Walk}
use Rattle.acn_num.proofs.range_set.join_before.Given as goal

abbrev pub invariant-loop-i : goal.invariant-loop-i
invariant-loop-i l = Walk l.low l.initial.ranges.items l.others l.ranges.items (drop l.i l.others)
