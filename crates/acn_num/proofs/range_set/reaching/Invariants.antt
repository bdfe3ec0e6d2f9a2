use Rattle.std.proofs.Common.{◌≡◌, drop}
use Rattle.acn_num.specs.Meeting.{reaching_from}
use Rattle.acn_num.proofs.range_set.reaching.Given as goal

abbrev pub invariant-loop-i : goal.invariant-loop-i
invariant-loop-i l = reaching_from l.low (drop l.i l.others) ≡ reaching_from l.low l.others
