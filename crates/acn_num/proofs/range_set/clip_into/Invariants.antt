use Rattle.std.proofs.Common.{◌≡◌, ◌++◌, drop}
use Rattle.acn_num.specs.Meeting.{clip_until}
use Rattle.acn_num.proofs.range_set.clip_into.Given as goal

abbrev pub invariant-loop-other : goal.invariant-loop-other
invariant-loop-other l = l.ranges.items ++ clip_until l.range (drop l.other-index l.others) ≡ l.initial.ranges.items ++ clip_until l.range l.others
