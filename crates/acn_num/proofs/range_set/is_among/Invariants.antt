use Rattle.std.proofs.Common.{◌≡◌, drop}
use Rattle.acn_num.specs.Ranges.{among}
use Rattle.acn_num.proofs.range_set.is_among.Given as goal

abbrev pub invariant-loop-other : goal.invariant-loop-other
invariant-loop-other l = among (drop l.other-index l.others) l.x ≡ among l.others l.x
