use Rattle.std.proofs.Common.{◌≡◌, drop}
use Rattle.acn_num.specs.Ranges.{among}
use Rattle.acn_asks.proofs.asked.among.Given as goal

abbrev pub invariant-loop-other : goal.invariant-loop-other
invariant-loop-other l = among (drop l.other-index l.others) l.x ≡ among l.others l.x
