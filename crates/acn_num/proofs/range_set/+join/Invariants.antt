use Rattle.std.proofs.Common.{length}
use Rattle.acn_num.proofs.range_set.+join.Given as goal

abbrev pub decreases-join : goal.decreases-join
decreases-join l = length l.sets.now
