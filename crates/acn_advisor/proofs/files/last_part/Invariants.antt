use Rattle.std.proofs.Common.{length}
use Rattle.acn_advisor.proofs.files.last_part.Given as goal

abbrev pub decreases-loop-rest : goal.decreases-loop-rest
decreases-loop-rest l = length l.rest
