use Rattle.std.proofs.Common.{length}
use Rattle.acn_lines.proofs.spare.Spare.empty_record.Given as goal

abbrev pub decreases-loop-place : goal.decreases-loop-place
decreases-loop-place l = length l.places.items
