use Rattle.std.proofs.Common.{length}
use Rattle.acn_lines.proofs.spare.Spare.keep_list.Given as goal

abbrev pub decreases-loop-value : goal.decreases-loop-value
decreases-loop-value l = length l.elements.items
