use Rattle.std.proofs.Common.{arith}
use Rattle.acn_index.proofs.indexing.items_of.Goals as goal

pub loop-owner-init : goal.loop-owner-init
loop-owner-init c = omega arith
