use Rattle.std.proofs.Common.{sym}
use Rattle.acn_leaf.proofs.Sizes.{in_order}
use Rattle.acn_leaf.proofs.size_rules.in_order.Goals as goal

pub returns : goal.returns
returns c = sym (in_order c.args.set.now (rw (← c.ranges-ranges.ensures.same) c.ranges-ranges.ensures.ordered))
