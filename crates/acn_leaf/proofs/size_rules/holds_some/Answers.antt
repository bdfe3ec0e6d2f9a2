use Rattle.std.proofs.Common.{arith}
use Rattle.std.proofs.lemmas.Grind.{common_steps}
use Rattle.acn_leaf.proofs.Sizes.{in_order}
use Rattle.acn_leaf.proofs.size_rules.holds_some.Goals as goal

pub returns : goal.returns
returns c = grind (arith, common_steps, in_order c.args.set.now)
