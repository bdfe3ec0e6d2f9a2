use Rattle.std.proofs.Common.{arith, sym}
use Rattle.acn_leaf.proofs.Sizes.{beyond_width}
use Rattle.acn_leaf.proofs.size_rules.is_least.Goals as goal

pub returns-then-width-gt128 : goal.returns-then-width-gt128
returns-then-width-gt128 c = sym (beyond_width c.args.span c.args.width (omega arith) (omega arith))
