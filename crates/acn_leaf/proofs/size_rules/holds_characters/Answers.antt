use Rattle.std.proofs.Common.{arith}
use Rattle.acn_leaf.proofs.Sizes.{some_counted}
use Rattle.acn_leaf.proofs.size_rules.holds_characters.Goals as goal

pub overflow_sub-count : goal.overflow_sub-count
overflow_sub-count c = (let k = some_counted c.args.alphabet.now c.requires in omega arith)
