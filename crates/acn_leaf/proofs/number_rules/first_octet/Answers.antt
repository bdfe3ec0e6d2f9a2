use Rattle.std.proofs.Common.{arith}
use Rattle.acn_leaf.proofs.Patterns.{eight_bits}
use Rattle.acn_leaf.proofs.number_rules.first_octet.Goals as goal

pub returns : goal.returns
returns c = (let k = eight_bits c.args.bits.now c.requires in grind arith)
