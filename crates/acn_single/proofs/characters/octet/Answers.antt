use Rattle.std.proofs.Common.{arith}
use Rattle.acn_single.proofs.Octets.{eight_bits}
use Rattle.acn_single.proofs.characters.octet.Goals as goal

pub returns : goal.returns
returns c = (let k = eight_bits c.args.bits.now c.requires in grind arith)
