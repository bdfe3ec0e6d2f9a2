use Rattle.std.proofs.Common.{arith}
use Rattle.acn_printed.proofs.Characters.{octets-are}
use Rattle.acn_printed.proofs.texts.bytes_are_octets.Goals as goal

pub returns : goal.returns
returns c = octets-are c.args.bytes.now (λ i. omega (arith, c.type_inv.bytes i))
