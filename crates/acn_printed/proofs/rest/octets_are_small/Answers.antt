use Rattle.std.proofs.Common.{arith}
use Rattle.acn_printed.proofs.rest.octets_are_small.Goals as goal

pub returns : goal.returns
returns c = λ i. omega (arith, c.type_inv.octets i)
