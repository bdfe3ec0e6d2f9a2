use Rattle.std.proofs.Common.{arith}
use Rattle.acn_packing.proofs.InFront.{fills}
use Rattle.acn_packing.proofs.octets.fill_octet.Goals as goal

pub returns-clause-zeros : goal.returns-clause-zeros
returns-clause-zeros g c = fills c.args.cursor.now c.put.new.self _ c.put.ensures (let count = c.at-count.ensures in omega (arith, count))
