use Rattle.std.proofs.Common.{arith}
use Rattle.acn_writer.proofs.Puts.{octet_pushed}
use Rattle.acn_writer.proofs.cursor.few_octets.Goals as goal

pub loop-octet-preserved : goal.loop-octet-preserved
loop-octet-preserved c =
    let few = c.requires in
    octet_pushed c.args.octets.now c.loop-octet.octet-index c.from.result c.loop-octet.all c.loop-octet-test.true (omega (arith, few)) (rw c.from.ensures (c.type_inv.octets c.loop-octet.octet-index).fits) c.from.ensures c.loop-octet.invariant
