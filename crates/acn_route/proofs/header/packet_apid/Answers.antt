use Rattle.std.proofs.Common.{sym, arith}
use Rattle.acn_route.proofs.Headers.{long_apid, short_apid}
use Rattle.acn_route.proofs.header.packet_apid.Goals as goal

pub returns-then-packet-lt2 : goal.returns-then-packet-lt2
returns-then-packet-lt2 c = sym (short_apid c.args.packet.now (omega arith))

pub returns : goal.returns
returns c = rw (c.from.ensures, c.from-2.ensures) (sym (long_apid c.args.packet.now (omega arith)))
