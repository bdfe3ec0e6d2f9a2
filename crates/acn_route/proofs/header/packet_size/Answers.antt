use Rattle.std.proofs.Common.{sym, arith}
use Rattle.acn_route.proofs.Headers.{long_header, short_header}
use Rattle.acn_route.proofs.header.packet_size.Goals as goal

pub returns-then-bytes-lt-HEADER_OCTETS-clause-size : goal.returns-then-bytes-lt-HEADER_OCTETS-clause-size
returns-then-bytes-lt-HEADER_OCTETS-clause-size c = sym (short_header c.args.bytes.now (omega arith))

pub returns-clause-size : goal.returns-clause-size
returns-clause-size c = rw (c.from.ensures, c.from-2.ensures) (sym (long_header c.args.bytes.now (omega arith)))
