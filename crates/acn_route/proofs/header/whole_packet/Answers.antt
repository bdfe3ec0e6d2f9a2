use Rattle.std.proofs.Common.{sym, arith, length, ◌≤◌}
use Rattle.acn_route.proofs.Headers.{whole_there, none_whole, not_whole}
use Rattle.acn_route.proofs.header.whole_packet.Goals as goal

pub returns-in-None-clause-wanting : goal.returns-in-None-clause-wanting
returns-in-None-clause-wanting c h = none_whole c.args.bytes.now (sym c.in-None.ensures.size)

pub returns-then-size-bytes-clause-wanting : goal.returns-then-size-bytes-clause-wanting
returns-then-size-bytes-clause-wanting c h = not_whole c.args.bytes.now c.in-Some.size (sym c.in-Some.ensures.size) c.in-Some.ensures.most (omega arith)

pub returns-else-size-bytes-clause-packet : goal.returns-else-size-bytes-clause-packet
returns-else-size-bytes-clause-packet c =
    let within : c.in-Some.size ≤ length c.args.bytes.now = omega arith in
    let whole = whole_there c.args.bytes.now c.in-Some.size (sym c.in-Some.ensures.size) within in
    (within, whole.0, c.in-Some.ensures.most, whole.1)
