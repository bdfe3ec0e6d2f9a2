use Rattle.std.proofs.Common.{◌≡◌, length, rules, arith}
use Rattle.acn_num.proofs.BitLists.{length-bits}
use Rattle.acn_route.proofs.LineTexts.{good_line, long_line}
use Rattle.acn_route.proofs.Pages.{good_read, taken_back}
use Rattle.acn_route.proofs.lines.put_routed.Goals as goal

pub octets_of-requires : goal.octets_of-requires
octets_of-requires c = omega (arith, c.in-Some.ensures.put.1.within, length-bits c.args.packet.now, c.requires.few)

pub returns-then-octets_of-octets-clause-added : goal.returns-then-octets_of-octets-clause-added
returns-then-octets_of-octets-clause-added c =
    let put = rw (c.root-root.ensures.same, c.tree.ensures.same) at c.in-Some.ensures.put in
    let mark : c.len-mark.result ≡ length c.args.page.now.bytes.items = search rules in
    let back = taken_back _ _ _ _ _ mark (good_read _ _ _ _ _ c.in_ok-begin_good.ensures.added put.2) c.truncate.ensures.items in
    long_line c.args.route.now.checked.tree c.args.packet.now _ _ c.args.apid (length c.args.packet.now) c.in-Some.bits put.0 c.requires.named (omega arith) put.1 (omega (arith, c.octets_of.ensures, c.if-octets_of-octets.true)) (rw back at c.in_ok-put_long-in-Some.ensures.added)

pub returns-else-octets_of-octets-clause-added : goal.returns-else-octets_of-octets-clause-added
returns-else-octets_of-octets-clause-added c =
    let put = rw (c.root-root.ensures.same, c.tree.ensures.same) at c.in-Some.ensures.put in
    good_line c.args.route.now.checked.tree c.args.packet.now _ _ c.args.apid (length c.args.packet.now) c.in-Some.bits put.0 c.requires.named (omega arith) put.1 (omega (arith, c.octets_of.ensures, c.if-octets_of-octets.false)) (good_read _ _ _ _ _ c.in_ok-begin_good.ensures.added put.2)
