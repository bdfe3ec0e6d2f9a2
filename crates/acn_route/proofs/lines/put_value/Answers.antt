use Rattle.std.proofs.Common.{arith, length}
use Rattle.acn_grammar.specs.View.{data_of}
use Rattle.acn_num.proofs.BitLists.{length-bits}
use Rattle.acn_route.proofs.LineTexts.{good_line, long_line}
use Rattle.acn_route.proofs.lines.put_value.Goals as goal

pub octets_of-requires : goal.octets_of-requires
octets_of-requires c = omega (arith, c.requires.front.within, length-bits c.args.packet.now, c.requires.few)

pub returns-then-octets_of-octets-clause-added : goal.returns-then-octets_of-octets-clause-added
returns-then-octets_of-octets-clause-added c = long_line c.args.route.now.checked.tree c.args.packet.now _ _ c.args.apid (length c.args.packet.now) c.args.size (data_of c.args.value.now) c.requires.named (omega arith) c.requires.front (omega (arith, c.octets_of.ensures)) c.in_ok-put_long.ensures.added

pub returns-clause-added : goal.returns-clause-added
returns-clause-added c = good_line c.args.route.now.checked.tree c.args.packet.now _ _ c.args.apid (length c.args.packet.now) c.args.size (data_of c.args.value.now) c.requires.named (omega arith) c.requires.front (omega (arith, c.octets_of.ensures)) c.in_ok-put_good.ensures.added
