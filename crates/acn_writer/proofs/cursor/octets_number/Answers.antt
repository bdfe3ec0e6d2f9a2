use Rattle.acn_writer.proofs.Puts.{eight_octets}
use Rattle.acn_writer.proofs.cursor.octets_number.Goals as goal

pub returns-in-Some : goal.returns-in-Some
returns-in-Some c = eight_octets c.args.octets.now c.in-Some.word.now c.from_be_bytes.result c.requires c.in-Some.ensures.cases.enough c.in-Some.ensures.cases.same c.type_inv.octets c.from_be_bytes.ensures
