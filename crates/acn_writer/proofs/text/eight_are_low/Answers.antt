use Rattle.acn_writer.proofs.LowRuns.{first_eight_low}
use Rattle.acn_writer.proofs.text.eight_are_low.Goals as goal

pub returns : goal.returns
returns c = λ none. first_eight_low c.args.text.now c.in-Some.octets.now c.from_be_bytes.result c.in-Some.ensures.cases.enough c.in-Some.ensures.cases.same c.type_inv.text c.from_be_bytes.ensures none
