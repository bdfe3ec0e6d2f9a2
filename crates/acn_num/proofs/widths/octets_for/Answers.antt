use Rattle.std.proofs.Common.{arith}
use Rattle.acn_num.proofs.Octets.{least_octets}
use Rattle.acn_num.proofs.widths.octets_for.Goals as goal

pub returns-else-width-eq0-clause-least : goal.returns-else-width-eq0-clause-least
returns-else-width-eq0-clause-least c = least_octets c.args.x c.bits_for-width.result c.bits_for-width.ensures.least (let no = c.if-width-eq0.false in omega arith)
