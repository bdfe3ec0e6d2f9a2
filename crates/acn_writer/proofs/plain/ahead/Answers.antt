use Rattle.acn_writer.proofs.PlainCodes.{offset_made}
use Rattle.acn_writer.proofs.plain.ahead.Goals as goal

pub returns : goal.returns
returns c = offset_made c.args.low.now c.args.x.now c.args.width c.requires.few c.requires.low c.requires.ahead
