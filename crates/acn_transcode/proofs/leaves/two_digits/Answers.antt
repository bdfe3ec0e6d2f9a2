use Rattle.std.proofs.Common.{arith}
use Rattle.acn_transcode.proofs.DigitTexts.{two_digits}
use Rattle.acn_transcode.proofs.leaves.two_digits.Goals as goal

pub returns : goal.returns
returns c = record { few = omega arith; shown = rw (c.digit_of.ensures, c.digit_of-2.ensures) (two_digits c.args.x c.requires.least c.requires.most) }
