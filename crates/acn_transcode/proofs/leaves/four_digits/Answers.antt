use Rattle.std.proofs.Common.{arith}
use Rattle.acn_transcode.proofs.DigitTexts.{four_digits}
use Rattle.acn_transcode.proofs.leaves.four_digits.Goals as goal

pub returns : goal.returns
returns c = record { few = omega arith; shown = rw (c.digit_of-thousands.ensures, c.digit_of-hundreds.ensures, c.digit_of-tens.ensures, c.digit_of-ones.ensures) (four_digits c.args.x c.requires.least c.requires.most) }
