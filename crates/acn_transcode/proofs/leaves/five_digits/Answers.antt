use Rattle.std.proofs.Common.{arith}
use Rattle.acn_transcode.proofs.DigitTexts.{five_digits}
use Rattle.acn_transcode.proofs.leaves.five_digits.Goals as goal

pub returns : goal.returns
returns c = record { few = omega arith; shown = rw (c.digit_of-first.ensures, c.digit_of-thousands.ensures, c.digit_of-hundreds.ensures, c.digit_of-tens.ensures, c.digit_of-ones.ensures) (five_digits c.args.x c.requires.least c.requires.most) }
