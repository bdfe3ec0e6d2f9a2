use Rattle.std.proofs.Common.{arith}
use Rattle.acn_transcode.proofs.DigitTexts.{one_digit}
use Rattle.acn_transcode.proofs.leaves.one_digit.Goals as goal

pub returns : goal.returns
returns c = record { few = omega arith; shown = rw (c.digit_of.ensures) (one_digit c.args.x c.requires) }
