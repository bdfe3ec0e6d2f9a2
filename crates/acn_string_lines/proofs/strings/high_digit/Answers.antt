use Rattle.std.proofs.Common.{arith}
use Rattle.acn_string_lines.proofs.DigitPairs.{pair_high}
use Rattle.acn_string_lines.proofs.strings.high_digit.Goals as goal

pub returns : goal.returns
returns c = pair_high c.args.octet (omega arith)
