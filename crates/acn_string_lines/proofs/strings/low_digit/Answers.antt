use Rattle.std.proofs.Common.{arith}
use Rattle.acn_string_lines.proofs.DigitPairs.{pair_low}
use Rattle.acn_string_lines.proofs.strings.low_digit.Goals as goal

pub returns : goal.returns
returns c = pair_low c.args.octet (omega arith)
