use Rattle.std.proofs.Common.{arith}
use Rattle.acn_string_lines.proofs.SevenTexts.{plain_octet}
use Rattle.acn_string_lines.proofs.sevens.is_plain.Goals as goal

pub returns : goal.returns
returns c e = plain_octet c.args.octet (omega arith) e
