use Rattle.std.proofs.Common.{arith}
use Rattle.acn_printed.proofs.Tables.{marked-plain}
use Rattle.acn_printed.proofs.rest.is_plain.Goals as goal

pub returns : goal.returns
returns c = marked-plain c.args.c (omega arith)
