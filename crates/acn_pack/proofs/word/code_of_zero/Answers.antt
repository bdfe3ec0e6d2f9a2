use Rattle.std.proofs.Common.{rules}
use Rattle.acn_pack.proofs.Gathered.{first_fits, zero_is}
use Rattle.acn_pack.proofs.word.code_of_zero.Goals as goal

pub returns-clause-fits : goal.returns-clause-fits
returns-clause-fits c = first_fits c.args.cut.now c.requires.0 c.requires.1

pub returns-clause-code : goal.returns-clause-code
returns-clause-code c leaf is = zero_is c.args.cut.now leaf (search rules) is
