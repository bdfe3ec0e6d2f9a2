use Rattle.acn_check.specs.Program.{cases_of}
use Rattle.acn_check.proofs.TwoNumbers.{if_own}
use Rattle.acn_check.proofs.clashes.told_by.Goals as goal

pub returns : goal.returns
returns c = if_own c.have_own.result c.args.slots.now (cases_of c.args.alternatives.now) c.have_own.ensures
