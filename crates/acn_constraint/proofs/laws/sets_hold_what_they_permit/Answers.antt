use Rattle.acn_constraint.proofs.Permitted.{held}
use Rattle.acn_constraint.proofs.laws.sets_hold_what_they_permit.Goals as goal

pub returns : goal.returns
returns c = held
