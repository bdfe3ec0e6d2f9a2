use Rattle.acn_plan.proofs.Itemizes.{itemed}
use Rattle.acn_plan.proofs.laws.steps_are_itemed.Goals as goal

pub returns : goal.returns
returns c = itemed
