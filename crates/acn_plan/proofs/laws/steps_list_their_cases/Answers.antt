use Rattle.acn_plan.proofs.Lists.{listed}
use Rattle.acn_plan.proofs.laws.steps_list_their_cases.Goals as goal

pub returns : goal.returns
returns c = listed
