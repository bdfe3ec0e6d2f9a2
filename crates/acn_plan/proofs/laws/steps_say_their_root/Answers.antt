use Rattle.acn_plan.proofs.Backs.{root_back}
use Rattle.acn_plan.proofs.laws.steps_say_their_root.Goals as goal

pub returns : goal.returns
returns c = root_back
