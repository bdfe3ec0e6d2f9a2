use Rattle.acn_tree.proofs.MadeMeets.{made_meets}
use Rattle.acn_tree.proofs.making.each_made_value_meets.Goals as goal

pub returns : goal.returns
returns c = made_meets
