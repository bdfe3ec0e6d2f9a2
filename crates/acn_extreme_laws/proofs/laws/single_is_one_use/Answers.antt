use Rattle.acn_extreme_laws.proofs.Weights.{single_is_one_use}
use Rattle.acn_extreme_laws.proofs.laws.single_is_one_use.Goals as goal

pub returns : goal.returns
returns c = single_is_one_use
