use Rattle.acn_compare.proofs.OneFirst.{one_first_difference}
use Rattle.acn_compare.proofs.laws.one_first_difference.Goals as goal

pub returns : goal.returns
returns c = one_first_difference
