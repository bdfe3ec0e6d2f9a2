use Rattle.acn_extreme_laws.proofs.OneUse.{one_use_is_meetable}
use Rattle.acn_extreme_laws.proofs.laws.one_use_is_meetable.Goals as goal

pub returns : goal.returns
returns c = one_use_is_meetable
