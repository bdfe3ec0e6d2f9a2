use Rattle.acn_fold_laws.proofs.Fewest.{least_width_is}
use Rattle.acn_fold_laws.proofs.laws.least_width_is_the_least.Goals as goal

pub returns : goal.returns
returns c = λ n h. least_width_is n h
