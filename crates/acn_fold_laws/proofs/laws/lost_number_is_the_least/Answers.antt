use Rattle.acn_codings.specs.Left.{left_of, least_lost}
use Rattle.acn_fold_laws.proofs.Numbers.{lost_number}
use Rattle.acn_fold_laws.proofs.laws.lost_number_is_the_least.Goals as goal

pub returns : goal.returns
unfolding left_of least_lost
returns c = λ set can h k. lost_number set.open_below set.open_above set.numbers can h k
