use Rattle.acn_fold_laws.proofs.Pairs.{first_twins}
use Rattle.acn_fold_laws.proofs.laws.twins_are_the_first.Goals as goal

pub returns : goal.returns
returns c = λ is. first_twins is
