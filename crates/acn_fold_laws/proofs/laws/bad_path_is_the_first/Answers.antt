use Rattle.acn_fold_laws.proofs.Faulty.{bad_path_first}
use Rattle.acn_fold_laws.proofs.laws.bad_path_is_the_first.Goals as goal

pub returns : goal.returns
returns c = λ w s. bad_path_first w s
