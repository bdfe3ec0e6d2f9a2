use Rattle.acn_fold_laws.proofs.Ordering.{in_order}
use Rattle.acn_fold_laws.proofs.laws.ascending_is_in_order.Goals as goal

pub returns : goal.returns
returns c = λ rs. in_order rs
