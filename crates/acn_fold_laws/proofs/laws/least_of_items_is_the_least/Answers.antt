use Rattle.acn_fold_laws.proofs.Numbers.{least_item}
use Rattle.acn_fold_laws.proofs.laws.least_of_items_is_the_least.Goals as goal

pub returns : goal.returns
returns c = λ is. least_item is
