use Rattle.acn_fold_laws.proofs.Numbers.{greatest_item}
use Rattle.acn_fold_laws.proofs.laws.greatest_of_items_is_the_greatest.Goals as goal

pub returns : goal.returns
returns c = λ is. greatest_item is
