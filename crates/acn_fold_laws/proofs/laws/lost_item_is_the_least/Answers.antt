use Rattle.acn_written.specs.Numbers.{is_value, least_of}
use Rattle.acn_fold_laws.proofs.Numbers.{lost_item}
use Rattle.acn_fold_laws.proofs.laws.lost_item_is_the_least.Goals as goal

pub returns : goal.returns
returns c = λ items is coding. lost_item (λ x. is_value coding (least_of is) x) is
