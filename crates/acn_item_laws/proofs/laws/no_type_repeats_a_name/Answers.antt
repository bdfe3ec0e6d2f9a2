use Rattle.acn_item_laws.proofs.Once.{stands_once}
use Rattle.acn_item_laws.proofs.laws.no_type_repeats_a_name.Goals as goal

pub returns : goal.returns
returns c = λ w k t sound s. stands_once w k sound s
