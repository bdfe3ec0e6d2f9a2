use Rattle.acn_extreme_laws.proofs.Finding.{first_unsingle_is_found}
use Rattle.acn_extreme_laws.proofs.laws.first_unsingle_is_found.Goals as goal

pub returns : goal.returns
returns c = first_unsingle_is_found
