use Rattle.acn_item_laws.proofs.Standing.{all_stand}
use Rattle.acn_item_laws.proofs.laws.bases_stand.Goals as goal

pub returns : goal.returns
returns c = λ w of. all_stand w of
