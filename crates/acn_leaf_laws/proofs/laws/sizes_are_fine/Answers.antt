use Rattle.acn_leaf_laws.proofs.Reasons.{clear}
use Rattle.acn_leaf_laws.proofs.Sizes.{sizing_good}
use Rattle.acn_leaf_laws.proofs.laws.sizes_are_fine.Goals as goal

pub returns : goal.returns
returns c = λ w number all s none sized. sizing_good w all s sized (clear w number s none).size
