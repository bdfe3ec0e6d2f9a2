use Rattle.acn_leaf_laws.proofs.Nulls.{null_fine}
use Rattle.acn_leaf_laws.proofs.laws.nulls_are_fine.Goals as goal

pub returns : goal.returns
returns c = λ s. null_fine s
