use Rattle.acn_leaf_laws.proofs.Alignments.{align_fine}
use Rattle.acn_leaf_laws.proofs.laws.alignments_are_fine.Goals as goal

pub returns : goal.returns
returns c = λ s. align_fine s
