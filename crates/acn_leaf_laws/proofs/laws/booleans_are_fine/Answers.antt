use Rattle.acn_leaf_laws.proofs.Booleans.{boolean_fine}
use Rattle.acn_leaf_laws.proofs.Reasons.{clear}
use Rattle.acn_leaf_laws.proofs.laws.booleans_are_fine.Goals as goal

pub returns : goal.returns
returns c = λ w number s none e. boolean_fine s e (clear w number s none).patterns
