use Rattle.std.proofs.Common.{refl}
use Rattle.acn_leaf_laws.proofs.Forms.{number_fine}
use Rattle.acn_leaf_laws.proofs.Reasons.{clear}
use Rattle.acn_leaf_laws.proofs.laws.enumerations_are_fine.Goals as goal
use Rattle.acn_sites.specs.Sites.{base_of}

pub returns : goal.returns
returns c = λ w number s none e items. number_fine w s (clear w number s none) (base_of s) refl items
