use Rattle.acn_leaf_laws.proofs.IntegerSites.{integer_base, integer_fine}
use Rattle.acn_leaf_laws.proofs.Reasons.{clear}
use Rattle.acn_leaf_laws.proofs.laws.integers_are_fine.Goals as goal
use Rattle.acn_sites.specs.Sites.{base_of}

pub returns : goal.returns
returns c = λ w number s none e. (let b = integer_base (base_of s) e in integer_fine w s b.0 b.1 (clear w number s none))
