use Rattle.acn_made_laws.proofs.Made.{within_limits}
use Rattle.acn_made_laws.proofs.laws.made_tree_is_within_limits.Goals as goal

pub returns : goal.returns
returns c = λ w of s sound. within_limits w of s sound c.nodes_rise.ensures
