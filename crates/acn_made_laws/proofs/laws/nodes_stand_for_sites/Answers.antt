use Rattle.acn_made_laws.proofs.Standing.{nodes_stand}
use Rattle.acn_made_laws.proofs.laws.nodes_stand_for_sites.Goals as goal

pub returns : goal.returns
returns c = nodes_stand
