use Rattle.acn_made_laws.proofs.Standing.{paths_stand}
use Rattle.acn_made_laws.proofs.laws.nodes_stand_at_sites.Goals as goal

pub returns : goal.returns
returns c = paths_stand
