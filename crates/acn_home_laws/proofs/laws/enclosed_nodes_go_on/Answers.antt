use Rattle.acn_home_laws.proofs.Enclosing.{encloses_by_paths}
use Rattle.acn_home_laws.proofs.laws.enclosed_nodes_go_on.Goals as goal

pub returns : goal.returns
returns c = encloses_by_paths
