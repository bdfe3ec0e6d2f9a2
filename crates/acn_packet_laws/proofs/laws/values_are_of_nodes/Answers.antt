use Rattle.acn_packet_laws.proofs.NodePaths.{values_are_of_nodes}
use Rattle.acn_packet_laws.proofs.laws.values_are_of_nodes.Goals as goal

pub returns : goal.returns
returns c = values_are_of_nodes
