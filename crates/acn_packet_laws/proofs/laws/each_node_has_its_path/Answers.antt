use Rattle.acn_packet_laws.proofs.NodePaths.{each_node_has_its_path}
use Rattle.acn_packet_laws.proofs.laws.each_node_has_its_path.Goals as goal

pub returns : goal.returns
returns c = each_node_has_its_path
