use Rattle.acn_packet_laws.proofs.PartPaths.{parts_are_of_nodes}
use Rattle.acn_packet_laws.proofs.laws.parts_are_of_nodes.Goals as goal

pub returns : goal.returns
returns c = parts_are_of_nodes
