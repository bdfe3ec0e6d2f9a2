use Rattle.acn_packet_laws.proofs.NodeLaws.{nodes_prefix_free}
use Rattle.acn_packet_laws.proofs.laws.nodes_are_prefix_free.Goals as goal

pub returns : goal.returns
returns c = nodes_prefix_free
