use Rattle.acn_packet_laws.proofs.NodeLaws.{each_node_prefix_free}
use Rattle.acn_packet_laws.proofs.laws.each_node_is_prefix_free.Goals as goal

pub returns : goal.returns
returns c = each_node_prefix_free
