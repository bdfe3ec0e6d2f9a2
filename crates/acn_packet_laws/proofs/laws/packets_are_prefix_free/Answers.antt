use Rattle.acn_packet_laws.proofs.NodeLaws.{packets_prefix_free}
use Rattle.acn_packet_laws.proofs.laws.packets_are_prefix_free.Goals as goal

pub returns : goal.returns
returns c = packets_prefix_free
