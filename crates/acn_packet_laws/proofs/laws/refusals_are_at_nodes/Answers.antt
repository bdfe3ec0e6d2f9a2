use Rattle.acn_packet_laws.proofs.RefusalPaths.{refusals_are_at_nodes}
use Rattle.acn_packet_laws.proofs.laws.refusals_are_at_nodes.Goals as goal

pub returns : goal.returns
returns c = refusals_are_at_nodes
