use Rattle.acn_packet_laws.proofs.RefusalPaths.{breaches_are_at_nodes}
use Rattle.acn_packet_laws.proofs.laws.breaches_are_at_nodes.Goals as goal

pub returns : goal.returns
returns c = breaches_are_at_nodes
