use Rattle.acn_packet_laws.proofs.FailurePaths.{failures_are_at_nodes}
use Rattle.acn_packet_laws.proofs.laws.failures_are_at_nodes.Goals as goal

pub returns : goal.returns
returns c = failures_are_at_nodes
