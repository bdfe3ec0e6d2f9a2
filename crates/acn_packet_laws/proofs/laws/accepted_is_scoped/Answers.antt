use Rattle.acn_packet_laws.proofs.NodeLaws.{accepted_scoped}
use Rattle.acn_packet_laws.proofs.laws.accepted_is_scoped.Goals as goal

pub returns : goal.returns
returns c = accepted_scoped
