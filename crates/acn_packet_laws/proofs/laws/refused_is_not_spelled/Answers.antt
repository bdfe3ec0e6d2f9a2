use Rattle.acn_packet_laws.proofs.RefusedUnspelled.{refused_is_not_spelled}
use Rattle.acn_packet_laws.proofs.laws.refused_is_not_spelled.Goals as goal

pub returns : goal.returns
returns c = refused_is_not_spelled
