use Rattle.acn_packet_laws.proofs.ExclusionLaws.{one_front}
use Rattle.acn_packet_laws.proofs.laws.one_front.Goals as goal

pub returns : goal.returns
returns c = one_front
