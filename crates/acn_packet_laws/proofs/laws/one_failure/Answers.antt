use Rattle.acn_packet_laws.proofs.ExclusionLaws.{one_failure}
use Rattle.acn_packet_laws.proofs.laws.one_failure.Goals as goal

pub returns : goal.returns
returns c = one_failure
