use Rattle.acn_packet_laws.proofs.ExclusionLaws.{fronts_exclude_failures}
use Rattle.acn_packet_laws.proofs.laws.fronts_exclude_failures.Goals as goal

pub returns : goal.returns
returns c = fronts_exclude_failures
