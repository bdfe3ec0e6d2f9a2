use Rattle.acn_packet_laws.proofs.ValueLengths.{values_lie_within_bounds}
use Rattle.acn_packet_laws.proofs.laws.values_lie_within_bounds.Goals as goal

pub returns : goal.returns
returns c = values_lie_within_bounds
