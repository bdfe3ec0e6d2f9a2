use Rattle.acn_packet_laws.proofs.BoundsLaw.{bounds_hold}
use Rattle.acn_packet_laws.proofs.laws.bounds_hold.Goals as goal

pub returns : goal.returns
returns c = bounds_hold
