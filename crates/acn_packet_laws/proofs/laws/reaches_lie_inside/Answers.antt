use Rattle.acn_packet_laws.proofs.InsideReaches.{reaches_lie_inside}
use Rattle.acn_packet_laws.proofs.laws.reaches_lie_inside.Goals as goal

pub returns : goal.returns
returns c = reaches_lie_inside
