use Rattle.acn_packet_laws.proofs.SoundLaid.{known_stays}
use Rattle.acn_packet_laws.proofs.laws.known_stays.Goals as goal

pub returns : goal.returns
returns c = known_stays
