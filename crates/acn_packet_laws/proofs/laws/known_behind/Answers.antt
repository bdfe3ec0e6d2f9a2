use Rattle.acn_packet_laws.proofs.SoundLaws.{known_behind}
use Rattle.acn_packet_laws.proofs.laws.known_behind.Goals as goal

pub returns : goal.returns
returns c = known_behind
