use Rattle.acn_packet_laws.proofs.SoundLaws.{accepted_sound_nodes}
use Rattle.acn_packet_laws.proofs.laws.accepted_is_sound.Goals as goal

pub returns : goal.returns
returns c = accepted_sound_nodes
