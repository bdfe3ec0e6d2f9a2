use Rattle.acn_packet_laws.proofs.SoundLaws.{sound_scoped}
use Rattle.acn_packet_laws.proofs.laws.sound_is_scoped.Goals as goal

pub returns : goal.returns
returns c = sound_scoped
