use Rattle.acn_packet_laws.proofs.SoundLaws.{few_are_open}
use Rattle.acn_packet_laws.proofs.laws.few_are_open.Goals as goal

pub returns : goal.returns
returns c = few_are_open
