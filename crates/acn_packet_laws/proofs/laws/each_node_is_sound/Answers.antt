use Rattle.acn_packet_laws.proofs.SoundNodes.{each_node_sound}
use Rattle.acn_packet_laws.proofs.laws.each_node_is_sound.Goals as goal

pub returns : goal.returns
returns c = each_node_sound
