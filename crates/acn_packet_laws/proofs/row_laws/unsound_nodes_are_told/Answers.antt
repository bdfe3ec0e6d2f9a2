use Rattle.acn_packet_laws.proofs.SoundRows.{unsound_nodes_are_told_law}
use Rattle.acn_packet_laws.proofs.row_laws.unsound_nodes_are_told.Goals as goal

pub returns : goal.returns
returns c = unsound_nodes_are_told_law
