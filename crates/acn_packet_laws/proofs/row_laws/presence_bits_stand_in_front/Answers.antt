use Rattle.acn_packet_laws.proofs.WorkedRows.{presence_bits_stand_in_front_law}
use Rattle.acn_packet_laws.proofs.row_laws.presence_bits_stand_in_front.Goals as goal

pub returns : goal.returns
returns c = presence_bits_stand_in_front_law
