use Rattle.acn_packet_laws.proofs.WorkedRows.{a_size_stands_in_front_law}
use Rattle.acn_packet_laws.proofs.row_laws.a_size_stands_in_front.Goals as goal

pub returns : goal.returns
returns c = a_size_stands_in_front_law
