use Rattle.acn_packet_laws.proofs.WorkedRows.{an_end_of_bits_is_short_law}
use Rattle.acn_packet_laws.proofs.row_laws.an_end_of_bits_is_short.Goals as goal

pub returns : goal.returns
returns c = an_end_of_bits_is_short_law
