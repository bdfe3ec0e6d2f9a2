use Rattle.acn_packet_laws.proofs.WorkedRows.{zero_has_no_minus_law}
use Rattle.acn_packet_laws.proofs.row_laws.zero_has_no_minus.Goals as goal

pub returns : goal.returns
returns c = zero_has_no_minus_law
