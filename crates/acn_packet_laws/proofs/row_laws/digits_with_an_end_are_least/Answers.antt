use Rattle.acn_packet_laws.proofs.WorkedRows.{digits_with_an_end_are_least_law}
use Rattle.acn_packet_laws.proofs.row_laws.digits_with_an_end_are_least.Goals as goal

pub returns : goal.returns
returns c = digits_with_an_end_are_least_law
