use Rattle.acn_packet_laws.proofs.NumberRows.{digits_have_an_end_law}
use Rattle.acn_packet_laws.proofs.row_laws.digits_have_an_end.Goals as goal

pub returns : goal.returns
returns c = digits_have_an_end_law
