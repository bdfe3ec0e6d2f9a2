use Rattle.acn_packet_laws.proofs.EndRows.{an_end_of_two_octets_law}
use Rattle.acn_packet_laws.proofs.row_laws.an_end_of_two_octets.Goals as goal

pub returns : goal.returns
returns c = an_end_of_two_octets_law
