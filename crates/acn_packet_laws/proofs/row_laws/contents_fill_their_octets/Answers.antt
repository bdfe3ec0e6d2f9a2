use Rattle.acn_packet_laws.proofs.WorkedRows.{contents_fill_their_octets_law}
use Rattle.acn_packet_laws.proofs.row_laws.contents_fill_their_octets.Goals as goal

pub returns : goal.returns
returns c = contents_fill_their_octets_law
