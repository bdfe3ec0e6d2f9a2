use Rattle.acn_packet_laws.proofs.ContentRows.{a_header_and_its_contents_law}
use Rattle.acn_packet_laws.proofs.row_laws.a_header_and_its_contents.Goals as goal

pub returns : goal.returns
returns c = a_header_and_its_contents_law
