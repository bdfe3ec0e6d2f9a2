use Rattle.acn_packet_laws.proofs.SizeRows.{a_size_needs_its_number_law}
use Rattle.acn_packet_laws.proofs.row_laws.a_size_needs_its_number.Goals as goal

pub returns : goal.returns
returns c = a_size_needs_its_number_law
