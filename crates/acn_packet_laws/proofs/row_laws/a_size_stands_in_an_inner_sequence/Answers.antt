use Rattle.acn_packet_laws.proofs.SizeRows.{a_size_stands_in_an_inner_sequence_law}
use Rattle.acn_packet_laws.proofs.row_laws.a_size_stands_in_an_inner_sequence.Goals as goal

pub returns : goal.returns
returns c = a_size_stands_in_an_inner_sequence_law
