use Rattle.acn_packet_laws.proofs.WorkedRows.{a_terminator_ends_the_text_law}
use Rattle.acn_packet_laws.proofs.row_laws.a_terminator_ends_the_text.Goals as goal

pub returns : goal.returns
returns c = a_terminator_ends_the_text_law
