use Rattle.acn_packet_laws.proofs.WorkedRows.{a_pattern_has_a_complement_law}
use Rattle.acn_packet_laws.proofs.row_laws.a_pattern_has_a_complement.Goals as goal

pub returns : goal.returns
returns c = a_pattern_has_a_complement_law
