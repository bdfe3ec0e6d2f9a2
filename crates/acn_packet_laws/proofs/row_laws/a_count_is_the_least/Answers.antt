use Rattle.acn_packet_laws.proofs.WorkedRows.{a_count_is_the_least_law}
use Rattle.acn_packet_laws.proofs.row_laws.a_count_is_the_least.Goals as goal

pub returns : goal.returns
returns c = a_count_is_the_least_law
