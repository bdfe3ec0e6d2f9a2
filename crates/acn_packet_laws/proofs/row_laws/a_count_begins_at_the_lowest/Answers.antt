use Rattle.acn_packet_laws.proofs.NumberRows.{a_count_begins_at_the_lowest_law}
use Rattle.acn_packet_laws.proofs.row_laws.a_count_begins_at_the_lowest.Goals as goal

pub returns : goal.returns
returns c = a_count_begins_at_the_lowest_law
