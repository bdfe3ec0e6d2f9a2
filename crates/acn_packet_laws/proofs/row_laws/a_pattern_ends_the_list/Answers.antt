use Rattle.acn_packet_laws.proofs.RequestRows.{a_pattern_ends_the_list_law}
use Rattle.acn_packet_laws.proofs.row_laws.a_pattern_ends_the_list.Goals as goal

pub returns : goal.returns
returns c = a_pattern_ends_the_list_law
