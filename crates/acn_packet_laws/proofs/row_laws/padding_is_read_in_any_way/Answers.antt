use Rattle.acn_packet_laws.proofs.WorkedRows.{padding_is_read_in_any_way_law}
use Rattle.acn_packet_laws.proofs.row_laws.padding_is_read_in_any_way.Goals as goal

pub returns : goal.returns
returns c = padding_is_read_in_any_way_law
