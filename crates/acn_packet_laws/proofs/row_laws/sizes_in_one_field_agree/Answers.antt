use Rattle.acn_packet_laws.proofs.WorkedRows.{sizes_in_one_field_agree_law}
use Rattle.acn_packet_laws.proofs.row_laws.sizes_in_one_field_agree.Goals as goal

pub returns : goal.returns
returns c = sizes_in_one_field_agree_law
