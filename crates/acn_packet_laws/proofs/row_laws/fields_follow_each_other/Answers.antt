use Rattle.acn_packet_laws.proofs.WorkedRows.{fields_follow_each_other_law}
use Rattle.acn_packet_laws.proofs.row_laws.fields_follow_each_other.Goals as goal

pub returns : goal.returns
returns c = fields_follow_each_other_law
