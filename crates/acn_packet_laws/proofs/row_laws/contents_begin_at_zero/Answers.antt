use Rattle.acn_packet_laws.proofs.ContentRows.{contents_begin_at_zero_law}
use Rattle.acn_packet_laws.proofs.row_laws.contents_begin_at_zero.Goals as goal

pub returns : goal.returns
returns c = contents_begin_at_zero_law
