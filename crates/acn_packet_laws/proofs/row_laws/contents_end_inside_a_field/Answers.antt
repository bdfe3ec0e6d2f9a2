use Rattle.acn_packet_laws.proofs.ContentRows.{contents_end_inside_a_field_law}
use Rattle.acn_packet_laws.proofs.row_laws.contents_end_inside_a_field.Goals as goal

pub returns : goal.returns
returns c = contents_end_inside_a_field_law
