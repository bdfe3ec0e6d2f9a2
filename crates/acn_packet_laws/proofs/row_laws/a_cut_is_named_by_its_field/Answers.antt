use Rattle.acn_packet_laws.proofs.CutRows.{a_cut_is_named_by_its_field_law}
use Rattle.acn_packet_laws.proofs.row_laws.a_cut_is_named_by_its_field.Goals as goal

pub returns : goal.returns
returns c = a_cut_is_named_by_its_field_law
