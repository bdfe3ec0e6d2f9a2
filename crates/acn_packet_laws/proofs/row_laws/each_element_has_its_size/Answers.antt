use Rattle.acn_packet_laws.proofs.ListRows.{each_element_has_its_size_law}
use Rattle.acn_packet_laws.proofs.row_laws.each_element_has_its_size.Goals as goal

pub returns : goal.returns
returns c = each_element_has_its_size_law
