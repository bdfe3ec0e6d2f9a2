use Rattle.acn_packet_laws.proofs.ListRows.{an_ended_list_names_its_elements_law}
use Rattle.acn_packet_laws.proofs.row_laws.an_ended_list_names_its_elements.Goals as goal

pub returns : goal.returns
returns c = an_ended_list_names_its_elements_law
