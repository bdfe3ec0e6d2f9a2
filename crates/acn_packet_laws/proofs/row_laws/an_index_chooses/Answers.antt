use Rattle.acn_packet_laws.proofs.ChoiceRows.{an_index_chooses_law}
use Rattle.acn_packet_laws.proofs.row_laws.an_index_chooses.Goals as goal

pub returns : goal.returns
returns c = an_index_chooses_law
