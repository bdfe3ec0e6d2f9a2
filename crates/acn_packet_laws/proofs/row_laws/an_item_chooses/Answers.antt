use Rattle.acn_packet_laws.proofs.ChoiceRows.{an_item_chooses_law}
use Rattle.acn_packet_laws.proofs.row_laws.an_item_chooses.Goals as goal

pub returns : goal.returns
returns c = an_item_chooses_law
