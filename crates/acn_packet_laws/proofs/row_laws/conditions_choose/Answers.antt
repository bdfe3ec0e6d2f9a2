use Rattle.acn_packet_laws.proofs.ChoiceRows.{conditions_choose_law}
use Rattle.acn_packet_laws.proofs.row_laws.conditions_choose.Goals as goal

pub returns : goal.returns
returns c = conditions_choose_law
