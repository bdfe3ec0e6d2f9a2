use Rattle.acn_packet_laws.proofs.WorkedRows.{conditions_that_are_missed_are_avoided_law}
use Rattle.acn_packet_laws.proofs.row_laws.conditions_that_are_missed_are_avoided.Goals as goal

pub returns : goal.returns
returns c = conditions_that_are_missed_are_avoided_law
