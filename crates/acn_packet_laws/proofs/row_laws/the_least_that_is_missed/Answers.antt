use Rattle.acn_packet_laws.proofs.ConditionRows.{the_least_that_is_missed_law}
use Rattle.acn_packet_laws.proofs.row_laws.the_least_that_is_missed.Goals as goal

pub returns : goal.returns
returns c = the_least_that_is_missed_law
