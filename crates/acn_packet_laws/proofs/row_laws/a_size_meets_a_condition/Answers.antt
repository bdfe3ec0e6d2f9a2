use Rattle.acn_packet_laws.proofs.ConditionRows.{a_size_meets_a_condition_law}
use Rattle.acn_packet_laws.proofs.row_laws.a_size_meets_a_condition.Goals as goal

pub returns : goal.returns
returns c = a_size_meets_a_condition_law
