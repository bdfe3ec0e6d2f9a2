use Rattle.acn_packet_laws.proofs.NumberTotal.{each_input_is_a_number_or_fails}
use Rattle.acn_packet_laws.proofs.laws.each_input_is_a_number_or_fails.Goals as goal

pub returns : goal.returns
returns c = each_input_is_a_number_or_fails
