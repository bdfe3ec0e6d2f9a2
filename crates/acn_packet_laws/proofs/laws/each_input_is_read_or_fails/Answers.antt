use Rattle.acn_packet_laws.proofs.InputTotal.{each_input_is_read_or_fails}
use Rattle.acn_packet_laws.proofs.laws.each_input_is_read_or_fails.Goals as goal

pub returns : goal.returns
returns c = each_input_is_read_or_fails
