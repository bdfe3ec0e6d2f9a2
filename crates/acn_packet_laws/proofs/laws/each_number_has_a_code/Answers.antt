use Rattle.acn_packet_laws.proofs.Codes.{each_number_has_a_code}
use Rattle.acn_packet_laws.proofs.laws.each_number_has_a_code.Goals as goal

pub returns : goal.returns
returns c = each_number_has_a_code
