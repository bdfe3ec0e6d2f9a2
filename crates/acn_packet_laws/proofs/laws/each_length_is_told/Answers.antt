use Rattle.acn_packet_laws.proofs.Lengths.{each_length_told}
use Rattle.acn_packet_laws.proofs.laws.each_length_is_told.Goals as goal

pub returns : goal.returns
returns c = each_length_told
