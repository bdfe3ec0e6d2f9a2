use Rattle.acn_packet_laws.proofs.Lengths.{lengths_told}
use Rattle.acn_packet_laws.proofs.laws.lengths_are_told.Goals as goal

pub returns : goal.returns
returns c = lengths_told
