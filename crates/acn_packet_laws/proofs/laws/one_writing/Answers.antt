use Rattle.acn_packet_laws.proofs.OneWriting.{one_writing}
use Rattle.acn_packet_laws.proofs.laws.one_writing.Goals as goal

pub returns : goal.returns
returns c = one_writing
