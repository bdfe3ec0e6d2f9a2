use Rattle.acn_packet_laws.proofs.WrittenRead.{written_is_read}
use Rattle.acn_packet_laws.proofs.laws.written_is_read.Goals as goal

pub returns : goal.returns
returns c = written_is_read
