use Rattle.acn_packet_laws.proofs.EachWritten.{each_written}
use Rattle.acn_packet_laws.proofs.laws.each_value_is_written_or_refused.Goals as goal

pub returns : goal.returns
returns c = each_written
