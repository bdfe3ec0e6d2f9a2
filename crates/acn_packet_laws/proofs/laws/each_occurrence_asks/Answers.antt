use Rattle.acn_packet_laws.proofs.Occurrences.{each_occurrence_asks}
use Rattle.acn_packet_laws.proofs.laws.each_occurrence_asks.Goals as goal

pub returns : goal.returns
returns c = each_occurrence_asks
