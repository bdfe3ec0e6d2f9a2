use Rattle.acn_packet_laws.proofs.WidthBack.{widths_are_lengths}
use Rattle.acn_packet_laws.proofs.laws.widths_are_lengths.Goals as goal

pub returns : goal.returns
returns c = widths_are_lengths
