use Rattle.acn_packet_laws.proofs.PlaceRows.{padding_may_be_short_law}
use Rattle.acn_packet_laws.proofs.row_laws.padding_may_be_short.Goals as goal

pub returns : goal.returns
returns c = padding_may_be_short_law
