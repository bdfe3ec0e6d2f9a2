use Rattle.acn_packet_laws.proofs.PlaceRows.{presence_bits_may_be_short_law}
use Rattle.acn_packet_laws.proofs.row_laws.presence_bits_may_be_short.Goals as goal

pub returns : goal.returns
returns c = presence_bits_may_be_short_law
