use Rattle.acn_packet_laws.proofs.LaterStarts.{later_starts_end_later}
use Rattle.acn_packet_laws.proofs.laws.later_starts_end_later.Goals as goal

pub returns : goal.returns
returns c = later_starts_end_later
