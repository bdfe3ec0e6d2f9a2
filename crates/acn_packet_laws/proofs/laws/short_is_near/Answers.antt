use Rattle.acn_packet_laws.proofs.ShortNear.{short_is_near}
use Rattle.acn_packet_laws.proofs.laws.short_is_near.Goals as goal

pub returns : goal.returns
returns c = short_is_near
