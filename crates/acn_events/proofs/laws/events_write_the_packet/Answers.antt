use Rattle.acn_events.proofs.Packets.{writes_packet}
use Rattle.acn_events.proofs.laws.events_write_the_packet.Goals as goal

pub returns : goal.returns
returns c = writes_packet c.accepted_is_sound.ensures c.events_are_in_order.ensures
