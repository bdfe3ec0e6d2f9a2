use Rattle.acn_events.proofs.Right.{events_in_order}
use Rattle.acn_events.proofs.laws.events_are_in_order.Goals as goal

pub returns : goal.returns
returns c = events_in_order c.accepted_is_sound.ensures c.known_behind.ensures
