use Rattle.acn_event_limits.proofs.Room.{largest_has_room}
use Rattle.acn_event_limits.proofs.laws.largest_tables_have_room.Goals as goal

pub returns : goal.returns
returns c = largest_has_room c.accepted_is_sound.ensures c.no_fault_without_a_first.ensures c.events_are_in_order.ensures
