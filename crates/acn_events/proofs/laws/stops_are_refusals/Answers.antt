use Rattle.acn_events.proofs.Runs.{stops_refused}
use Rattle.acn_events.proofs.laws.stops_are_refusals.Goals as goal

pub returns : goal.returns
returns c = stops_refused c.accepted_is_sound.ensures c.known_behind.ensures c.each_occurrence_asks.ensures c.fields_tell_their_slots.ensures c.widths_are_lengths.ensures c.events_are_in_order.ensures
