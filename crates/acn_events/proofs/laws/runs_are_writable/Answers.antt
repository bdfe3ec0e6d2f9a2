use Rattle.acn_events.proofs.Runs.{runs_writable}
use Rattle.acn_events.proofs.laws.runs_are_writable.Goals as goal

pub returns : goal.returns
returns c = runs_writable c.accepted_is_sound.ensures c.known_behind.ensures c.each_occurrence_asks.ensures c.fields_tell_their_slots.ensures c.each_value_is_written_or_refused.ensures c.events_are_in_order.ensures
