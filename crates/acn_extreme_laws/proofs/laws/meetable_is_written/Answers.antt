use Rattle.acn_extreme_laws.proofs.Homed.{meetable_is_written}
use Rattle.acn_extreme_laws.proofs.laws.meetable_is_written.Goals as goal

pub returns : goal.returns
returns c = meetable_is_written c.accepted_is_sound.ensures c.known_behind.ensures c.each_occurrence_asks.ensures c.each_value_is_written_or_refused.ensures
