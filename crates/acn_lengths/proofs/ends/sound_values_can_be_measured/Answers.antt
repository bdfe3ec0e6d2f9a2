use Rattle.acn_lengths.proofs.CanMeasureLaw.{sound_values_measured}
use Rattle.acn_lengths.proofs.ends.sound_values_can_be_measured.Goals as goal

pub returns : goal.returns
returns c = sound_values_measured
