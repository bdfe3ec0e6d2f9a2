use Rattle.acn_gather_laws.proofs.CanGatherLaw.{sound_values_gathered}
use Rattle.acn_gather_laws.proofs.laws.sound_values_can_be_gathered.Goals as goal

pub returns : goal.returns
returns c = sound_values_gathered c.known_behind.ensures
