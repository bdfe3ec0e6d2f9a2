use Rattle.acn_pieces.proofs.CanWalkLaw.{sound_values_can}
use Rattle.acn_pieces.proofs.laws.sound_values_can_be_walked.Goals as goal

pub returns : goal.returns
returns c = sound_values_can
