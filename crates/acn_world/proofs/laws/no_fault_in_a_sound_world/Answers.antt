use Rattle.acn_world.proofs.LawProofs.{sound}
use Rattle.acn_world.proofs.laws.no_fault_in_a_sound_world.Goals as goal

pub returns : goal.returns
returns c = sound
