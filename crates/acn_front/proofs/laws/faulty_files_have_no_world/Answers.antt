use Rattle.acn_front.proofs.Excluding.{files_without_a_world}
use Rattle.acn_front.proofs.laws.faulty_files_have_no_world.Goals as goal

pub returns : goal.returns
returns c = files_without_a_world c.one_sources.ensures c.faults_have_no_trees.ensures c.no_fault_in_a_sound_world.ensures
