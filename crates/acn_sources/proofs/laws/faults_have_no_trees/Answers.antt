use Rattle.acn_sources.proofs.Alike.{no_trees}
use Rattle.acn_sources.proofs.laws.faults_have_no_trees.Goals as goal

pub returns : goal.returns
returns c = no_trees c.one_answer_holds.ensures.tokens c.one_answer_holds.ensures.apart
