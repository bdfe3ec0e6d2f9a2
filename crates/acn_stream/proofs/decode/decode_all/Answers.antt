use Rattle.acn_stream.proofs.Ending.{decoded, never_decoded}
use Rattle.acn_stream.proofs.decode.decode_all.Goals as goal

pub returns-in-Err-clause-ends : goal.returns-in-Err-clause-ends
returns-in-Err-clause-ends g c = never_decoded _ _ _ _

pub returns-in-Ok-clause-ends : goal.returns-in-Ok-clause-ends
returns-in-Ok-clause-ends g c = decoded _ _ _ _ _ _ _ (rw c.tree-tree.ensures.same at c.show_all.ensures.ends)
