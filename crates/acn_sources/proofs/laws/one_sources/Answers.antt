use Rattle.acn_sources.proofs.Alike.{one_sources_of}
use Rattle.acn_sources.proofs.laws.one_sources.Goals as goal

pub returns : goal.returns
returns c = one_sources_of c.one_answer_holds.ensures.tokens c.one_proper_tree.ensures c.one_proper_tree-2.ensures.modules c.one_proper_tree-2.ensures.tables
