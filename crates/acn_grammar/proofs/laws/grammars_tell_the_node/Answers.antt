use Rattle.acn_grammar.proofs.NodesBack.{same_grammar}
use Rattle.acn_grammar.proofs.laws.grammars_tell_the_node.Goals as goal

pub returns : goal.returns
returns c = same_grammar
