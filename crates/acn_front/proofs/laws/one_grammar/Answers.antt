use Rattle.acn_front.proofs.Excluding.{grammars_are_one}
use Rattle.acn_front.proofs.laws.one_grammar.Goals as goal

pub returns : goal.returns
returns c = grammars_are_one
