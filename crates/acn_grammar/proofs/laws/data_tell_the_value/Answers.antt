use Rattle.acn_grammar.proofs.Back.{same_data}
use Rattle.acn_grammar.proofs.laws.data_tell_the_value.Goals as goal

pub returns : goal.returns
returns c = same_data
