use Rattle.acn_made_laws.proofs.Made.{choices_there}
use Rattle.acn_made_laws.proofs.laws.made_choices_are_ruled.Goals as goal

pub returns : goal.returns
returns c = λ w of s sound. choices_there w of s sound c.nodes_rise.ensures c.nodes_inside_go_on.ensures
