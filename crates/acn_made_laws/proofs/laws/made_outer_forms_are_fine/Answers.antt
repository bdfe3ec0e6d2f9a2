use Rattle.acn_made_laws.proofs.Made.{outer_there}
use Rattle.acn_made_laws.proofs.laws.made_outer_forms_are_fine.Goals as goal

pub returns : goal.returns
returns c = λ w of s sound differ. outer_there w of s sound c.nodes_rise.ensures c.nodes_inside_go_on.ensures differ
