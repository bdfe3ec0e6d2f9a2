use Rattle.acn_made_laws.proofs.Made.{roles_there}
use Rattle.acn_made_laws.proofs.laws.made_roles_are_fine.Goals as goal

pub returns : goal.returns
returns c = λ w of s sound fit. roles_there w of s sound c.named_fields_are_numbered.ensures c.nodes_rise.ensures fit
