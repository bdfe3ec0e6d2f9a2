use Rattle.acn_made_laws.proofs.Made.{numbered_there}
use Rattle.acn_made_laws.proofs.laws.made_slots_are_numbered.Goals as goal

pub returns : goal.returns
returns c = λ w of s sound. numbered_there w of s sound c.named_fields_are_numbered.ensures c.nodes_rise.ensures
