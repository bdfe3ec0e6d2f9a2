use Rattle.acn_made_laws.proofs.Made.{rules_there}
use Rattle.acn_made_laws.proofs.laws.made_slot_rules_hold.Goals as goal

pub returns : goal.returns
returns c = λ w of s sound. rules_there w of s sound c.named_fields_are_numbered.ensures c.nodes_rise.ensures c.slot_rules_hold.ensures
