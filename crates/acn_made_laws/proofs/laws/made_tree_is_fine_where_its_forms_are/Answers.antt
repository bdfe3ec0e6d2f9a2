use Rattle.acn_made_laws.proofs.Made.{whole_there}
use Rattle.acn_made_laws.proofs.laws.made_tree_is_fine_where_its_forms_are.Goals as goal

pub returns : goal.returns
returns c = λ w of s sound fit formed. whole_there w of s sound c.named_fields_are_numbered.ensures c.nodes_rise.ensures c.slot_rules_hold.ensures fit formed
