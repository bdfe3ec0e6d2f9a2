use Rattle.acn_made_laws.proofs.Made.{leaves_there}
use Rattle.acn_made_laws.proofs.laws.made_tree_is_fine_where_its_leaves_are.Goals as goal

pub returns : goal.returns
returns c = λ w of s sound fit differ leaves. leaves_there w of s sound c.named_fields_are_numbered.ensures c.nodes_rise.ensures c.nodes_inside_go_on.ensures c.slot_rules_hold.ensures fit differ leaves
