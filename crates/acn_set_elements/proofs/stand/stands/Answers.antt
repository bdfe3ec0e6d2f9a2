use Rattle.std.proofs.Common.{sym, ◌∙◌}
use Rattle.acn_asn_syntax.proofs.Views.{view_Set, view_Size, view_Containing}
use Rattle.acn_set_elements.proofs.Bases.{at_constraint}
use Rattle.acn_asn_syntax.specs.View.{base_view}
use Rattle.acn_world.specs.Viewed.{world_view}
use Rattle.acn_set_elements.specs.Stands.{stands}
use Rattle.acn_set_elements.proofs.stand.stands.Goals as goal

pub returns-in-Set : goal.returns-in-Set
returns-in-Set c = c.set_stands.ensures ∙ sym (at_constraint (λ d. stands (world_view c.args.world.now) c.args.owner (base_view c.args.base.now) d) c.in-Set.is (view_Set _))

pub returns-in-Size : goal.returns-in-Size
returns-in-Size c = c.size_stands.ensures ∙ sym (at_constraint (λ d. stands (world_view c.args.world.now) c.args.owner (base_view c.args.base.now) d) c.in-Size.is (view_Size _))

pub returns-in-Containing : goal.returns-in-Containing
returns-in-Containing c = c.is_octets.ensures ∙ sym (at_constraint (λ d. stands (world_view c.args.world.now) c.args.owner (base_view c.args.base.now) d) c.in-Containing.is (view_Containing _))
