use Rattle.std.proofs.Common.{sym, ◌∙◌}
use Rattle.acn_asn_syntax.proofs.Views.{view_Set, view_Size, view_Containing}
use Rattle.acn_set_elements.proofs.Bases.{at_constraint}
use Rattle.acn_world.specs.Viewed.{world_view}
use Rattle.acn_constraint.specs.Constraints.{low_among, values_of}
use Rattle.acn_constraint.proofs.along.constraint_low.Goals as goal

pub returns-in-Set : goal.returns-in-Set
returns-in-Set c = c.set_low.ensures ∙ sym (at_constraint (λ d. low_among (world_view c.args.at.world.now) c.args.at.names.now c.args.at.owner (values_of d)) c.in-Set.is (view_Set _))

pub returns-in-Size : goal.returns-in-Size
returns-in-Size c = c.set_low-in-Size.ensures ∙ sym (at_constraint (λ d. low_among (world_view c.args.at.world.now) c.args.at.names.now c.args.at.owner (values_of d)) c.in-Size.is (view_Size _))

pub returns-in-Containing : goal.returns-in-Containing
returns-in-Containing c = sym (at_constraint (λ d. low_among (world_view c.args.at.world.now) c.args.at.names.now c.args.at.owner (values_of d)) c.in-Containing.is (view_Containing _))
