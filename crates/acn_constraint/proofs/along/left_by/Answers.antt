use Rattle.std.proofs.Common.{ap, ◌∙◌}
use Rattle.acn_asn_syntax.specs.View.{constraint_view}
use Rattle.acn_world.specs.Viewed.{world_view}
use Rattle.acn_asn_syntax.proofs.Views.{view_Set, view_Size, view_Containing}
use Rattle.acn_constraint.specs.Constraints.{left_by}
use Rattle.acn_constraint.specs.Readings.{reading_of}
use Rattle.acn_constraint.proofs.Bases.{if_ok}
use Rattle.acn_constraint.proofs.along.left_by.Goals as goal

pub returns-in-Set : goal.returns-in-Set
returns-in-Set c = if_ok (λ d. left_by (world_view c.args.place.world.now) (reading_of c.args.place.reading) (c.args.place.owner, d) c.args.before.now) (λ s. s) _ (ap constraint_view c.in-Set.is ∙ view_Set _) c.left_by_set.ensures

pub returns-in-Size : goal.returns-in-Size
returns-in-Size c = if_ok (λ d. left_by (world_view c.args.place.world.now) (reading_of c.args.place.reading) (c.args.place.owner, d) c.args.before.now) (λ s. s) _ (ap constraint_view c.in-Size.is ∙ view_Size _) c.left_by_size.ensures

pub returns-in-Containing : goal.returns-in-Containing
returns-in-Containing c = if_ok (λ d. left_by (world_view c.args.place.world.now) (reading_of c.args.place.reading) (c.args.place.owner, d) c.args.before.now) (λ s. s) _ (ap constraint_view c.in-Containing.is ∙ view_Containing _) c.copy.ensures
