use Rattle.acn_sites.specs.View.{site_view}
use Rattle.acn_survey.specs.View.{noted_of}
use Rattle.acn_world.specs.Viewed.{world_view}
use Rattle.acn_survey.proofs.Joined.{one_noted}
use Rattle.acn_survey.proofs.visits.Walk.note.Goals as goal

pub returns : goal.returns
returns c = λ text. one_noted (world_view c.args.world.now) (noted_of c.args.self.now) text (site_view c.args.site.now) _ _ c.in_ok-push_field.ensures c.in_ok-push_site.ensures
