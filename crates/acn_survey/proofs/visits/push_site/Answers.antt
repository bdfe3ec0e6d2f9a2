use Rattle.acn_sites.specs.View.{site_view}
use Rattle.acn_world.specs.Viewed.{world_view}
use Rattle.acn_survey.proofs.Noting.{three_given}
use Rattle.acn_survey.proofs.visits.push_site.Goals as goal

pub returns : goal.returns
returns c = three_given (world_view c.args.world.now) (site_view c.args.site.now) _ _ _ _ _ _ _ c.nearest-size.ensures c.nearest-conditions.ensures c.nearest-determinant.ensures
    c.in_ok-push_given.ensures c.in_ok-push_given-2.ensures c.in_ok-push_given-3.ensures
