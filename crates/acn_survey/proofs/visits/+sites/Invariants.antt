-- A visit goes to the sites below, which are one level less deep.
use Rattle.std.proofs.Common.{◌≡◌, ◌+◌, ◌*◌, drop}
use Rattle.std.specs.Prelude.{flat_map}
use Rattle.acn_sites.specs.Sites.{sites}
use Rattle.acn_sites.specs.View.{sites_view}
use Rattle.acn_survey.specs.Seen.{surveyed}
use Rattle.acn_survey.specs.View.{noted_of}
use Rattle.acn_world.specs.Viewed.{world_view}
use Rattle.acn_survey.proofs.visits.+sites.Given as goal

abbrev pub decreases-visit : goal.decreases-visit
decreases-visit l = 2 * l.depth

abbrev pub decreases-visit_all : goal.decreases-visit_all
decreases-visit_all l = 2 * l.depth + 1

abbrev pub invariant-visit_all-loop-site : goal.invariant-visit_all-loop-site
invariant-visit_all-loop-site l = surveyed (world_view l.world) (noted_of l.walk) (flat_map (sites l.depth (world_view l.world) l.above) (sites_view (drop l.site-index l.below)))
    ≡ surveyed (world_view l.world) (noted_of l.fn.walk) (flat_map (sites l.depth (world_view l.world) l.above) (sites_view l.below))
