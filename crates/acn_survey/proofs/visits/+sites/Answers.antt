use Rattle.std.proofs.Common.{arith, ap, sym, ◌∙◌, ◌-◌, Some}
use Rattle.std.specs.Prelude.{flat_map}
use Rattle.acn_sites.specs.Sites.{sites}
use Rattle.acn_survey.specs.Seen.{surveyed}
use Rattle.acn_sites.specs.View.{site_view, sites_view}
use Rattle.acn_survey.specs.View.{noted_of}
use Rattle.acn_world.specs.Viewed.{world_view}
use Rattle.acn_survey.proofs.Joined.{stops_site, passes_site, stops_among, goes_among, ends_among}
use Rattle.acn_survey.proofs.visits.+sites.Goals as goal

pub visit-returns-in-Some : goal.visit-returns-in-Some
visit-returns-in-Some t c = stops_site (world_view c.args.world.now) (noted_of c.args.walk.now) (noted_of c.meet.new.self) c.args.depth c.args.above.now c.as_slice.result.now (site_view c.args.site.now) _ c.in-Some.refused
    c.in-Some.is (c.as_slice.ensures.value ∙ c.in_ok-text.ensures) c.in_ok-refused.ensures

pub visit-returns : goal.visit-returns
visit-returns t c = passes_site (world_view c.args.world.now) (noted_of c.args.walk.now) (noted_of c.meet.new.self) (noted_of c.visit_all.new.walk) c.args.depth c.args.above.now c.as_slice.result.now (site_view c.args.site.now) _ c.in_ok-told.told (sites_view c.items.result.now)
    c.in-None.is (c.as_slice.ensures.value ∙ c.in_ok-text.ensures) (ap sites_view c.items.ensures ∙ c.in_ok-below.ensures) (omega (arith, c.if-depth-eq0.false)) c.in_ok-refused.ensures
    (c.in_ok-told.ensures ∙ ap (λ t. Some (surveyed (world_view c.args.world.now) (noted_of c.meet.new.self) (flat_map (sites (c.args.depth - 1) (world_view c.args.world.now) t) (sites_view c.items.result.now)))) (c.as_slice-2.ensures.value ∙ sym c.as_slice.ensures.value))

pub visit_all-returns-in-Some : goal.visit_all-returns-in-Some
visit_all-returns-in-Some t c = stops_among (world_view c.args.world.now) (noted_of c.args.walk.now) (noted_of c.loop-site.walk) (noted_of c.visit.new.walk) c.args.depth c.args.above.now c.args.below.now c.loop-site.site-index c.site-item.result _ c.in-Some.refused
    c.loop-site-test.true c.site-item.is c.loop-site.invariant c.in-Some.is c.in_ok-refused.ensures

pub visit_all-loop-site-preserved : goal.visit_all-loop-site-preserved
visit_all-loop-site-preserved t c = goes_among (world_view c.args.world.now) (noted_of c.args.walk.now) (noted_of c.loop-site.walk) (noted_of c.visit.new.walk) c.args.depth c.args.above.now c.args.below.now c.loop-site.site-index c.site-item.result _
    c.loop-site-test.true c.site-item.is c.loop-site.invariant c.in-None.is c.in_ok-refused.ensures

pub visit_all-returns : goal.visit_all-returns
visit_all-returns t c = ends_among (world_view c.args.world.now) (noted_of c.args.walk.now) (noted_of c.loop-site.walk) c.args.depth c.args.above.now c.args.below.now c.loop-site.site-index (omega (arith, c.loop-site-test.false)) c.loop-site.invariant
