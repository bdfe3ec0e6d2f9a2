use Rattle.std.proofs.Common.{ap, sym, ◌∙◌, Some, []}
use Rattle.acn_sites.specs.Sites.{sites, sites_of}
use Rattle.acn_sites.specs.View.{site_view}
use Rattle.acn_survey.specs.Seen.{Noted, surveyed}
use Rattle.acn_survey.specs.View.{noted_of, answer, fault_of_site}
use Rattle.acn_world.specs.Viewed.{world_view}
use Rattle.acn_survey.proofs.Joined.{all_sites, fault_of_walk, walk_has_fault, end_of_walk}
use Rattle.acn_survey.proofs.visits.survey.Goals as goal

abbrev start : Noted
start = record { next = 1; fields = []; uses = [] }

pub returns-in-Some-clause-fault : goal.returns-in-Some-clause-fault
returns-in-Some-clause-fault c =
    let all = all_sites (world_view c.args.world.now) c.args.of (site_view c.in_ok-site.site) c.in_ok-site.ensures in
    let stopped = ap (λ t. answer t (noted_of c.visit.new.walk)) (sym c.in-Some.is) ∙ (c.in_ok-refused.ensures ∙ (ap (λ n. Some (surveyed (world_view c.args.world.now) n (sites 65 (world_view c.args.world.now) [] (site_view c.in_ok-site.site)))) c.new-walk.ensures ∙ ap (λ ps. Some (surveyed (world_view c.args.world.now) start ps)) (sym all))) in (
      walk_has_fault (world_view c.args.world.now) start (sites_of (world_view c.args.world.now) c.args.of) (fault_of_site c.in-Some.refused) stopped,
      fault_of_walk (world_view c.args.world.now) start (sites_of (world_view c.args.world.now) c.args.of) (fault_of_site c.in-Some.refused) stopped,
    )

pub returns-clause-none : goal.returns-clause-none
returns-clause-none c =
    let all = all_sites (world_view c.args.world.now) c.args.of (site_view c.in_ok-site.site) c.in_ok-site.ensures in
    (end_of_walk (world_view c.args.world.now) start (noted_of c.visit.new.walk) (sites_of (world_view c.args.world.now) c.args.of)
    (ap (λ t. answer t (noted_of c.visit.new.walk)) (sym c.in-None.is) ∙ (c.in_ok-refused.ensures ∙ (ap (λ n. Some (surveyed (world_view c.args.world.now) n (sites 65 (world_view c.args.world.now) [] (site_view c.in_ok-site.site)))) c.new-walk.ensures ∙ ap (λ ps. Some (surveyed (world_view c.args.world.now) start ps)) (sym all))))).0

pub returns-clause-fields : goal.returns-clause-fields
returns-clause-fields c =
    let all = all_sites (world_view c.args.world.now) c.args.of (site_view c.in_ok-site.site) c.in_ok-site.ensures in
    ap (λ (n : Noted). n.fields) (end_of_walk (world_view c.args.world.now) start (noted_of c.visit.new.walk) (sites_of (world_view c.args.world.now) c.args.of)
    (ap (λ t. answer t (noted_of c.visit.new.walk)) (sym c.in-None.is) ∙ (c.in_ok-refused.ensures ∙ (ap (λ n. Some (surveyed (world_view c.args.world.now) n (sites 65 (world_view c.args.world.now) [] (site_view c.in_ok-site.site)))) c.new-walk.ensures ∙ ap (λ ps. Some (surveyed (world_view c.args.world.now) start ps)) (sym all))))).1

pub returns-clause-uses : goal.returns-clause-uses
returns-clause-uses c =
    let all = all_sites (world_view c.args.world.now) c.args.of (site_view c.in_ok-site.site) c.in_ok-site.ensures in
    ap (λ (n : Noted). n.uses) (end_of_walk (world_view c.args.world.now) start (noted_of c.visit.new.walk) (sites_of (world_view c.args.world.now) c.args.of)
    (ap (λ t. answer t (noted_of c.visit.new.walk)) (sym c.in-None.is) ∙ (c.in_ok-refused.ensures ∙ (ap (λ n. Some (surveyed (world_view c.args.world.now) n (sites 65 (world_view c.args.world.now) [] (site_view c.in_ok-site.site)))) c.new-walk.ensures ∙ ap (λ ps. Some (surveyed (world_view c.args.world.now) start ps)) (sym all))))).1
