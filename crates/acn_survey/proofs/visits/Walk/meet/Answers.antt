use Rattle.std.proofs.Common.{ap, sym, Some, Ok, option_map, ◌∙◌}
use Rattle.acn_sites.specs.View.{site_view}
use Rattle.acn_survey.specs.View.{noted_of, reason_of}
use Rattle.acn_world.specs.Viewed.{world_view}
use Rattle.acn_survey.proofs.Noting.{gone}
use Rattle.acn_survey.proofs.visits.Walk.meet.Goals as goal

pub returns-in_ok-note-in-None : goal.returns-in_ok-note-in-None
returns-in_ok-note-in-None c = ap Some (ap Ok (c.in_ok-note-in-None.ensures c.args.text.now) ∙ gone (world_view c.args.world.now) (noted_of c.args.self.now) c.args.text.now (site_view c.args.site.now)
    (ap (option_map reason_of) (sym c.in-None.is) ∙ c.in_ok-reason.ensures))
