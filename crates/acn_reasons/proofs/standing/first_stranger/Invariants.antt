use Rattle.std.proofs.Common.{◌≡◌, drop}
use Rattle.acn_sites.specs.Places.{earliest, earliest_from}
use Rattle.acn_sites.specs.View.{site_view}
use Rattle.acn_reasons.specs.Standing.{stranger}
use Rattle.acn_reasons.proofs.standing.first_stranger.Given as goal

abbrev pub invariant-loop-kind : goal.invariant-loop-kind
invariant-loop-kind l = earliest_from (stranger (site_view l.site)) l.best (drop l.kind-index l.kinds) ≡ earliest (stranger (site_view l.site)) l.kinds
