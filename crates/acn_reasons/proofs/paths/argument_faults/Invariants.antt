use Rattle.std.proofs.Common.{◌≡◌, drop, None}
use Rattle.std.specs.List.{enumerate_from}
use Rattle.acn_world.specs.Viewed.{world_view}
use Rattle.acn_sites.specs.Places.{earliest_from}
use Rattle.acn_sites.specs.View.{site_view}
use Rattle.acn_reasons.specs.Paths.{argument_fault}
use Rattle.acn_reasons.proofs.paths.argument_faults.Given as goal

abbrev pub invariant-loop-i : goal.invariant-loop-i
invariant-loop-i l = earliest_from (argument_fault (world_view l.world) (site_view l.site)) l.best (enumerate_from l.i (drop l.i l.arguments)) ≡ earliest_from (argument_fault (world_view l.world) (site_view l.site)) None (enumerate_from 0 l.arguments)
