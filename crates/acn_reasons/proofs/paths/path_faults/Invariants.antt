use Rattle.std.proofs.Common.{◌≡◌, drop}
use Rattle.std.specs.List.{enumerate_from}
use Rattle.acn_world.specs.Viewed.{world_view}
use Rattle.acn_sites.specs.Places.{earliest_from}
use Rattle.acn_slots.specs.View.{scope_view}
use Rattle.acn_reasons.specs.Named.{paths_view}
use Rattle.acn_reasons.specs.Paths.{path_fault}
use Rattle.acn_reasons.proofs.paths.path_faults.Given as goal

abbrev pub invariant-loop-i : goal.invariant-loop-i
invariant-loop-i l = earliest_from (path_fault (world_view l.world) l.at (scope_view l.scope)) l.best (enumerate_from l.i (paths_view (drop l.i l.paths))) ≡ earliest_from (path_fault (world_view l.world) l.at (scope_view l.scope)) l.fn.before (enumerate_from 0 (paths_view l.paths))
