use Rattle.std.proofs.Common.{◌≡◌, drop}
use Rattle.std.specs.List.{zip, list_all}
use Rattle.acn_world.specs.Viewed.{world_view}
use Rattle.acn_sites.specs.View.{site_view}
use Rattle.acn_reasons.specs.Arguments.{argument_fits}
use Rattle.acn_reasons.proofs.arguments.kinds_fit.Given as goal

abbrev pub invariant-loop-i : goal.invariant-loop-i
invariant-loop-i l = list_all (argument_fits (world_view l.world) (site_view l.site) l.reader) (zip (drop l.i l.parameters) (drop l.i l.arguments)) ≡ list_all (argument_fits (world_view l.world) (site_view l.site) l.reader) (zip l.parameters l.arguments)
