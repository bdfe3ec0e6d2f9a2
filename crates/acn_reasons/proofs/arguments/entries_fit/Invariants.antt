use Rattle.std.proofs.Common.{◌≡◌, drop}
use Rattle.std.specs.List.{list_all}
use Rattle.acn_world.specs.Chained.{entries_view}
use Rattle.acn_world.specs.Viewed.{world_view}
use Rattle.acn_sites.specs.View.{site_view}
use Rattle.acn_reasons.specs.Arguments.{entry_fits}
use Rattle.acn_reasons.proofs.arguments.entries_fit.Given as goal

abbrev pub invariant-loop-entry : goal.invariant-loop-entry
invariant-loop-entry l = list_all (entry_fits (world_view l.world) (site_view l.site)) (entries_view (drop l.entry-index l.entries)) ≡ list_all (entry_fits (world_view l.world) (site_view l.site)) (entries_view l.entries)
