use Rattle.std.proofs.Common.{◌≡◌, drop}
use Rattle.std.specs.List.{list_any}
use Rattle.acn_world.specs.Chained.{entries_view}
use Rattle.acn_index.specs.Chains.{gives_parameters}
use Rattle.acn_sites.proofs.site.has_parameters.Given as goal

abbrev pub invariant-loop-entry : goal.invariant-loop-entry
invariant-loop-entry l = list_any gives_parameters (entries_view (drop l.entry-index l.entry-items)) ≡ list_any gives_parameters (entries_view l.entry-items)
