use Rattle.std.proofs.Common.{◌≡◌, drop, ◌++◌}
use Rattle.std.specs.Prelude.{map, filter_map}
use Rattle.acn_index.specs.Views.{index_view}
use Rattle.acn_index.specs.Linked.{link_view}
use Rattle.acn_world.specs.Chained.{entries_view}
use Rattle.acn_index.specs.Chains.{link_entry}
use Rattle.acn_world.proofs.chains.entries_along.Given as goal

abbrev pub invariant-loop-link : goal.invariant-loop-link
invariant-loop-link l = entries_view l.all ++ filter_map (link_entry (index_view l.index)) (map link_view (drop l.link-index l.along)) ≡ filter_map (link_entry (index_view l.index)) (map link_view l.along)
