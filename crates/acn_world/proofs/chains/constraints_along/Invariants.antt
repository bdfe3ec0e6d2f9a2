use Rattle.std.proofs.Common.{◌≡◌, drop, ◌++◌}
use Rattle.std.specs.Prelude.{map, flat_map}
use Rattle.acn_index.specs.Linked.{link_view}
use Rattle.acn_world.specs.Chained.{constraints_view}
use Rattle.acn_index.specs.Chains.{link_constraints}
use Rattle.acn_world.proofs.chains.constraints_along.Given as goal

abbrev pub invariant-loop-link : goal.invariant-loop-link
invariant-loop-link l = constraints_view l.all ++ flat_map link_constraints (map link_view (drop l.link-index l.along)) ≡ flat_map link_constraints (map link_view l.along)
