use Rattle.std.proofs.Common.{◌≡◌, drop}
use Rattle.std.specs.Prelude.{flat_map}
use Rattle.acn_world.specs.Chained.{constraints_view}
use Rattle.acn_world.specs.Viewed.{world_view}
use Rattle.acn_constraint.specs.Constraints.{first, low_numbers}
use Rattle.acn_constraint.proofs.along.first_low.Given as goal

abbrev pub invariant-loop-constraint : goal.invariant-loop-constraint
invariant-loop-constraint l = first (flat_map (low_numbers (world_view l.world) l.names) (constraints_view (drop l.constraint-index l.constraints))) ≡ first (flat_map (low_numbers (world_view l.world) l.names) (constraints_view l.constraints))
