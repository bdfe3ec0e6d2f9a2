use Rattle.std.proofs.Common.{drop}
use Rattle.acn_world.specs.Chained.{constraints_view}
use Rattle.acn_world.specs.Viewed.{world_view}
use Rattle.acn_constraint.specs.Readings.{reading_of}
use Rattle.acn_constraint.proofs.Serial.{InSeries}
use Rattle.acn_constraint.proofs.along.met.Given as goal

abbrev pub invariant-loop-constraint : goal.invariant-loop-constraint
invariant-loop-constraint l = InSeries (world_view l.world) (reading_of l.reading) (constraints_view (drop l.constraint-index l.constraints)) (constraints_view l.constraints) l.fn.before l.standing
