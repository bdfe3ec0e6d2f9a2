use Rattle.acn_world.specs.Chained.{constraints_view}
use Rattle.acn_world.specs.Viewed.{world_view}
use Rattle.acn_constraint.specs.Readings.{reading_of}
use Rattle.acn_constraint.proofs.Serial.{at_first, next_turn, no_more}
use Rattle.acn_constraint.proofs.along.met.Goals as goal

pub loop-constraint-init : goal.loop-constraint-init
loop-constraint-init c = at_first (world_view c.args.world.now) (reading_of c.args.reading) (constraints_view c.args.constraints.now) c.args.before c.all_of-standing.result c.all_of-standing.ensures

pub loop-constraint-preserved : goal.loop-constraint-preserved
loop-constraint-preserved c =
    next_turn (world_view c.args.world.now) (reading_of c.args.reading) c.args.constraints.now c.loop-constraint.constraint-index c.constraint-item.result (constraints_view c.args.constraints.now) c.args.before c.loop-constraint.standing _
    c.loop-constraint-test.true c.constraint-item.is c.loop-constraint.invariant (c.in_ok-standing.ensures {u = tt})

pub returns : goal.returns
returns c =
    no_more (world_view c.args.world.now) (reading_of c.args.reading) c.args.constraints.now c.loop-constraint.constraint-index (constraints_view c.args.constraints.now) c.args.before c.loop-constraint.standing c.gathered.result
    c.loop-constraint-test.false c.loop-constraint.invariant c.gathered.ensures
