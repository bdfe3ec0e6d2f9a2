use Rattle.acn_asn_syntax.specs.View.{constraint_view}
use Rattle.acn_world.specs.Viewed.{world_view}
use Rattle.acn_constraint.specs.Readings.{reading_of}
use Rattle.acn_constraint.proofs.Serial.{turn_answered}
use Rattle.acn_constraint.proofs.standing.narrowed.Goals as goal

pub returns : goal.returns
returns c =
    turn_answered (world_view c.args.place.world.now) (reading_of c.args.place.reading) (c.args.place.owner, constraint_view c.args.constraint.now) c.args.standing c.in_ok-ready.ready c.in_ok-stood.stood c.in_ok-left-2.left c.kept.result
    (c.in_ok-ready.ensures {u = tt}) (c.in_ok-stood.ensures {u = tt}) (c.in_ok-left-2.ensures {u = tt}) c.kept.ensures
