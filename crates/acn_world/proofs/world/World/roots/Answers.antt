use Rattle.acn_world.specs.Viewed.{world_view}
use Rattle.acn_world.proofs.FoundTypes.{roots_are_types}
use Rattle.acn_world.proofs.world.World.roots.Goals as goal

pub returns-clause-of_types : goal.returns-clause-of_types
returns-clause-of_types c = roots_are_types (world_view c.args.self.now) c.roots_of.result c.roots_of.ensures
