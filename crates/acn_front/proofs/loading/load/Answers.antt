use Rattle.acn_world.specs.Viewed.{world_view}
use Rattle.acn_front.proofs.OfSources.{world_of_sources}
use Rattle.acn_front.proofs.loading.load.Goals as goal

pub returns-in-Ok-resolve-clause-of_sources : goal.returns-in-Ok-resolve-clause-of_sources
returns-in-Ok-resolve-clause-of_sources c =
    world_of_sources c.args.files.now c.in-Ok.sources (world_view c.in-Ok-resolve.world) c.sources_of_files_are_proper.ensures c.proper_sources_give_a_world.ensures c.in-Ok.ensures.sources c.in-Ok-resolve.ensures.world c.in-Ok-resolve.ensures.sound
