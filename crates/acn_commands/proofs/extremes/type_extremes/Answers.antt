use Rattle.acn_words.specs.View.{type_view}
use Rattle.acn_world.specs.Viewed.{world_view}
use Rattle.acn_commands.proofs.Telling.{extremes_serve}
use Rattle.acn_commands.proofs.extremes.type_extremes.Goals as goal

pub returns-in-Ok : goal.returns-in-Ok
returns-in-Ok g c = λ names. extremes_serve (type_view c.args.of.now) names (world_view c.args.world.now) c.in-Ok.checked.tree c.in-Ok.ensures.grammars _ _ _ _ _ c.ends_of.result c.in-Ok.ensures.silent c.ends_of.ensures
