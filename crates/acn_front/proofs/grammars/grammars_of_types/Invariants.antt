use Rattle.std.proofs.Common.{map, take}
use Rattle.acn_front.specs.Grammars.{AreGrammarsOf}
use Rattle.acn_world.specs.Viewed.{world_view}
use Rattle.acn_front.proofs.grammars.grammars_of_types.Given as goal

abbrev pub invariant-loop-of : goal.invariant-loop-of
invariant-loop-of l = AreGrammarsOf (world_view l.world) (take l.of-index l.types) (map (λ c. c.tree) l.all.items)
