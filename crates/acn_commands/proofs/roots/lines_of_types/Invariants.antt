use Rattle.std.proofs.Common.{take}
use Rattle.acn_world.specs.Viewed.{world_view}
use Rattle.acn_commands.specs.Roots.{AreLinesOf}
use Rattle.acn_commands.proofs.roots.lines_of_types.Given as goal

abbrev pub invariant-loop-of : goal.invariant-loop-of
invariant-loop-of l = AreLinesOf (world_view l.world) (take l.of-index l.types) l.line l.out.text.items
