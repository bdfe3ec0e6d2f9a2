use Rattle.std.proofs.Common.{◌≡◌, Some, map, take}
use Rattle.std.specs.Prelude.{All}
use Rattle.acn_index.specs.World.{IsType}
use Rattle.acn_words.specs.View.{type_view}
use Rattle.acn_world.specs.Viewed.{world_view}
use Rattle.acn_commands.specs.Asked.{types_named}
use Rattle.acn_commands.proofs.grammars.types_of.Given as goal

abbrev pub invariant-loop-of : goal.invariant-loop-of
invariant-loop-of l = (types_named (world_view l.world) (map type_view (take l.of-index l.names)) ≡ Some l.types.items) × All (IsType (world_view l.world)) l.types.items
