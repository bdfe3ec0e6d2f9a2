use Rattle.std.proofs.Common.{◌≡◌}
use Rattle.acn_index.specs.World.{map_tables}
use Rattle.acn_names.proofs.gathering.gather_tables.Given as goal

abbrev pub invariant-loop-file : goal.invariant-loop-file
invariant-loop-file l = l.all.items ≡ map_tables l.yielded
