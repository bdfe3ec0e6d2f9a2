use Rattle.std.proofs.Common.{◌≡◌, drop, ◌++◌}
use Rattle.acn_index.specs.Views.{index_view}
use Rattle.acn_world.specs.Faults.{names_at}
use Rattle.acn_names.proofs.resolving.names_at.Given as goal

abbrev pub invariant-loop-place : goal.invariant-loop-place
invariant-loop-place l = l.names.items ++ names_at (index_view l.index) (drop l.place-index l.way) ≡ names_at (index_view l.index) l.way
