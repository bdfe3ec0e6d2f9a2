use Rattle.std.proofs.Common.{◌≡◌, drop, ◌++◌}
use Rattle.std.specs.Prelude.{flat_map}
use Rattle.acn_index.specs.Views.{index_view}
use Rattle.acn_world.specs.Faults.{refers_to}
use Rattle.acn_world.proofs.referring.push_referred.Given as goal

abbrev pub invariant-loop-place : goal.invariant-loop-place
invariant-loop-place l = l.all.items ++ flat_map (refers_to (index_view l.index)) (drop l.place-index l.places) ≡ l.fn.all.items ++ flat_map (refers_to (index_view l.index)) l.places
