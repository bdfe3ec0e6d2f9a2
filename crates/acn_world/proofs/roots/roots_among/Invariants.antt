use Rattle.std.proofs.Common.{◌≡◌, drop, ◌++◌, filter}
use Rattle.acn_index.specs.Views.{index_view}
use Rattle.acn_world.specs.Faults.{is_root}
use Rattle.acn_world.proofs.roots.roots_among.Given as goal

abbrev pub invariant-loop-place : goal.invariant-loop-place
invariant-loop-place l = l.all.items ++ filter (is_root (index_view l.index)) (drop l.place-index l.places) ≡ filter (is_root (index_view l.index)) l.places
