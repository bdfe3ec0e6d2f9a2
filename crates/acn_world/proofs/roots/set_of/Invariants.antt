use Rattle.std.proofs.Common.{◌≡◌, drop, ◌||◌}
use Rattle.std.specs.List.{list_any}
use Rattle.std.specs.HashSet.{contains}
use Rattle.acn_index.specs.World.{is_same}
use Rattle.acn_index.specs.declared.sources.TypeId.{TypeId}
use Rattle.acn_world.proofs.roots.set_of.Given as goal

abbrev pub invariant-loop-place : goal.invariant-loop-place
invariant-loop-place l = (q : TypeId) → (contains is_same l.set q || list_any (is_same q) (drop l.place-index l.places)) ≡ list_any (is_same q) l.places
