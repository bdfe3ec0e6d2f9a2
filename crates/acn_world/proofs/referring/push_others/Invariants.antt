use Rattle.std.proofs.Common.{◌≡◌, drop, ◌++◌, filter, not}
use Rattle.acn_index.specs.World.{is_same}
use Rattle.acn_world.proofs.referring.push_others.Given as goal

abbrev pub invariant-loop-place : goal.invariant-loop-place
invariant-loop-place l = l.all.items ++ filter (λ q. not (is_same l.from q)) (drop l.place-index l.places) ≡ l.fn.all.items ++ filter (λ q. not (is_same l.from q)) l.places
