use Rattle.std.proofs.Common.{◌≡◌, ◌++◌, drop, map}
use Rattle.acn_leaves.specs.Ordered.{Ranked}
use Rattle.acn_leaves.specs.View.{ranked_view}
use Rattle.acn_leaves.proofs.items.copied.Given as goal

abbrev pub invariant-loop-one : goal.invariant-loop-one
invariant-loop-one l = l.items ++ map (λ (r : Ranked). r.1) (map ranked_view (drop l.one-index l.all)) ≡ map (λ (r : Ranked). r.1) (map ranked_view l.all)
