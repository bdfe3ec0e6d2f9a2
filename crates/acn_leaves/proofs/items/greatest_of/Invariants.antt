use Rattle.std.proofs.Common.{◌≡◌, None, drop, map}
use Rattle.acn_written.specs.View.{numbered_view}
use Rattle.acn_leaves.specs.Leaves.{greatest_behind}
use Rattle.acn_leaves.proofs.items.greatest_of.Given as goal

abbrev pub invariant-loop-item : goal.invariant-loop-item
invariant-loop-item l = greatest_behind l.greatest (map numbered_view (drop l.item-index l.items)) ≡ greatest_behind None (map numbered_view l.items)
