use Rattle.std.proofs.Common.{◌≡◌, None, drop, map}
use Rattle.acn_written.specs.Numbers.{least_behind}
use Rattle.acn_written.specs.View.{numbered_view}
use Rattle.acn_written.proofs.values.least_of.Given as goal

abbrev pub invariant-loop-item : goal.invariant-loop-item
invariant-loop-item l = least_behind l.least (map numbered_view (drop l.item-index l.items)) ≡ least_behind None (map numbered_view l.items)
