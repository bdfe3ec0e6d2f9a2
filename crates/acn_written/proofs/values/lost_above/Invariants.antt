use Rattle.std.proofs.Common.{◌≡◌, ◌++◌, drop, map}
use Rattle.std.specs.Prelude.{filter, not}
use Rattle.acn_written.specs.Numbers.{is_value}
use Rattle.acn_written.specs.View.{numbered_view}
use Rattle.acn_written.proofs.values.lost_above.Given as goal

abbrev pub invariant-loop-item : goal.invariant-loop-item
invariant-loop-item l = map numbered_view l.all.items ++ filter (λ i. not (is_value l.coding l.low i.1)) (map numbered_view (drop l.item-index l.items)) ≡ filter (λ i. not (is_value l.coding l.low i.1)) (map numbered_view l.items)
