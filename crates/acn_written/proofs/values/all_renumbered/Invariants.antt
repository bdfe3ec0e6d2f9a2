use Rattle.std.proofs.Common.{◌≡◌, ◌++◌, drop, map}
use Rattle.std.specs.Prelude.{filter_map}
use Rattle.acn_written.specs.Numbers.{renumbered}
use Rattle.acn_written.specs.View.{numbered_view}
use Rattle.acn_written.proofs.values.all_renumbered.Given as goal

abbrev pub invariant-loop-item : goal.invariant-loop-item
invariant-loop-item l = map numbered_view l.all.items ++ filter_map (renumbered (map numbered_view l.given)) (drop l.item-index l.items) ≡ filter_map (renumbered (map numbered_view l.given)) l.items
