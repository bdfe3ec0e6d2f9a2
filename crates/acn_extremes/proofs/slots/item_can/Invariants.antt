use Rattle.std.proofs.Common.{◌≡◌, drop}
use Rattle.acn_extreme_laws.specs.Reach.{item_can}
use Rattle.acn_extremes.proofs.slots.item_can.Given as goal

abbrev pub invariant-loop-place : goal.invariant-loop-place
invariant-loop-place l = item_can l.set l.place (drop l.place l.items) l.name ≡ item_can l.set 0 l.items l.name
