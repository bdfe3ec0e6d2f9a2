use Rattle.std.proofs.Common.{◌≡◌, ◌++◌, drop}
use Rattle.acn_codings.specs.Drawing.{numbers_drawn, undrawn_view}
use Rattle.acn_codings.proofs.items.numbers_drawn.Given as goal

abbrev pub invariant-loop-item : goal.invariant-loop-item
invariant-loop-item l = l.numbers ++ numbers_drawn (undrawn_view l.left) (drop l.item-index l.items) ≡ numbers_drawn l.unused l.items
