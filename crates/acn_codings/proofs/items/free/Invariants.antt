use Rattle.std.proofs.Common.{◌≡◌, ◌++◌, drop}
use Rattle.std.specs.Prelude.{map}
use Rattle.acn_codings.specs.Items.{alone, written}
use Rattle.acn_codings.proofs.items.free.Given as goal

abbrev pub invariant-loop-item : goal.invariant-loop-item
invariant-loop-item l = l.used.items ++ map (λ i. alone (written i)) (drop l.item-index l.items) ≡ map (λ i. alone (written i)) l.items
