use Rattle.std.proofs.Common.{◌≡◌, ◌++◌, drop, map}
use Rattle.std.specs.List.{zip}
use Rattle.acn_written.specs.Items.{Numbered}
use Rattle.acn_written.specs.View.{numbered_view}
use Rattle.acn_leaves.specs.View.{ranked_view}
use Rattle.acn_leaves.proofs.items.joined.Given as goal

abbrev pub invariant-loop-i : goal.invariant-loop-i
invariant-loop-i l = map ranked_view l.all.items ++ zip (map (λ (i : Numbered). i.1) (map numbered_view (drop l.i l.numbers))) (map numbered_view (drop l.i l.values)) ≡ zip (map (λ (i : Numbered). i.1) (map numbered_view l.numbers)) (map numbered_view l.values)
