use Rattle.std.proofs.Common.{◌≡◌, drop, []}
use Rattle.acn_firsts.specs.Placed.{noted_all}
use Rattle.acn_reasons.specs.Named.{noted_items}
use Rattle.acn_reasons.proofs.braced.items_of.Given as goal

abbrev pub invariant-loop-item : goal.invariant-loop-item
invariant-loop-item l = noted_all l.firsts (noted_items (drop l.item-index l.items)) ≡ noted_all [] (noted_items l.items)
