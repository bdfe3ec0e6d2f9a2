use Rattle.std.proofs.Common.{◌≡◌, [], drop, map}
use Rattle.acn_firsts.specs.Placed.{noted_all}
use Rattle.acn_check.proofs.choices.item_names.Given as goal

abbrev pub invariant-loop-item : goal.invariant-loop-item
invariant-loop-item l = noted_all l.names (map (λ item. (item.0, 0)) (drop l.item-index l.items)) ≡ noted_all [] (map (λ item. (item.0, 0)) l.items)
