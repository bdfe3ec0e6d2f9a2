use Rattle.std.proofs.Common.{◌≡◌, drop, map}
use Rattle.std.specs.List.{list_any}
use Rattle.acn_leads.specs.Begins.{hits}
use Rattle.acn_leads.proofs.begins.item_hit.Given as goal

abbrev pub invariant-loop-item : goal.invariant-loop-item
invariant-loop-item l = list_any (hits l.low l.bits l.wanted) (map (λ named. (named.1, named.1)) (drop l.item-index l.items.items)) ≡ list_any (hits l.low l.bits l.wanted) (map (λ named. (named.1, named.1)) l.fn.items.items)
