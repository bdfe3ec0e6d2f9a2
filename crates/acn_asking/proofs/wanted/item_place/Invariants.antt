use Rattle.std.proofs.Common.{◌≡◌, ◌+◌, ◌≤◌, drop}
use Rattle.acn_grammar.specs.Asks.{index_of, same_name}
use Rattle.acn_asking.proofs.wanted.item_place.Given as goal

abbrev pub invariant-loop-item : goal.invariant-loop-item
invariant-loop-item l = record {
  few : l.place ≤ l.item-index;
  same : l.place + index_of (same_name l.name) (drop l.item-index l.items) ≡ index_of (same_name l.name) l.items;
}
