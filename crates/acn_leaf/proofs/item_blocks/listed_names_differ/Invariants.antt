use Rattle.std.proofs.Common.{◌≡◌, ◌+◌, ◌++◌, drop, map, length}
use Rattle.acn_leaf.proofs.item_blocks.listed_names_differ.Given as goal

abbrev pub invariant-loop-item : goal.invariant-loop-item
invariant-loop-item t l = record {
  whole : map (λ name. name.now) l.names.items ++ map (λ item. item.0) (drop l.item-index l.front) ≡ map (λ item. item.0) l.front;
  few : length l.names.items ≡ l.item-index;
}

abbrev pub invariant-loop-item-2 : goal.invariant-loop-item-2
invariant-loop-item-2 t l = record {
  whole : map (λ name. name.now) l.names.items ++ map (λ item. item.0) (drop l.item-index l.behind) ≡ map (λ item. item.0) l.front ++ map (λ item. item.0) l.behind;
  few : length l.names.items ≡ length l.front + l.item-index;
}
