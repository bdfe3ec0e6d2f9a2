use Rattle.std.proofs.Common.{◌≡◌, ◌+◌, ◌++◌, drop, map, length}
use Rattle.acn_leaf.proofs.item_blocks.listed_numbers_differ.Given as goal

abbrev pub invariant-loop-item : goal.invariant-loop-item
invariant-loop-item t l = record {
  whole : l.numbers.items ++ map (λ item. item.1) (drop l.item-index l.front) ≡ map (λ item. item.1) l.front;
  few : length l.numbers.items ≡ l.item-index;
}

abbrev pub invariant-loop-item-2 : goal.invariant-loop-item-2
invariant-loop-item-2 t l = record {
  whole : l.numbers.items ++ map (λ item. item.1) (drop l.item-index l.behind) ≡ map (λ item. item.1) l.front ++ map (λ item. item.1) l.behind;
  few : length l.numbers.items ≡ length l.front + l.item-index;
}
