use Rattle.std.proofs.Common.{◌≡◌, ◌^◌, ◌<◌, ◌≤◌, drop, map}
use Rattle.acn_grammar.specs.Interval.{hull, lengths_of}
use Rattle.acn_leaf.proofs.CodeLengths.{alone}
use Rattle.acn_leaf.proofs.lengths.with_items.Given as goal

abbrev pub invariant-loop-item : goal.invariant-loop-item
invariant-loop-item l = record {
  least : l.bounds.least ≤ 2 ^ 40;
  greatest : l.bounds.greatest < 2 ^ 32;
  same : hull l.bounds (lengths_of l.coding (map alone (drop l.item-index l.items))) ≡ hull l.fn.all (lengths_of l.coding (map alone l.items));
}
