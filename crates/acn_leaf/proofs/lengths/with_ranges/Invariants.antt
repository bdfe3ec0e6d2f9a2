use Rattle.std.proofs.Common.{◌≡◌, ◌^◌, ◌<◌, ◌≤◌, drop}
use Rattle.acn_grammar.specs.Interval.{hull, lengths_of}
use Rattle.acn_leaf.proofs.lengths.with_ranges.Given as goal

abbrev pub invariant-loop-range : goal.invariant-loop-range
invariant-loop-range l = record {
  least : l.bounds.least ≤ 2 ^ 40;
  greatest : l.bounds.greatest < 2 ^ 32;
  same : hull l.bounds (lengths_of l.coding (drop l.range-index l.ranges)) ≡ hull l.fn.all (lengths_of l.coding (l.ranges));
}
