use Rattle.std.proofs.Common.{◌≡◌, None, drop}
use Rattle.acn_num.specs.Ranges.{In}
use Rattle.acn_grammar.specs.Interval.{origin}
use Rattle.acn_extreme_numbers.specs.Tries.{tried_by}
use Rattle.acn_extreme_numbers.specs.Picked.{AreParts, picked}
use Rattle.acn_extreme_numbers.proofs.numbers.with_ranges.Given as goal

abbrev pub invariant-loop-range : goal.invariant-loop-range
invariant-loop-range l = record {
  permitted : In l.leaf.set l.so_far.number;
  parts : AreParts l.leaf.set (drop l.range-index l.ranges);
  number : picked l.leaf l.side l.so_far.number (tried_by (origin l.leaf.coding) None (drop l.range-index l.ranges)) ≡ picked l.leaf l.side l.fn.best.number (tried_by (origin l.leaf.coding) None l.ranges);
}
