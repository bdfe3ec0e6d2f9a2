use Rattle.std.proofs.Common.{◌≡◌, drop}
use Rattle.std.specs.Prelude.{map}
use Rattle.acn_num.specs.Ranges.{In}
use Rattle.acn_extreme_numbers.specs.Tries.{least_of}
use Rattle.acn_extreme_numbers.proofs.numbers.with_lows.Given as goal

abbrev pub invariant-loop-range : goal.invariant-loop-range
invariant-loop-range l = record {
  permitted : In l.leaf.set l.so_far.number;
  number : least_of l.leaf l.so_far.number (map (λ r. r.0) (drop l.range-index l.ranges)) ≡ least_of l.leaf l.fn.best.number (map (λ r. r.0) l.ranges);
}
