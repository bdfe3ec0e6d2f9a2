use Rattle.std.proofs.Common.{◌≡◌, drop}
use Rattle.std.specs.Prelude.{pos}
use Rattle.std.specs.List.{flat_map}
use Rattle.acn_num.specs.Ranges.{In}
use Rattle.acn_extreme_numbers.specs.Tries.{tried_on}
use Rattle.acn_extreme_numbers.specs.Picked.{AreParts, picked}
use Rattle.acn_extreme_numbers.proofs.numbers.with_images.Given as goal

abbrev pub invariant-loop-range : goal.invariant-loop-range
invariant-loop-range l = record {
  permitted : In l.leaf.set l.so_far.number;
  parts : AreParts l.leaf.set (drop l.range-index l.ranges);
  number : picked l.leaf l.side l.so_far.number (flat_map (λ r. flat_map (tried_on (pos 0) r) l.lines) (drop l.range-index l.ranges)) ≡ picked l.leaf l.side l.fn.best.number (flat_map (λ r. flat_map (tried_on (pos 0) r) l.lines) l.ranges);
}
