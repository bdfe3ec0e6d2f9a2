use Rattle.std.proofs.Common.{◌≡◌, ◌^◌, ◌<◌, ◌≤◌, drop}
use Rattle.std.specs.List.{flat_map}
use Rattle.acn_grammar.specs.Images.{clipped}
use Rattle.acn_grammar.specs.Interval.{hull, lengths_of}
use Rattle.acn_leaf.proofs.lengths.with_images.Given as goal

abbrev pub invariant-loop-range : goal.invariant-loop-range
invariant-loop-range l = record {
  least : l.bounds.least ≤ 2 ^ 40;
  greatest : l.bounds.greatest < 2 ^ 32;
  same : hull l.bounds (lengths_of l.coding (flat_map (λ r. flat_map (clipped r) l.lines) (drop l.range-index l.ranges))) ≡ hull l.fn.all (lengths_of l.coding (flat_map (λ r. flat_map (clipped r) l.lines) l.ranges));
}
