use Rattle.std.proofs.Common.{◌≡◌, ◌≤◌, drop, max}
use Rattle.std.specs.List.{flat_map}
use Rattle.acn_grammar.specs.Images.{clipped}
use Rattle.acn_grammar.specs.LeafFails.{most_digits}
use Rattle.acn_ints.proofs.most.most_under.Given as goal

abbrev pub invariant-loop-range : goal.invariant-loop-range
invariant-loop-range l = record {
  value : max l.most (most_digits (flat_map (λ r. flat_map (clipped r) l.lines) (drop l.range-index l.ranges))) ≡ most_digits (flat_map (λ r. flat_map (clipped r) l.lines) l.ranges);
  some : 1 ≤ l.most;
  few : l.most ≤ 20;
}
