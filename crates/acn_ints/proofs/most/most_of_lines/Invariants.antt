use Rattle.std.proofs.Common.{◌≡◌, ◌≤◌, drop, max}
use Rattle.std.specs.List.{flat_map}
use Rattle.acn_grammar.specs.Images.{clipped}
use Rattle.acn_grammar.specs.LeafFails.{most_digits}
use Rattle.acn_ints.proofs.most.most_of_lines.Given as goal

abbrev pub invariant-loop-line : goal.invariant-loop-line
invariant-loop-line l = record {
  value : max l.greatest (most_digits (flat_map (clipped l.range) (drop l.line-index l.lines))) ≡ max l.most (most_digits (flat_map (clipped l.range) l.lines));
  some : 1 ≤ l.greatest;
  few : l.greatest ≤ 20;
}
