use Rattle.std.proofs.Common.{◌≡◌, ◌≤◌, drop, max}
use Rattle.acn_grammar.specs.LeafFails.{most_digits}
use Rattle.acn_ints.proofs.most.most_in.Given as goal

abbrev pub invariant-loop-range : goal.invariant-loop-range
invariant-loop-range l = record {
  value : max l.most (most_digits (drop l.range-index l.ranges)) ≡ most_digits l.ranges;
  some : 1 ≤ l.most;
  few : l.most ≤ 20;
}
