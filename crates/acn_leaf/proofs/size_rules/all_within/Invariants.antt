use Rattle.std.proofs.Common.{◌≡◌, drop}
use Rattle.acn_num.specs.Ranges.{all_within}
use Rattle.acn_leaf.proofs.size_rules.all_within.Given as goal

abbrev pub invariant-loop-range : goal.invariant-loop-range
invariant-loop-range l = all_within l.low l.high (drop l.range-index l.set) ≡ all_within l.low l.high l.fn.set
