use Rattle.std.proofs.Common.{◌≡◌, ◌+◌, ◌-◌, ◌^◌, ◌≤◌}
use Rattle.std.specs.Prelude.{count_by, nat_le}
use Rattle.std.specs.List.{range_with_len}
use Rattle.acn_grammar.specs.Length.{digit_count}
use Rattle.acn_leaf.proofs.lengths.digit_count.Given as goal

abbrev pub invariant-loop-digits : goal.invariant-loop-digits
invariant-loop-digits l = record {
  small : l.count ≤ l.digits;
  total : l.count + count_by (λ i. nat_le (10 ^ i) l.k) (range_with_len l.digits (20 - l.digits)) ≡ digit_count l.k;
}
