use Rattle.std.proofs.Common.{◌≡◌, ◌+◌, ◌-◌, ◌^◌, ◌≤◌}
use Rattle.std.specs.Prelude.{count_by, nat_le}
use Rattle.std.specs.List.{range_with_len}
use Rattle.acn_grammar.specs.Length.{least_octets}
use Rattle.acn_leaf.proofs.lengths.least_octets.Given as goal

abbrev pub invariant-loop-octets : goal.invariant-loop-octets
invariant-loop-octets l = record {
  small : l.count ≤ l.octets;
  total : l.count + count_by (λ i. nat_le (256 ^ i) l.k) (range_with_len l.octets (8 - l.octets)) ≡ least_octets l.k;
}
