use Rattle.std.proofs.Common.{◌≡◌, ◌+◌, ◌-◌, ◌≤◌, not}
use Rattle.std.specs.Prelude.{count_by}
use Rattle.std.specs.List.{range_with_len}
use Rattle.acn_grammar.specs.Length.{least_signed_octets, fits_octets}
use Rattle.acn_leaf.proofs.lengths.least_signed_octets.Given as goal

abbrev pub invariant-loop-octets : goal.invariant-loop-octets
invariant-loop-octets l = record {
  small : l.count ≤ l.octets;
  total : l.count + count_by (λ i. not (fits_octets l.y i)) (range_with_len l.octets (8 - l.octets)) ≡ least_signed_octets l.y;
}
