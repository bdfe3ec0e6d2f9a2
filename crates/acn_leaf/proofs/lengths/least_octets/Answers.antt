use Rattle.std.proofs.Common.{◌^◌, arith}
use Rattle.std.specs.Prelude.{nat_le}
use Rattle.acn_leaf.proofs.CodeLengths.{counts-turn, counts-end}
use Rattle.acn_leaf.proofs.lengths.least_octets.Goals as goal

pub loop-octets-preserved : goal.loop-octets-preserved
loop-octets-preserved c = record {
  small = omega arith;
  total = rw (c.one_if-count.ensures.value, c.passes_octets.ensures) (counts-turn (λ i. nat_le (256 ^ i) c.args.k) c.loop-octets.octets 8 c.loop-octets.count _ (omega arith) c.loop-octets.invariant.total);
}

pub returns-clause-value : goal.returns-clause-value
returns-clause-value c = counts-end (λ i. nat_le (256 ^ i) c.args.k) c.loop-octets.octets 8 c.loop-octets.count _ (omega arith) c.loop-octets.invariant.total
