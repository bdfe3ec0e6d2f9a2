use Rattle.std.proofs.Common.{not, arith}
use Rattle.acn_grammar.specs.Length.{fits_octets}
use Rattle.acn_leaf.proofs.CodeLengths.{counts-turn, counts-end}
use Rattle.acn_leaf.proofs.lengths.least_signed_octets.Goals as goal

pub loop-octets-preserved : goal.loop-octets-preserved
loop-octets-preserved c = record {
  small = omega arith;
  total = rw (c.one_if-count.ensures.value, c.fits_octets.ensures) (counts-turn (λ i. not (fits_octets c.args.y.now i)) c.loop-octets.octets 8 c.loop-octets.count _ (omega arith) c.loop-octets.invariant.total);
}

pub returns-clause-value : goal.returns-clause-value
returns-clause-value c = counts-end (λ i. not (fits_octets c.args.y.now i)) c.loop-octets.octets 8 c.loop-octets.count _ (omega arith) c.loop-octets.invariant.total
