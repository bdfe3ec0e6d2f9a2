use Rattle.std.proofs.Common.{◌^◌, arith}
use Rattle.std.specs.Prelude.{nat_le}
use Rattle.acn_leaf.proofs.CodeLengths.{counts-turn, counts-end}
use Rattle.acn_leaf.proofs.lengths.digit_count.Goals as goal

pub loop-digits-preserved : goal.loop-digits-preserved
loop-digits-preserved c = record {
  small = omega arith;
  total = rw (c.one_if-count.ensures.value, c.passes_digits.ensures) (counts-turn (λ i. nat_le (10 ^ i) c.args.k) c.loop-digits.digits 20 c.loop-digits.count _ (omega arith) c.loop-digits.invariant.total);
}

pub returns-clause-value : goal.returns-clause-value
returns-clause-value c = counts-end (λ i. nat_le (10 ^ i) c.args.k) c.loop-digits.digits 20 c.loop-digits.count _ (omega arith) c.loop-digits.invariant.total
