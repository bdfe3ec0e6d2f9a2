use Rattle.std.proofs.Common.{◌≤◌}
use Rattle.acn_ints.proofs.DigitPuts.{UptoDigit}
use Rattle.acn_ints.proofs.digit_writer.put_digits.Given as goal

abbrev pub invariant-loop-i : goal.invariant-loop-i
invariant-loop-i g l = record {
  upto : UptoDigit l.size l.zero_digit l.n l.k l.fn.cur l.cur l.i l.power;
  some : 1 ≤ l.i;
}
