use Rattle.std.proofs.Common.{◌≡◌, ◌^◌, ◌≤◌}
use Rattle.acn_ints.proofs.digit_writer.power_of_ten.Given as goal

abbrev pub invariant-loop-i : goal.invariant-loop-i
invariant-loop-i l = record {
  power : l.power ≡ 10 ^ l.i;
  few : l.i ≤ 19;
}
