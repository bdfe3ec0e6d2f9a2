use Rattle.std.proofs.Common.{◌≡◌, ◌^◌, ◌<◌, ◌≤◌, ◌-◌}
use Rattle.acn_ints.proofs.most.digits_of.Given as goal

abbrev pub invariant-loop-count : goal.invariant-loop-count
invariant-loop-count l = record {
  power : l.power ≡ 10 ^ l.count;
  low : 1 < l.count → 10 ^ (l.count - 1) ≤ l.k;
  some : 1 ≤ l.count;
  few : l.count ≤ 20;
}
