use Rattle.std.proofs.Common.{◌≡◌, ◌-◌, ◌≤◌, ◌&&◌, ◌==◌, not, nat_lt, true, length, take}
use Rattle.std.specs.List.{list_all}
use Rattle.acn_printed.proofs.rest.plain_front.Given as goal

abbrev pub invariant-loop-at : goal.invariant-loop-at
invariant-loop-at l = record {
  within : l.at ≤ length l.text;
  plain : list_all (λ c. nat_lt c 128 && (nat_lt 31 c && (not (c == 34) && not (c == 92)))) (take l.at l.text) ≡ true;
}

abbrev pub decreases-loop-at : goal.decreases-loop-at
decreases-loop-at l = length l.text - l.at
