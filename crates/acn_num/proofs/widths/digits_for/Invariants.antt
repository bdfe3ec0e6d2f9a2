use Rattle.std.proofs.Common.{◌≡◌, ℕ, ◌+◌, ◌*◌, ◌^◌, ◌<◌, ◌≤◌}
use Rattle.acn_num.proofs.widths.digits_for.Given as goal

-- what is left is the number without its last digits
abbrev pub invariant-loop-rest : goal.invariant-loop-rest
invariant-loop-rest l = record {
  below : l.x < (l.rest + 1) * 10 ^ l.count;
  above : l.rest * 10 ^ l.count ≤ l.x;
  least : (m : ℕ) → l.x < 10 ^ m → l.rest ≡ 0 → l.count ≤ m;
  fits : l.count ≤ 20;
}

abbrev pub decreases-loop-rest : goal.decreases-loop-rest
decreases-loop-rest l = l.rest
