use Rattle.std.proofs.Common.{◌≡◌, ◌-◌, ◌≤◌, length, take}
use Rattle.std.specs.Prelude.{map}
use Rattle.acn_json.specs.Lines.{bit_digit}
use Rattle.acn_printed.proofs.texts.bits_of.Given as goal

abbrev pub invariant-loop-at : goal.invariant-loop-at
invariant-loop-at l = record {
  long : length l.bits.items ≡ length l.digits;
  within : l.at ≤ length l.digits;
  same : map bit_digit (take l.at l.bits.items) ≡ take l.at l.digits;
}

abbrev pub decreases-loop-at : goal.decreases-loop-at
decreases-loop-at l = length l.digits - l.at
