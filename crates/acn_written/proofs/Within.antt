-- What a coding can write lies among the numbers that sets hold.
use Rattle.std.proofs.Common.{◌≡◌, ℕ, ◌-◌, ◌/◌, ◌^◌, ◌≤◌, ℤ, pos, true, false, sym, subst, arith}
use Rattle.std.specs.Prelude.{◌-ℤ◌, ◌≤ℤ◌}
use Rattle.std.proofs.lemmas.Bool.Decides.{nat_tests}
use Rattle.std.proofs.lemmas.Int.{ints}
use Rattle.std.proofs.Math.Nat.{pow-le-pow_right}
use Rattle.acn_num.specs.Ranges.{bottom, top}
use Rattle.acn_codings.specs.Codings.{is_step, fits, numbers}
use Rattle.acn_codings.specs.declared.coding.Coding.{Coding}
use Rattle.acn_codings.specs.declared.coding.Coding.TheVariants.{Default, PosInt, Twos, Bcd, BcdEnded, Ascii, AsciiEnded}

few : (step low high n : ℕ) → is_step step low high n ≡ true → n ≤ high
few step low high n h = grind (arith, nat_tests)

bits : (n : ℕ) → n ≤ 64 → 2 ^ n ≤ 2 ^ 64
bits n h = pow-le-pow_right {n = 2} (omega arith) {i = n} {j = 64} h

half : (n : ℕ) → n ≤ 63 → 2 ^ n ≤ 2 ^ 63
half n h = pow-le-pow_right {n = 2} (omega arith) {i = n} {j = 63} h

digits : (n : ℕ) → n ≤ 19 → 10 ^ n ≤ 2 ^ 64
digits n h = let m = pow-le-pow_right {n = 10} (omega arith) {i = n} {j = 19} h in omega (arith, m)

signed : (n : ℕ) → n ≤ 18 → 10 ^ n ≤ 2 ^ 63
signed n h = let m = pow-le-pow_right {n = 10} (omega arith) {i = n} {j = 18} h in omega (arith, m)

abbrev pub Within : ℤ × ℤ → Type 0
Within e = (bottom ≤ℤ e.0) × (e.0 ≤ℤ top) × (e.1 ≤ℤ top) × (bottom ≤ℤ e.1)

from_zero : (m : ℕ) → m ≤ 2 ^ 64 → Within (pos 0, pos m -ℤ pos 1)
from_zero m h = (omega (arith, ints), omega (arith, ints), omega (arith, ints), omega (arith, ints))

around : (m : ℕ) → m ≤ 2 ^ 63 → Within (pos 0 -ℤ pos m, pos m -ℤ pos 1)
around m h = (omega (arith, ints), omega (arith, ints), omega (arith, ints), omega (arith, ints))

even : (m : ℕ) → m ≤ 2 ^ 63 → Within (pos 1 -ℤ pos m, pos m -ℤ pos 1)
even m h = (omega (arith, ints), omega (arith, ints), omega (arith, ints), omega (arith, ints))

within : (c : Coding) → fits c ≡ true → Within (numbers c)
within Default h = (omega (arith, ints), omega (arith, ints), omega (arith, ints), omega (arith, ints))
within (PosInt n) h = from_zero (2 ^ n) (bits n (few 1 1 64 n h))
within (Twos n) h = let k = few 1 1 64 n h in around (2 ^ (n - 1)) (half (n - 1) (omega (arith, k)))
within (Bcd n) h = let k = few 4 4 76 n h in from_zero (10 ^ (n / 4)) (digits (n / 4) (omega (arith, k)))
within BcdEnded h = from_zero (2 ^ 64) (omega arith)
within (Ascii n false) h = let k = few 8 8 152 n h in from_zero (10 ^ (n / 8)) (digits (n / 8) (omega (arith, k)))
within (Ascii n true) h = let k = few 8 16 152 n h in even (10 ^ (n / 8 - 1)) (signed (n / 8 - 1) (omega (arith, k)))
within (AsciiEnded false) h = from_zero (2 ^ 64) (omega arith)
within (AsciiEnded true) h = (omega (arith, ints), omega (arith, ints), omega (arith, ints), omega (arith, ints))

pub ends_within : (c : Coding) (e : ℤ × ℤ) → fits c ≡ true → e ≡ numbers c → Within e
ends_within c e h k = subst (λ (z : ℤ × ℤ). Within z) (sym k) (within c h)
