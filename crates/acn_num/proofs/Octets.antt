-- From the least width in bits to the least count of octets.
use Rattle.std.proofs.Common.{inl, inr, ◌≡◌, ℕ, sym, subst, ◌+◌, ◌-◌, ◌*◌, ◌/◌, ◌^◌, ◌<◌, ◌≤◌, arith, ℤ, pos, negsuc}
use Rattle.std.specs.Prelude.{◌⊎◌}
use Rattle.std.proofs.lemmas.Int.{ints}
use Rattle.std.proofs.Math.Nat.{pow-le-pow_right}
use Rattle.acn_num.specs.Widths.{IsLeastWidth, IsLeastOctets, IsLeastSignedOctets}

grown : (x v w : ℕ) → x < 2 ^ v → v ≤ w → x < 2 ^ w
grown x v w h le = (let k = pow-le-pow_right {n = 2} (omega arith) le in omega arith)

pub least_octets : (x w : ℕ) → IsLeastWidth x w → 0 < w → IsLeastOctets x ((w + 7) / 8)
least_octets x w is some = record {
  some = omega arith;
  holds = grown x w _ is.holds (omega arith);
  least = λ m one h. (let k = is.least (8 * m) h in omega arith);
}

-- a number that isn't negative, and its complement
pub least_signed : (x w : ℕ) → IsLeastWidth x w → IsLeastSignedOctets (pos x) (w / 8 + 1)
least_signed x w is = record {
  some = omega arith;
  holds = record { low = omega (arith, ints); high = (let k = grown x w (8 * (w / 8 + 1) - 1) is.holds (omega arith) in omega (arith, ints)) };
  least = λ m one h. (let f : x < 2 ^ (8 * m - 1) = (let g = h.high in omega (arith, ints)) in let k = is.least (8 * m - 1) f in omega arith);
}

pub least_negative : (x w : ℕ) → IsLeastWidth x w → IsLeastSignedOctets (negsuc x) (w / 8 + 1)
least_negative x w is = record {
  some = omega arith;
  holds = record { low = (let k = grown x w (8 * (w / 8 + 1) - 1) is.holds (omega arith) in omega (arith, ints)); high = omega (arith, ints) };
  least = λ m one h. (let f : x < 2 ^ (8 * m - 1) = (let g = h.low in omega (arith, ints)) in let k = is.least (8 * m - 1) f in omega arith);
}

pub least_either : (x : ℤ) (m w : ℕ) → (x ≡ pos m) ⊎ (x ≡ negsuc m) → IsLeastWidth m w → IsLeastSignedOctets x (w / 8 + 1)
least_either x m w (inl e) is = subst (λ (z : ℤ). IsLeastSignedOctets z (w / 8 + 1)) (sym e) (least_signed m w is)
least_either x m w (inr e) is = subst (λ (z : ℤ). IsLeastSignedOctets z (w / 8 + 1)) (sym e) (least_negative m w is)
