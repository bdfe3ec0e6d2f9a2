-- What the bits of one width say, coding by coding.
use Rattle.std.proofs.Common.{◌≡◌, ℕ, ◌^◌, ◌<◌, ℤ, pos, ◌+ℤ◌, Bool, List, length, take, refl, sym, ap, ◌∙◌, subst, arith, inl, inr, Some, None}
use Rattle.std.proofs.lemmas.List.{length-take-le}
use Rattle.acn_num.specs.Bits.{number, signed_number, IsNumber}
use Rattle.acn_bits.specs.Reading.{Reading}
use Rattle.acn_num.proofs.BitLists.{number_below, number_same}
use Rattle.acn_grammar.specs.Code.{in_order}
use Rattle.acn_grammar.specs.LeafFails.{bad_pattern}
use Rattle.acn_grammar.specs.declared.node.NumCoding.TheVariants.{Range, PosInt, Twos, Flag, Fixed}
use Rattle.acn_ints.proofs.SaidLemmas.{taken_stays}
use Rattle.acn_ints.specs.FixedReads.{Taken, FixedSaid, FixedWrong}

-- the bits that were taken spell the number
pub is_number : (n : ℕ) (old new : Reading) (v : ℕ) → Taken n old new v → IsNumber n v (take n old.rest)
is_number n old new v t = record { width = length-take-le n old.rest t.within; value = sym t.value }

pub taken_below : (n : ℕ) (old new : Reading) (v : ℕ) → Taken n old new v → v < 2 ^ n
taken_below n old new v t =
    let long = length-take-le n old.rest t.within in
    let low : number (take n old.rest) < 2 ^ n = subst (λ (k : ℕ). number (take n old.rest) < 2 ^ k) long (number_below (take n old.rest)) in
    omega (arith, t.value, low)

pub range_said : (n : ℕ) (low : ℤ) (little : Bool) (old new : Reading) (v : ℕ) (wire image : ℤ) → Taken n old new v → wire ≡ pos v → image ≡ low +ℤ pos v → FixedSaid (Range low n) little n old new wire image
range_said n low little old new v wire image t w i = record {
  within = t.within;
  moved = t.moved;
  spells = (v, i, is_number n old new v t);
  told = rw (w, i, t.value) refl;
}

pub unsigned_said : (n : ℕ) (little : Bool) (old new : Reading) (v x : ℕ) (wire image : ℤ) → Taken n old new v → ((bs : List Bool) → IsNumber n v bs → number (in_order little bs) ≡ x)
    → wire ≡ pos x → image ≡ pos x → FixedSaid (PosInt n) little n old new wire image
unsigned_said n little old new v x wire image t same w i =
    let e = same (take n old.rest) (is_number n old new v t) in
    record {
      within = t.within;
      moved = t.moved;
      spells = (length-take-le n old.rest t.within, i ∙ ap pos (sym e));
      told = rw (w, i, e) refl;
    }

pub twos_said : (n : ℕ) (little : Bool) (old new : Reading) (v x : ℕ) (wire image : ℤ) → Taken n old new v → ((bs : List Bool) → IsNumber n v bs → number (in_order little bs) ≡ x)
    → ((bs : List Bool) → IsNumber n v bs → length (in_order little bs) ≡ n) → ((bs : List Bool) → IsNumber n x bs → signed_number bs ≡ image) → wire ≡ image → FixedSaid (Twos n) little n old new wire image
twos_said n little old new v x wire image t same long signed w =
    let is = is_number n old new v t in
    let ordered : IsNumber n x (in_order little (take n old.rest)) = record { width = long (take n old.rest) is; value = same (take n old.rest) is } in
    let e = signed (in_order little (take n old.rest)) ordered in
    record {
      within = t.within;
      moved = t.moved;
      spells = (length-take-le n old.rest t.within, sym e);
      told = rw (w, e) refl;
    }

-- the bits are those of the pattern, or they are not
pub same_bits : (p : List Bool) (old new : Reading) (v : ℕ) → Taken (length p) old new v → v ≡ number p → take (length p) old.rest ≡ p
same_bits p old new v t e = number_same (take (length p) old.rest) p (length-take-le (length p) old.rest t.within) (sym t.value ∙ e)

pub other_bits : (p : List Bool) (n : ℕ) (old new : Reading) (v : ℕ) → Taken n old new v → (v ≡ number p → ⊥) → take n old.rest ≡ p → ⊥
other_bits p n old new v t differs e = differs (t.value ∙ ap number e)

pub pattern_said : (p : List Bool) (little : Bool) (old new : Reading) (v : ℕ) (wire image : ℤ) → Taken (length p) old new v → v ≡ number p → wire ≡ pos 0 → image ≡ pos 0 → FixedSaid (Fixed p) little (length p) old new wire image
pattern_said p little old new v wire image t e w i = record {
  within = t.within;
  moved = t.moved;
  spells = (i, same_bits p old new v t e);
  told = inl (same_bits p old new v t e, rw (w, i) refl);
}

pub pattern_wrong : (p : List Bool) (little : Bool) (old new : Reading) (v : ℕ) → Taken (length p) old new v → (v ≡ number p → ⊥) → FixedWrong (Fixed p) little (length p) old new bad_pattern
pattern_wrong p little old new v t differs = inr (t.within, taken_stays (length p) old new v t, inr (other_bits p (length p) old new v t differs, refl))

-- Booleans with patterns

pub either_one : (p q : List Bool) (little : Bool) (old new : Reading) (v : ℕ) (wire image : ℤ) → Taken (length p) old new v → v ≡ number p → wire ≡ pos 1 → image ≡ pos 1
    → FixedSaid (Flag (Some p) (Some q)) little (length p) old new wire image
either_one p q little old new v wire image t e w i = record {
  within = t.within;
  moved = t.moved;
  spells = inl (i, same_bits p old new v t e);
  told = inl (same_bits p old new v t e, rw (w, i) refl);
}

pub either_zero : (p q : List Bool) (little : Bool) (old new : Reading) (v : ℕ) (wire image : ℤ) → Taken (length p) old new v → length p ≡ length q → (v ≡ number p → ⊥) → v ≡ number q → wire ≡ pos 0 → image ≡ pos 0
    → FixedSaid (Flag (Some p) (Some q)) little (length p) old new wire image
either_zero p q little old new v wire image t long differs e w i =
    let here = same_bits q old new v (subst (λ (k : ℕ). Taken k old new v) long t) e in
    let bs : take (length p) old.rest ≡ q = subst (λ (k : ℕ). take k old.rest ≡ q) (sym long) here in
    record {
      within = t.within;
      moved = t.moved;
      spells = inr (i, bs);
      told = inr (other_bits p (length p) old new v t differs, inl (bs, rw (w, i) refl));
    }

pub either_wrong : (p q : List Bool) (little : Bool) (old new : Reading) (v : ℕ) → Taken (length p) old new v → (v ≡ number p → ⊥) → (v ≡ number q → ⊥) → FixedWrong (Flag (Some p) (Some q)) little (length p) old new bad_pattern
either_wrong p q little old new v t differs differs' = inr (t.within, taken_stays (length p) old new v t, inr (other_bits p (length p) old new v t differs, inr (other_bits q (length p) old new v t differs', refl)))

pub ones_same : (p : List Bool) (little : Bool) (old new : Reading) (v : ℕ) (wire image : ℤ) → Taken (length p) old new v → v ≡ number p → wire ≡ pos 1 → image ≡ pos 1 → FixedSaid (Flag (Some p) None) little (length p) old new wire image
ones_same p little old new v wire image t e w i = record {
  within = t.within;
  moved = t.moved;
  spells = inl (i, same_bits p old new v t e);
  told = inl (same_bits p old new v t e, rw (w, i) refl);
}

pub ones_other : (p : List Bool) (little : Bool) (old new : Reading) (v : ℕ) (wire image : ℤ) → Taken (length p) old new v → (v ≡ number p → ⊥) → wire ≡ pos 0 → image ≡ pos 0 → FixedSaid (Flag (Some p) None) little (length p) old new wire image
ones_other p little old new v wire image t differs w i = record {
  within = t.within;
  moved = t.moved;
  spells = inr (i, (length-take-le (length p) old.rest t.within, other_bits p (length p) old new v t differs));
  told = inr (other_bits p (length p) old new v t differs, rw (w, i) refl);
}

pub zeros_same : (p : List Bool) (little : Bool) (old new : Reading) (v : ℕ) (wire image : ℤ) → Taken (length p) old new v → v ≡ number p → wire ≡ pos 0 → image ≡ pos 0 → FixedSaid (Flag None (Some p)) little (length p) old new wire image
zeros_same p little old new v wire image t e w i = record {
  within = t.within;
  moved = t.moved;
  spells = inl (i, same_bits p old new v t e);
  told = inl (same_bits p old new v t e, rw (w, i) refl);
}

pub zeros_other : (p : List Bool) (little : Bool) (old new : Reading) (v : ℕ) (wire image : ℤ) → Taken (length p) old new v → (v ≡ number p → ⊥) → wire ≡ pos 1 → image ≡ pos 1 → FixedSaid (Flag None (Some p)) little (length p) old new wire image
zeros_other p little old new v wire image t differs w i = record {
  within = t.within;
  moved = t.moved;
  spells = inr (i, (length-take-le (length p) old.rest t.within, other_bits p (length p) old new v t differs));
  told = inr (other_bits p (length p) old new v t differs, rw (w, i) refl);
}

pub plain_flag : (little : Bool) (old new : Reading) (v : ℕ) (wire image : ℤ) → Taken 1 old new v → wire ≡ pos v → image ≡ pos v → FixedSaid (Flag None None) little 1 old new wire image
plain_flag little old new v wire image t w i = record {
  within = t.within;
  moved = t.moved;
  spells = (v, i, is_number 1 old new v t);
  told = rw (w, i, t.value) refl;
}
