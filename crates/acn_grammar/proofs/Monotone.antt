-- Codes of several lengths grow with the distance of the number.
use Rattle.std.proofs.Common.{◌≡◌, ℕ, ◌-◌, ◌*◌, ◌^◌, ◌<◌, ◌≤◌, max, ℤ, pos, negsuc, Bool, true, false, not, List, [], ◌∷◌, refl, arith, nat_le, ◌&&◌, inl, inr, ◌⊎◌}
use Rattle.std.specs.Prelude.{◌-ℤ◌, ◌≤ℤ◌, ◌<ℤ◌, nat_abs, int_le, int_lt, if◌then◌else◌}
use Rattle.std.proofs.lemmas.Int.{ints}
use native.Mathlib.Decide.{dec_le}
use Rattle.std.proofs.lemmas.Nat.{pow_pos}
use Rattle.acn_num.specs.Ranges.{has}
use Rattle.acn_grammar.specs.Interval.{nearest, range_lengths, lengths_of}
use Rattle.acn_grammar.specs.Length.{least_octets, least_signed_octets, fits_octets, digit_count, coding_length}
use Rattle.acn_grammar.specs.declared.bounds.Bounds.{Bounds}
use Rattle.acn_grammar.specs.declared.node.NumCoding.{NumCoding}
use Rattle.acn_grammar.specs.declared.node.NumCoding.TheVariants.{Range, CountedFrom, CountedSigned, PosInt, Twos, Bcd, BcdEnded, Ascii, AsciiEnded, Flag, Fixed}
use Rattle.acn_grammar.proofs.Counts.{count_more, fits_is, fits_true}
use Rattle.acn_grammar.proofs.Within.{between}
use Rattle.std.proofs.lemmas.Bool.{le-leb, leb-true}
use Rattle.acn_grammar.proofs.WholeTests.{lt_fact, ge_fact, either}

octets-grow : (a b : ℕ) → a ≤ b → least_octets a ≤ least_octets b
octets-grow a b h = omega (arith, count_more (λ c. nat_le (256 ^ c) a) (λ c. nat_le (256 ^ c) b) 1 7 (λ j u v. le-leb (256 ^ j) b (omega (arith, leb-true (256 ^ j) a v))))

digits-grow : (a b : ℕ) → a ≤ b → digit_count a ≤ digit_count b
digits-grow a b h = omega (arith, count_more (λ e. nat_le (10 ^ e) a) (λ e. nat_le (10 ^ e) b) 1 19 (λ j u v. le-leb (10 ^ j) b (omega (arith, leb-true (10 ^ j) a v))))

-- between 0 and b
abbrev Nearer : ℤ → ℤ → Type 0
Nearer a b = ((pos 0 ≤ℤ a) × (a ≤ℤ b)) ⊎ ((b ≤ℤ a) × (a ≤ℤ pos 0))

fits-nearer : (a b : ℤ) (c : ℕ) → Nearer a b → fits_octets b c ≡ true → fits_octets a c ≡ true
fits-nearer a b c (inl n) f =
    let r = fits_is b c f in
    let low = n.0 in
    let high = n.1 in
    let one = r.0 in
    let two = r.1 in
    fits_true a c (omega (arith, ints)) (omega (arith, ints))
fits-nearer a b c (inr n) f =
    let r = fits_is b c f in
    let low = n.0 in
    let high = n.1 in
    let one = r.0 in
    let two = r.1 in
    fits_true a c (omega (arith, ints)) (omega (arith, ints, power (8 * c - 1)))
  where
    power : (n : ℕ) → 0 < 2 ^ n
    power n = omega (arith, pow_pos n)

not_back : (a b : Bool) → (b ≡ true → a ≡ true) → not a ≡ true → not b ≡ true
not_back true b f h = cc
not_back false true f h = let e = f refl in cc
not_back false false f h = refl

signed-grow : (a b : ℤ) → Nearer a b → least_signed_octets a ≤ least_signed_octets b
signed-grow a b n = omega (arith, count_more (λ c. not (fits_octets a c)) (λ c. not (fits_octets b c)) 1 7 (λ j u v. not_back (fits_octets a j) (fits_octets b j) (fits-nearer a b j n) v))

near_dist : (o y : ℤ) (r : ℤ × ℤ) → r.0 ≤ℤ y → y ≤ℤ r.1 → nat_abs (nearest o r -ℤ o) ≤ nat_abs (y -ℤ o)
near_dist o y r a b = by (int_lt o r.0) (int_lt r.1 o) (lt_fact o r.0) (ge_fact o r.0) (lt_fact r.1 o) (ge_fact r.1 o)
  where
    by : (s t : Bool) → (s ≡ true → o <ℤ r.0) → (s ≡ false → r.0 ≤ℤ o) → (t ≡ true → r.1 <ℤ o) → (t ≡ false → o ≤ℤ r.1)
        → nat_abs ((if s then r.0 else (if t then r.1 else o)) -ℤ o) ≤ nat_abs (y -ℤ o)
    by true t f g h k = let p = f refl in omega (arith, ints)
    by false true f g h k = let p = h refl in omega (arith, ints)
    by false false f g h k = omega (arith, ints)

far_dist : (o y : ℤ) (r : ℤ × ℤ) → r.0 ≤ℤ y → y ≤ℤ r.1 → nat_abs (y -ℤ o) ≤ max (nat_abs (r.0 -ℤ o)) (nat_abs (r.1 -ℤ o))
far_dist o y r a b = omega (arith, ints)

zero_dist : (y : ℤ) → nat_abs (y -ℤ pos 0) ≡ nat_abs y
zero_dist y = omega (arith, ints)

-- a function that grows gives the greater of two at the greater
grows_to_max : (f : ℕ → ℕ) → ((a b : ℕ) → a ≤ b → f a ≤ f b) → (d a b : ℕ) → d ≤ max a b → f d ≤ max (f a) (f b)
grows_to_max f g d a b h = elim (dec_le a b) [
  | yes p ↦ let q = g d b (omega arith) in omega arith
  | no p ↦ let q = g d a (omega arith) in omega arith
]

near_signed : (y : ℤ) (r : ℤ × ℤ) → r.0 ≤ℤ y → y ≤ℤ r.1 → Nearer (nearest (pos 0) r) y
near_signed y r a b = by (int_lt (pos 0) r.0) (int_lt r.1 (pos 0)) (lt_fact (pos 0) r.0) (lt_fact r.1 (pos 0))
  where
    sides : (y : ℤ) → Nearer (pos 0) y
    sides (pos n) = inl (omega (arith, ints), omega (arith, ints))
    sides (negsuc n) = inr (omega (arith, ints), omega (arith, ints))

    by : (s t : Bool) → (s ≡ true → pos 0 <ℤ r.0) → (t ≡ true → r.1 <ℤ pos 0) → Nearer (if s then r.0 else (if t then r.1 else pos 0)) y
    by true t f h = let p = f refl in inl (omega (arith, ints), omega (arith, ints))
    by false true f h = let p = h refl in inr (omega (arith, ints), omega (arith, ints))
    by false false f h = sides y

far_signed : (y : ℤ) (r : ℤ × ℤ) → r.0 ≤ℤ y → y ≤ℤ r.1 → least_signed_octets y ≤ max (least_signed_octets r.0) (least_signed_octets r.1)
far_signed (pos n) r a b = omega (arith, signed-grow (pos n) r.1 (inl (omega (arith, ints), omega (arith, ints))))
far_signed (negsuc n) r a b = omega (arith, signed-grow (negsuc n) r.0 (inr (omega (arith, ints), omega (arith, ints))))

abbrev pub Has : Bounds → ℕ → Type 0
Has b n = (b.least ≤ n) × (n ≤ b.greatest)

-- the codings of several lengths
abbrev pub Varies : NumCoding → Type 0
Varies (CountedFrom low) = Unit {0}
Varies CountedSigned = Unit {0}
Varies BcdEnded = Unit {0}
Varies (AsciiEnded end signed) = Unit {0}
Varies _ = ⊥

pub range_has : (coding : NumCoding) → Varies coding → (r : ℤ × ℤ) (y : ℤ) → r.0 ≤ℤ y → y ≤ℤ r.1 → Has (range_lengths coding r) (coding_length coding y)
range_has (CountedFrom low) v r y a b =
    let p = octets-grow (nat_abs (nearest low r -ℤ low)) (nat_abs (y -ℤ low)) (near_dist low y r a b) in
    let q = grows_to_max least_octets octets-grow (nat_abs (y -ℤ low)) (nat_abs (r.0 -ℤ low)) (nat_abs (r.1 -ℤ low)) (far_dist low y r a b) in
    (omega arith, omega arith)
range_has CountedSigned v r y a b =
    let p = signed-grow (nearest (pos 0) r) y (near_signed y r a b) in
    let q = far_signed y r a b in
    (omega arith, omega arith)
range_has BcdEnded v r y a b =
    let n = near_dist (pos 0) y r a b in
    let f = far_dist (pos 0) y r a b in
    let p = digits-grow (nat_abs (nearest (pos 0) r)) (nat_abs y) (omega (arith, zero_dist (nearest (pos 0) r), zero_dist y)) in
    let q = grows_to_max digit_count digits-grow (nat_abs y) (nat_abs r.0) (nat_abs r.1) (omega (arith, zero_dist y, zero_dist r.0, zero_dist r.1)) in
    (omega arith, omega arith)
range_has (AsciiEnded end signed) v r y a b =
    let n = near_dist (pos 0) y r a b in
    let f = far_dist (pos 0) y r a b in
    let p = digits-grow (nat_abs (nearest (pos 0) r)) (nat_abs y) (omega (arith, zero_dist (nearest (pos 0) r), zero_dist y)) in
    let q = grows_to_max digit_count digits-grow (nat_abs y) (nat_abs r.0) (nat_abs r.1) (omega (arith, zero_dist y, zero_dist r.0, zero_dist r.1)) in
    (omega arith, omega arith)
range_has (Range low width) v r y a b = absurd v
range_has (PosInt n) v r y a b = absurd v
range_has (Twos n) v r y a b = absurd v
range_has (Bcd n) v r y a b = absurd v
range_has (Ascii n signed) v r y a b = absurd v
range_has (Flag p q) v r y a b = absurd v
range_has (Fixed pattern) v r y a b = absurd v

pub lengths_have : (coding : NumCoding) → Varies coding → (rs : List (ℤ × ℤ)) (y : ℤ) → has rs y ≡ true → Has (lengths_of coding rs) (coding_length coding y)
lengths_have coding v [] y h = cc
lengths_have coding v (r ∷ rs) y h =
    either {F = Has (lengths_of coding (r ∷ rs)) (coding_length coding y)} (int_le r.0 y && int_le y r.1) (has rs y) h
    (λ o. let w = between r.0 r.1 y o in let p = range_has coding v r y w.0 w.1 in let one = p.0 in let two = p.1 in (omega arith, omega arith))
    (λ o. let p = lengths_have coding v rs y o in let one = p.0 in let two = p.1 in (omega arith, omega arith))
