-- Every number that a coding can write has a code.
use Rattle.std.proofs.Common.{◌≡◌, ◌≢◌, ℕ, zero, suc, ◌+◌, ◌-◌, ◌*◌, ◌/◌, ◌%◌, ◌^◌, ◌<◌, ◌≤◌, ℤ, pos, negsuc, ◌+ℤ◌, Bool, true, false, not, List, [], ◌∷◌, ◌++◌, length, map, reverse, Option, Some, None, refl, sym, ap, ◌∙◌, arith, append_assoc, append-nil, length-append, inl, inr, ◌⊎◌, nat_eq, nat_le, ◌&&◌}
use Rattle.std.specs.Prelude.{◌-ℤ◌, ◌≤ℤ◌, ◌<ℤ◌, int_le, int_lt, neg_ℤ, nat_abs, nat_lt}
use Rattle.std.specs.List.{AllByRecursion, flat_map}
use Rattle.std.specs.Ordering.{int_eq}
use Rattle.std.proofs.lemmas.Int.{ints}
use Rattle.std.proofs.lemmas.List.{reverse-append, length-reverse}
use Rattle.std.proofs.lemmas.Nat.{div-add-mod'}
use Rattle.std.proofs.Math.Nat.{pow-succ', mod-lt, div-lt_iff_lt-mul}
use native.Mathlib.Decide.{dec_lt}
use Rattle.acn_num.specs.Bits.{number, signed_number, low_bits, is_least_width, IsNumber, IsSigned}
use Rattle.acn_num.specs.Ranges.{distance}
use Rattle.acn_grammar.specs.Code.{Mode, Written, Any, CodingCode, Counted, AreDigits, IsMinimal, nibbles, digit_octets, SignOctet, in_octets, in_order, opposite, OtherPattern, FlagCode}
use Rattle.acn_grammar.specs.Leaves.{coding_fine, can_write, can_be_little, implies, is_pattern, flag_patterns_fine}
use Rattle.acn_grammar.specs.Length.{fits_octets}
use Rattle.acn_grammar.specs.declared.node.NumCoding.{NumCoding}
use Rattle.acn_grammar.specs.declared.node.NumCoding.TheVariants.{Range, CountedFrom, CountedSigned, PosInt, Twos, Bcd, BcdEnded, Ascii, AsciiEnded, Flag, Fixed}
use Rattle.acn_grammar.proofs.Counts.{number_bits, signed_bits, signed_of_octets, code_fits}
use Rattle.acn_grammar.proofs.LeafLengths.{Limits, nibbles-length, digit_octets-length, opposite-length}
use Rattle.std.proofs.lemmas.Bool.{ltb-true, lt-ltb, and_parts, eqb-true, leb-true}
use Rattle.acn_grammar.proofs.WholeTests.{le_fact, lt_fact, eq_fact}
use Rattle.acn_num.proofs.BitLists.{number_below}
use Rattle.acn_grammar.proofs.FineLeaves.{implied}

-- The least positive number that passes.

pub record Least (p : ℕ → Bool) : Type 0 where
  pub count : ℕ
  pub positive : 0 < count
  pub passes : p count ≡ true
  pub least : (m : ℕ) → 0 < m → p m ≡ true → count ≤ m

least_here : (p : ℕ → Bool) (s : ℕ) → ((m : ℕ) → 0 < m → m < s → p m ≡ false) → 0 < s → p s ≡ true → Least p
least_here p s none pos' h = record {
  count = s;
  positive = pos';
  passes = h;
  least = λ m q r. elim (dec_lt m s) [ yes k ↦ (let e = none m q k in cc) | no k ↦ omega arith ];
}

none_more : (p : ℕ → Bool) (s : ℕ) → ((m : ℕ) → 0 < m → m < s → p m ≡ false) → p s ≡ false → (m : ℕ) → 0 < m → m < suc s → p m ≡ false
none_more p s none h m q r = elim (dec_lt m s) [ yes k ↦ none m q k | no k ↦ (let e : s ≡ m = omega arith in rw (← e) h) ]

search_from : (p : ℕ → Bool) (fuel s : ℕ) → ((m : ℕ) → 0 < m → m < s → p m ≡ false) → 0 < s → p (s + fuel) ≡ true → Least p
search_from p zero s none pos' h = least_here p s none pos' (ap p (zero_more s) ∙ h)
  where
    zero_more : (s : ℕ) → s ≡ s + zero
    zero_more s = omega arith
search_from p (suc fuel) s none pos' h = by (p s) refl (λ e. search_from p fuel (suc s) (none_more p s none e) (omega arith) (ap p (one_more s fuel) ∙ h))
  where
    one_more : (s fuel : ℕ) → suc s + fuel ≡ s + suc fuel
    one_more s fuel = omega arith

    by : (b : Bool) → p s ≡ b → (p s ≡ false → Least p) → Least p
    by true e f = least_here p s none pos' e
    by false e f = f e

pub least_of : (p : ℕ → Bool) (n : ℕ) → p (1 + n) ≡ true → Least p
least_of p n h = search_from p n 1 (λ m q r. absurd (omega arith)) (omega arith) h

-- Counted numbers.

pub counted_code : (k : ℕ) → k < 2 ^ 64 → (bs : List Bool) × Counted (λ c body. IsNumber (8 * c) k body) bs
counted_code k h =
    let l = least_of (λ c. nat_lt k (2 ^ (8 * c))) 7 (lt-ltb k (2 ^ 64) h) in
    let few = l.least 8 (omega arith) (lt-ltb k (2 ^ 64) h) in
    let body = low_bits (8 * l.count) k in (
      low_bits 8 l.count ++ body,
      record {
        count = l.count;
        front = low_bits 8 l.count;
        body = body;
        whole = refl;
        counts = number_bits 8 l.count (omega arith);
        spells = number_bits (8 * l.count) k (ltb-true k (2 ^ (8 * l.count)) l.passes);
        positive = l.positive;
        least = λ c other p s. l.least c p (lt-ltb k (2 ^ (8 * c)) (below c other s));
      },
    )
  where
    below : (c : ℕ) (other : List Bool) → IsNumber (8 * c) k other → k < 2 ^ (8 * c)
    below c other s = rw (← s.width, ← s.value) (number_below other)

pub counted_signed_code : (y : ℤ) → fits_octets y 8 ≡ true → (bs : List Bool) × Counted (λ c body. IsSigned (8 * c) y body) bs
counted_signed_code y h =
    let l = least_of (fits_octets y) 7 h in
    let few = l.least 8 (omega arith) h in
    let body = signed_of_octets y l.count l.positive l.passes in (
      low_bits 8 l.count ++ body.0,
      record {
        count = l.count;
        front = low_bits 8 l.count;
        body = body.0;
        whole = refl;
        counts = number_bits 8 l.count (omega arith);
        spells = body.1;
        positive = l.positive;
        least = λ c other p s. l.least c p (code_fits y c other p s);
      },
    )

-- Octets in the other order, and back.

abbrev Octets : List (List Bool) → Type 0
Octets os = AllByRecursion (λ o. length o ≡ 8) os

octets_of : (k : ℕ) (bs : List Bool) → length bs ≡ 8 * k → (flat_map (λ o. o) (in_octets bs) ≡ bs) × Octets (in_octets bs)
octets_of zero [] l = (refl, tt)
octets_of zero (x ∷ bs) l = absurd (omega arith)
octets_of (suc k) (a ∷ b ∷ c ∷ d ∷ e ∷ f ∷ g ∷ h ∷ rest) l =
    let r = octets_of k rest (omega arith) in
    (ap (λ t. a ∷ b ∷ c ∷ d ∷ e ∷ f ∷ g ∷ h ∷ t) r.0, (refl, r.1))
octets_of (suc k) _ l = absurd (omega arith)

in_flat : (os : List (List Bool)) → Octets os → in_octets (flat_map (λ o. o) os) ≡ os
in_flat [] h = refl
in_flat ((a ∷ b ∷ c ∷ d ∷ e ∷ f ∷ g ∷ i ∷ []) ∷ os) h = ap (λ t. (a ∷ b ∷ c ∷ d ∷ e ∷ f ∷ g ∷ i ∷ []) ∷ t) (in_flat os h.1)
in_flat ((a ∷ b ∷ c ∷ d ∷ e ∷ f ∷ g ∷ i ∷ j ∷ o) ∷ os) h = let l = h.0 in absurd (omega arith)
in_flat (_ ∷ os) h = let l = h.0 in absurd (omega arith)

octets-append : (xs ys : List (List Bool)) → Octets xs → Octets ys → Octets (xs ++ ys)
octets-append [] ys h k = k
octets-append (x ∷ xs) ys h k = (h.0, octets-append xs ys h.1 k)

octets-reverse : (os : List (List Bool)) → Octets os → Octets (reverse os)
octets-reverse [] h = tt
octets-reverse (o ∷ os) h = rw (reverse-append (o ∷ []) os) (octets-append (reverse os) (o ∷ []) (octets-reverse os h.1) (h.0, tt))

flat-length : (os : List (List Bool)) → Octets os → length (flat_map (λ o. o) os) ≡ 8 * length os
flat-length [] h = refl
flat-length (o ∷ os) h = omega (arith, length-append o (flat_map (λ x. x) os), h.0, flat-length os h.1)

reverse-back : {A : Type 0} (xs : List A) → reverse (reverse xs) ≡ xs
reverse-back [] = refl
reverse-back (x ∷ xs) = ap reverse (reverse-append (x ∷ []) xs) ∙ (reverse-append (reverse xs) (x ∷ []) ∙ ap (λ l. x ∷ l) (reverse-back xs))

-- bits whose octets stand the other way round
pub swapped : (k : ℕ) (bs : List Bool) → length bs ≡ 8 * k → (length (in_order true bs) ≡ length bs) × (in_order true (in_order true bs) ≡ bs)
swapped k bs l =
    let o = octets_of k bs l in
    let back = octets-reverse (in_octets bs) o.1 in
    let one = flat-length (reverse (in_octets bs)) back in
    let two = flat-length (in_octets bs) o.1 in
    let three = ap length o.0 in
    let four = length-reverse (in_octets bs) in
    (omega arith, ap (λ os. flat_map (λ x. x) (reverse os)) (in_flat (reverse (in_octets bs)) back) ∙ (ap (flat_map (λ x. x)) (reverse-back (in_octets bs)) ∙ o.0))

pub eight_of : (n : ℕ) → nat_eq (n % 8) 0 ≡ true → n ≡ 8 * (n / 8)
eight_of n h = let e = eqb-true (n % 8) 0 h in omega arith

-- bits that stand for these in either order
ordered : (little : Bool) (n : ℕ) (bs : List Bool) → length bs ≡ n → (little ≡ true → nat_eq (n % 8) 0 ≡ true) → (cs : List Bool) × (length cs ≡ n) × (in_order little cs ≡ bs)
ordered false n bs l h = (bs, l, refl)
ordered true n bs l h =
    let w = swapped (n / 8) bs (l ∙ eight_of n (h refl)) in
    (in_order true bs, w.0 ∙ l, w.1)

-- Digits.

pow_ten : (m : ℕ) → 0 < 10 ^ m
pow_ten zero = omega arith
pow_ten (suc m) = omega (arith, pow_ten m, pow-succ' 10 m)

abbrev digits_of : (m k : ℕ) → List ℕ
digits_of zero k = []
digits_of (suc m) k = k / 10 ^ m ∷ digits_of m (k % 10 ^ m)

digits_of-length : (m k : ℕ) → length (digits_of m k) ≡ m
digits_of-length zero k = refl
digits_of-length (suc m) k = ap suc (digits_of-length m (k % 10 ^ m))

digits_of-are : (m k : ℕ) → k < 10 ^ m → AreDigits k (digits_of m k)
digits_of-are zero k h = record { digits = tt; value = omega arith }
digits_of-are (suc m) k h =
    let rest = digits_of-are m (k % 10 ^ m) (mod-lt k (pow_ten m)) in
    let small : k / 10 ^ m < 10 = (div-lt_iff_lt-mul {k = 10 ^ m} {x = k} {y = 10} (pow_ten m)).1 (omega (arith, pow-succ' 10 m)) in
    record {
      digits = (small, rest.digits);
      value = rw (digits_of-length m (k % 10 ^ m), rest.value) (div-add-mod' k (10 ^ m));
    }

-- with no leading zeros
minimal_digits : (m k : ℕ) → 0 < m → (1 < m → 10 ^ (m - 1) ≤ k) → IsMinimal (digits_of m k)
minimal_digits zero k p h = absurd (omega arith)
minimal_digits (suc zero) k p h = tt
minimal_digits (suc (suc n)) k p h = positive (k / 10 ^ suc n) refl
  where
    great : 10 ^ suc n ≤ k
    great = let e : suc (suc n) - 1 ≡ suc n = omega arith in rw (← e) (h (omega arith))

    positive : (q : ℕ) → k / 10 ^ suc n ≡ q → 0 < k / 10 ^ suc n
    positive zero e =
        let less : k / 10 ^ suc n < 1 = omega arith in
        let small = (div-lt_iff_lt-mul {k = 10 ^ suc n} {x = k} {y = 1} (pow_ten (suc n))).0 less in
        let g = great in
        absurd (omega arith)
    positive (suc q) e = omega arith

minimal_of : (k : ℕ) → k < 10 ^ 20 → (ds : List ℕ) × AreDigits k ds × IsMinimal ds
minimal_of k h =
    let l = least_of (λ m. nat_lt k (10 ^ m)) 19 (lt-ltb k (10 ^ 20) h) in (
      digits_of l.count k,
      digits_of-are l.count k (ltb-true k (10 ^ l.count) l.passes),
      minimal_digits l.count k l.positive (λ more. elim (dec_lt k (10 ^ (l.count - 1))) [
        | yes q ↦ (let e = l.least (l.count - 1) (omega arith) (lt-ltb k (10 ^ (l.count - 1)) q) in absurd (omega arith))
        | no q ↦ omega arith
      ]),
    )

sign_of : (signed : Bool) (y : ℤ) → (signed ≡ false → pos 0 ≤ℤ y) → (sign : List Bool) × SignOctet signed y (nat_abs y) sign
sign_of false (pos n) h = ([], (refl, refl))
sign_of false (negsuc n) h = let e = h refl in absurd (omega (arith, ints))
sign_of true (pos n) h = (low_bits 8 43, (refl, refl))
sign_of true (negsuc n) h = (low_bits 8 45, (refl, refl))

natural : (y : ℤ) → pos 0 ≤ℤ y → y ≡ pos (nat_abs y)
natural (pos n) h = refl
natural (negsuc n) h = absurd (omega (arith, ints))

-- Patterns.

opposite-other : (p : List Bool) → 0 < length p → opposite p ≢ p
opposite-other [] h e = absurd (omega arith)
opposite-other (true ∷ p) h e = cc
opposite-other (false ∷ p) h e = cc

other_pattern : (mode : Mode) (p : List Bool) → is_pattern p ≡ true → OtherPattern mode p (opposite p)
other_pattern Written p h = refl
other_pattern Any p h = (opposite-length p, opposite-other p (leb-true 1 (length p) (and_parts (nat_le 1 (length p)) (nat_le (length p) 64) h).0))

flag_code : (mode : Mode) (p q : Option (List Bool)) (y : ℤ) → flag_patterns_fine p q ≡ true → (y ≡ pos 0) ⊎ (y ≡ pos 1) → (bs : List Bool) × FlagCode mode p q y bs
flag_code mode None None y f (inl e) = (false ∷ [], (0, e, record { width = refl; value = refl }))
flag_code mode None None y f (inr e) = (true ∷ [], (1, e, record { width = refl; value = refl }))
flag_code mode (Some p) None y f (inl e) = (opposite p, inr (e, other_pattern mode p f))
flag_code mode (Some p) None y f (inr e) = (p, inl (e, refl))
flag_code mode None (Some q) y f (inl e) = (q, inl (e, refl))
flag_code mode None (Some q) y f (inr e) = (opposite q, inr (e, other_pattern mode q f))
flag_code mode (Some p) (Some q) y f (inl e) = (q, inr (e, refl))
flag_code mode (Some p) (Some q) y f (inr e) = (p, inl (e, refl))

-- what a kind of leaf has beside the ends
abbrev pub Special : NumCoding → ℤ → Type 0
Special (Flag p q) y = (y ≡ pos 0) ⊎ (y ≡ pos 1)
Special (Fixed pattern) y = y ≡ pos 0
Special _ y = Unit {0}

whole_width : (n : ℕ) (t : Bool) → (t && nat_eq (n % 8) 0) ≡ true → n ≡ 8 * (n / 8)
whole_width n t h = eight_of n (and_parts t (nat_eq (n % 8) 0) h).1

pub has_code : (mode : Mode) (coding : NumCoding) (little : Bool) (e : ℤ × ℤ) (y : ℤ) → coding_fine coding ≡ true → implies little (can_be_little coding) ≡ true → can_write coding e ≡ true → e.0 ≤ℤ y → y ≤ℤ e.1 → Limits coding y → Special coding y
    → (bs : List Bool) × CodingCode mode coding little y bs
has_code mode (Range low width) little e y f o w a b l s =
    let g = and_parts (int_eq low e.0) (is_least_width (distance e.0 e.1) width) w in
    let same = eq_fact low e.0 g.0 in
    let k = nat_abs (y -ℤ low) in
    let far : nat_abs (y -ℤ low) ≤ distance e.0 e.1 = omega (arith, ints) in
    let wide = least_wide (distance e.0 e.1) width g.1 in
    let is : y ≡ low +ℤ pos (nat_abs (y -ℤ low)) = omega (arith, ints) in
    (low_bits width k, (k, is, number_bits width k (omega arith)))
  where
    least_wide : (n w : ℕ) → is_least_width n w ≡ true → n < 2 ^ w
    least_wide n w h = ltb-true n (2 ^ w) (and_parts (nat_lt n (2 ^ w)) (Rattle.std.proofs.Common.◌||◌ (nat_eq w 0) (nat_le (2 ^ (w - 1)) n)) h).0
has_code mode (CountedFrom low) little e y f o w a b l s =
    let same = eq_fact low e.0 w in
    let is : y ≡ low +ℤ pos (nat_abs (y -ℤ low)) = omega (arith, ints) in
    let c = counted_code (nat_abs (y -ℤ low)) (l (nat_abs (y -ℤ low)) is) in
    (c.0, (nat_abs (y -ℤ low), is, c.1))
has_code mode CountedSigned little e y f o w a b l s = counted_signed_code y l
has_code mode (PosInt n) little e y f o w a b l s =
    let g = and_parts (int_le (pos 0) e.0) (int_lt e.1 (pos (2 ^ n))) w in
    let low = le_fact (pos 0) e.0 g.0 in
    let high = lt_fact e.1 (pos (2 ^ n)) g.1 in
    let is = natural y (omega (arith, ints)) in
    let small : nat_abs y < 2 ^ n = omega (arith, ints) in
    let c = number_bits n (nat_abs y) small in
    let d = ordered little n (low_bits n (nat_abs y)) c.width (implied little (nat_eq (n % 8) 0) o) in
    (d.0, (d.1, is ∙ ap (λ k. pos k) (sym c.value ∙ ap number (sym d.2))))
has_code mode (Twos n) little e y f o w a b l s =
    let g = and_parts (int_le (neg_ℤ (pos (2 ^ (n - 1)))) e.0) (int_lt e.1 (pos (2 ^ (n - 1)))) w in
    let low = le_fact (neg_ℤ (pos (2 ^ (n - 1)))) e.0 g.0 in
    let high = lt_fact e.1 (pos (2 ^ (n - 1))) g.1 in
    let c = signed_bits (n - 1) y (trans_le _ _ _ low a) (trans_lt _ _ _ b high) in
    let some = leb-true 1 n (and_parts (nat_le 1 n) (nat_le n 64) f).0 in
    let long : suc (n - 1) ≡ n = omega arith in
    let d = ordered little n c.0 (c.1.width ∙ long) (implied little (nat_eq (n % 8) 0) o) in
    (d.0, (d.1, sym c.1.value ∙ ap signed_number (sym d.2)))
  where
    trans_le : (a b c : ℤ) → a ≤ℤ b → b ≤ℤ c → a ≤ℤ c
    trans_le a b c h k = omega (arith, ints)

    trans_lt : (a b c : ℤ) → a ≤ℤ b → b <ℤ c → a <ℤ c
    trans_lt a b c h k = omega (arith, ints)
has_code mode (Bcd n) little e y f o w a b l s =
    let g = and_parts (int_le (pos 0) e.0) (int_lt e.1 (pos (10 ^ (n / 4)))) w in
    let low = le_fact (pos 0) e.0 g.0 in
    let high = lt_fact e.1 (pos (10 ^ (n / 4))) g.1 in
    let is = natural y (omega (arith, ints)) in
    let small : nat_abs y < 10 ^ (n / 4) = omega (arith, ints) in
    let whole = eqb-true (n % 4) 0 (and_parts (nat_le 4 n && nat_le n 76) (nat_eq (n % 4) 0) f).1 in
    let ds = digits_of (n / 4) (nat_abs y) in
    let long = nibbles-length (digits_of (n / 4) (nat_abs y)) in
    let many = digits_of-length (n / 4) (nat_abs y) in
    (nibbles ds, (nat_abs y, is, omega arith, record { digits = ds; spell = digits_of-are (n / 4) (nat_abs y) small; whole = sym (append-nil (nibbles ds)) }))
has_code mode BcdEnded little e y f o w a b l s =
    let g = and_parts (int_le (pos 0) e.0) (int_lt e.1 (pos (2 ^ 64))) w in
    let low = le_fact (pos 0) e.0 g.0 in
    let m = minimal_of (nat_abs y) l in
    (nibbles m.0 ++ low_bits 4 15, (nat_abs y, natural y (omega (arith, ints)), record { digits = m.0; spell = m.1; minimal = m.2; whole = refl }))
has_code mode (Ascii n false) little e y f o w a b l s =
    let g = and_parts (int_le (pos 0) e.0) (int_lt e.1 (pos (10 ^ (n / 8)))) w in
    let low = le_fact (pos 0) e.0 g.0 in
    let high = lt_fact e.1 (pos (10 ^ (n / 8))) g.1 in
    let is = natural y (omega (arith, ints)) in
    let small : nat_abs y < 10 ^ (n / 8) = omega (arith, ints) in
    let whole = whole_width n (nat_le 8 n && nat_le n 152) f in
    let ds = digits_of (n / 8) (nat_abs y) in
    let long = digit_octets-length (digits_of (n / 8) (nat_abs y)) in
    let many = digits_of-length (n / 8) (nat_abs y) in
    (digit_octets ds, (nat_abs y, [], (is, refl), omega arith, record { digits = ds; spell = digits_of-are (n / 8) (nat_abs y) small; whole = sym (append-nil (digit_octets ds)) }))
has_code mode (Ascii n true) little e y f o w a b l s =
    let g = and_parts (int_lt (neg_ℤ (pos (10 ^ (n / 8 - 1)))) e.0) (int_lt e.1 (pos (10 ^ (n / 8 - 1)))) w in
    let low = lt_fact (neg_ℤ (pos (10 ^ (n / 8 - 1)))) e.0 g.0 in
    let high = lt_fact e.1 (pos (10 ^ (n / 8 - 1))) g.1 in
    let small = magnitude_below (10 ^ (n / 8 - 1)) e.0 e.1 y low high a b in
    let whole = whole_width n (nat_le 16 n && nat_le n 152) f in
    let wide = leb-true 16 n (and_parts (nat_le 16 n) (nat_le n 152) (and_parts (nat_le 16 n && nat_le n 152) (nat_eq (n % 8) 0) f).0).0 in
    let sign = sign_of true y (λ q. cc) in
    let ds = digits_of (n / 8 - 1) (nat_abs y) in
    let long = digit_octets-length (digits_of (n / 8 - 1) (nat_abs y)) in
    let many = digits_of-length (n / 8 - 1) (nat_abs y) in
    let front = sign_long y sign.0 sign.1 in
    let joined = length-append sign.0 (digit_octets ds) in
    (sign.0 ++ digit_octets ds, (nat_abs y, sign.0, sign.1, omega arith, record { digits = ds; spell = digits_of-are (n / 8 - 1) (nat_abs y) small; whole = ap (λ t. sign.0 ++ t) (sym (append-nil (digit_octets ds))) }))
  where
    magnitude_below : (m : ℕ) (low high y : ℤ) → neg_ℤ (pos m) <ℤ low → high <ℤ pos m → low ≤ℤ y → y ≤ℤ high → nat_abs y < m
    magnitude_below m low high y h k a b = omega (arith, ints)

    sign_long : (y : ℤ) (bs : List Bool) → SignOctet true y (nat_abs y) bs → length bs ≡ 8
    sign_long (pos n) bs h = ap length h.1
    sign_long (negsuc n) bs h = ap length h.1
has_code mode (AsciiEnded end signed) little e y f o w a b l s =
    let m = minimal_of (nat_abs y) l in
    let sign = sign_of signed y (λ q. never_negative end signed e y q w a) in
    (sign.0 ++ (digit_octets m.0 ++ end), (nat_abs y, sign.0, sign.1, record { digits = m.0; spell = m.1; minimal = m.2; whole = refl }))
  where
    never_negative : (end : List Bool) (signed : Bool) (e : ℤ × ℤ) (y : ℤ) → signed ≡ false → can_write (AsciiEnded end signed) e ≡ true → e.0 ≤ℤ y → pos 0 ≤ℤ y
    never_negative end true e y q w a = cc
    never_negative end false e y q w a = let low = le_fact (pos 0) e.0 (and_parts (int_le (pos 0) e.0) (int_lt e.1 (pos (2 ^ 64))) w).0 in omega (arith, ints)
has_code mode (Flag p q) little e y f o w a b l s = flag_code mode p q y f s
has_code mode (Fixed pattern) little e y f o w a b l s = (pattern, (s, refl))
