-- No code of a number begins another, for every coding with fine widths and patterns.
use Rattle.std.proofs.Common.{◌≡◌, ◌≢◌, ℕ, ◌+◌, ◌%◌, ◌<◌, ◌≤◌, ℤ, pos, negsuc, Bool, true, false, not, List, [], ◌∷◌, ◌++◌, length, Some, None, refl, sym, ap, ◌∙◌, arith, append_assoc, append-nil, inl, inr, nat_eq, ◌&&◌}
use Rattle.std.specs.List.{AllByRecursion}
use Rattle.std.proofs.lemmas.Bool.Decides.{nat_tests}
use Rattle.acn_num.specs.Bits.{number, signed_number, low_bits}
use Rattle.acn_grammar.specs.Code.{nibbles, digit_octets, decimal_number, SignOctet}
use Rattle.acn_grammar.specs.Leaves.{coding_fine, is_terminator, begins_number, is_pattern, same_bits}
use Rattle.acn_grammar.specs.Spell.{octet_numbers}
use Rattle.acn_grammar.specs.declared.node.NumCoding.{NumCoding}
use Rattle.acn_grammar.specs.declared.node.NumCoding.TheVariants.{Range, CountedFrom, CountedSigned, PosInt, Twos, Bcd, BcdEnded, Ascii, AsciiEnded, Flag, Fixed}
use Rattle.acn_grammar.proofs.Prefix.{CodeLaw, same_front, number_law, range_law, pos_int_law, twos_law, fixed_law, flag_law, counted_law}
use Rattle.std.proofs.lemmas.Bool.{and_parts, not-true, eqb-true}
use Rattle.acn_num.proofs.BitLists.{number-low_bits}

-- Digits.

abbrev Digits : List ℕ → Type 0
Digits ds = AllByRecursion (λ d. d < 10) ds

pub nibble_one : (d e : ℕ) → d < 16 → e < 16 → low_bits 4 d ≡ low_bits 4 e → d ≡ e
nibble_one d e h k p =
    let q : d % 16 ≡ e % 16 = sym (number-low_bits 4 d) ∙ (ap number p ∙ number-low_bits 4 e) in
    omega arith

pub octet_of_one : (d e : ℕ) → d < 256 → e < 256 → low_bits 8 d ≡ low_bits 8 e → d ≡ e
octet_of_one d e h k p =
    let q : d % 256 ≡ e % 256 = sym (number-low_bits 8 d) ∙ (ap number p ∙ number-low_bits 8 e) in
    omega arith

-- digits in 4 bits each, with the same end behind them that is no digit
nibbles_law : (ds es : List ℕ) (r s : List Bool) → Digits ds → Digits es → nibbles ds ++ (low_bits 4 15 ++ r) ≡ nibbles es ++ (low_bits 4 15 ++ s) → ds ≡ es
nibbles_law [] [] r s p q e = refl
nibbles_law [] (x ∷ es) r s p q e =
    let f = same_front (low_bits 4 15) (low_bits 4 x) r (nibbles es ++ (low_bits 4 15 ++ s)) refl e in
    let low = q.0 in
    let n = nibble_one 15 x (omega arith) (omega arith) f.0 in
    absurd (omega arith)
nibbles_law (x ∷ ds) [] r s p q e =
    let f = same_front (low_bits 4 x) (low_bits 4 15) (nibbles ds ++ (low_bits 4 15 ++ r)) s refl e in
    let low = p.0 in
    let n = nibble_one x 15 (omega arith) (omega arith) f.0 in
    absurd (omega arith)
nibbles_law (x ∷ ds) (y ∷ es) r s p q e =
    let f = same_front (low_bits 4 x) (low_bits 4 y) (nibbles ds ++ (low_bits 4 15 ++ r)) (nibbles es ++ (low_bits 4 15 ++ s)) refl e in
    let low = p.0 in
    let low' = q.0 in
    let first : x ≡ y = nibble_one x y (omega arith) (omega arith) f.0 in
    let rest = nibbles_law ds es r s p.1 q.1 f.1 in
    cc

-- as many digits in as many bits
nibbles_one : (ds es : List ℕ) → Digits ds → Digits es → nibbles ds ≡ nibbles es → ds ≡ es
nibbles_one [] [] p q e = refl
nibbles_one [] (x ∷ es) p q e = cc
nibbles_one (x ∷ ds) [] p q e = cc
nibbles_one (x ∷ ds) (y ∷ es) p q e =
    let f = same_front (low_bits 4 x) (low_bits 4 y) (nibbles ds) (nibbles es) refl e in
    let low = p.0 in
    let low' = q.0 in
    let first : x ≡ y = nibble_one x y (omega arith) (omega arith) f.0 in
    let rest = nibbles_one ds es p.1 q.1 f.1 in
    cc

pub digit_octet_one : (x y : ℕ) → x < 10 → y < 10 → low_bits 8 (48 + x) ≡ low_bits 8 (48 + y) → x ≡ y
digit_octet_one x y h k e =
    let n = octet_of_one (48 + x) (48 + y) (omega arith) (omega arith) e in
    omega arith

digit_octets_one : (ds es : List ℕ) → Digits ds → Digits es → digit_octets ds ≡ digit_octets es → ds ≡ es
digit_octets_one [] [] p q e = refl
digit_octets_one [] (x ∷ es) p q e = cc
digit_octets_one (x ∷ ds) [] p q e = cc
digit_octets_one (x ∷ ds) (y ∷ es) p q e =
    let f = same_front (low_bits 8 (48 + x)) (low_bits 8 (48 + y)) (digit_octets ds) (digit_octets es) refl e in
    let first : x ≡ y = digit_octet_one x y p.0 q.0 f.0 in
    let rest = digit_octets_one ds es p.1 q.1 f.1 in
    cc

-- an end that can't be taken for a digit
abbrev pub NoDigit : List Bool → Type 0
NoDigit end = (d : ℕ) (more r : List Bool) → d < 10 → end ++ r ≡ low_bits 8 (48 + d) ++ more → ⊥

digit_octets_law : (end : List Bool) → NoDigit end → (ds es : List ℕ) (r s : List Bool) → Digits ds → Digits es → digit_octets ds ++ (end ++ r) ≡ digit_octets es ++ (end ++ s) → ds ≡ es
digit_octets_law end apart [] [] r s p q e = refl
digit_octets_law end apart [] (x ∷ es) r s p q e = absurd (apart x (digit_octets es ++ (end ++ s)) r q.0 e)
digit_octets_law end apart (x ∷ ds) [] r s p q e = absurd (apart x (digit_octets ds ++ (end ++ r)) s p.0 (sym e))
digit_octets_law end apart (x ∷ ds) (y ∷ es) r s p q e =
    let f = same_front (low_bits 8 (48 + x)) (low_bits 8 (48 + y)) (digit_octets ds ++ (end ++ r)) (digit_octets es ++ (end ++ s)) refl e in
    let first : x ≡ y = digit_octet_one x y p.0 q.0 f.0 in
    let rest = digit_octets_law end apart ds es r s p.1 q.1 f.1 in
    cc

-- Decimal digits.

digits_tell : (ds es : List ℕ) (j k : ℕ) → ds ≡ es → decimal_number ds ≡ j → decimal_number es ≡ k → j ≡ k
digits_tell ds es j k e p q = sym p ∙ (ap decimal_number e ∙ q)

bcd_law : (n : ℕ) (little : Bool) → CodeLaw (Bcd n) little
bcd_law n little y z at a b r s p q e =
    let h = (same_front a b r s (p.2 ∙ sym q.2) e).0 in
    let one = p.3 in
    let two = q.3 in
    let bits : nibbles one.digits ≡ nibbles two.digits = sym (append-nil (nibbles one.digits)) ∙ (sym one.whole ∙ (h ∙ (two.whole ∙ append-nil (nibbles two.digits)))) in
    let ds = nibbles_one one.digits two.digits one.spell.digits two.spell.digits bits in
    let k = digits_tell one.digits two.digits p.0 q.0 ds one.spell.value two.spell.value in
    (h, p.1 ∙ (ap (λ n. pos n) k ∙ sym q.1))

-- a code that is followed by its end, and by more
pub followed : (a front digits end r : List Bool) → a ≡ front ++ (digits ++ end) → a ++ r ≡ front ++ (digits ++ (end ++ r))
followed a front digits end r e = rw e (append_assoc front (digits ++ end) r ∙ ap (λ x. front ++ x) (append_assoc digits end r))

bcd_ended_law : (little : Bool) → CodeLaw BcdEnded little
bcd_ended_law little y z at a b r s p q e =
    let one = p.2 in
    let two = q.2 in
    let wide = sym (followed a [] (nibbles one.digits) (low_bits 4 15) r one.whole) ∙ (e ∙ followed b [] (nibbles two.digits) (low_bits 4 15) s two.whole) in
    let ds = nibbles_law one.digits two.digits r s one.spell.digits two.spell.digits wide in
    let k = digits_tell one.digits two.digits p.0 q.0 ds one.spell.value two.spell.value in
    (one.whole ∙ (ap (λ d. nibbles d ++ low_bits 4 15) ds ∙ sym two.whole), p.1 ∙ (ap (λ n. pos n) k ∙ sym q.1))

-- Characters.

pub plus_minus : low_bits 8 43 ≡ low_bits 8 45 → ⊥
plus_minus e = cc

sign_law : (signed : Bool) (y z : ℤ) (j k : ℕ) (u v x w : List Bool) → SignOctet signed y j u → SignOctet signed z k v → u ++ x ≡ v ++ w → (u ≡ v) × (x ≡ w) × (j ≡ k → y ≡ z)
sign_law false y z j k u v x w p q e =
    let a = p.1 in
    let b = q.1 in
    let bits : x ≡ w = ap (λ l. l ++ x) (sym a) ∙ (e ∙ ap (λ l. l ++ w) b) in
    (a ∙ sym b, bits, λ h. p.0 ∙ (ap (λ n. pos n) h ∙ sym q.0))
sign_law true (pos m) (pos n) j k u v x w p q e =
    let f = same_front u v x w (ap length p.1 ∙ sym (ap length q.1)) e in
    (f.0, f.1, λ h. let a = p.0 in let b = q.0 in cc)
sign_law true (negsuc m) (negsuc n) j k u v x w p q e =
    let f = same_front u v x w (ap length p.1 ∙ sym (ap length q.1)) e in
    (f.0, f.1, λ h. let a = p.0 in let b = q.0 in cc)
sign_law true (pos m) (negsuc n) j k u v x w p q e =
    let f = same_front u v x w (ap length p.1 ∙ sym (ap length q.1)) e in
    absurd (plus_minus (sym p.1 ∙ (f.0 ∙ q.1)))
sign_law true (negsuc m) (pos n) j k u v x w p q e =
    let f = same_front u v x w (ap length p.1 ∙ sym (ap length q.1)) e in
    absurd (plus_minus (sym q.1 ∙ (sym f.0 ∙ p.1)))

ascii_law : (n : ℕ) (signed little : Bool) → CodeLaw (Ascii n signed) little
ascii_law n signed little y z at a b r s p q e =
    let h = (same_front a b r s (p.3 ∙ sym q.3) e).0 in
    let one = p.4 in
    let two = q.4 in
    let f = sign_law signed y z p.0 q.0 p.1 q.1 (digit_octets one.digits ++ []) (digit_octets two.digits ++ []) p.2 q.2 (sym one.whole ∙ (h ∙ two.whole)) in
    let bits : digit_octets one.digits ≡ digit_octets two.digits = sym (append-nil (digit_octets one.digits)) ∙ (f.1 ∙ append-nil (digit_octets two.digits)) in
    let ds = digit_octets_one one.digits two.digits one.spell.digits two.spell.digits bits in
    (h, f.2 (digits_tell one.digits two.digits p.0 q.0 ds one.spell.value two.spell.value))

parts_one : (u v : List Bool) (ds es : List ℕ) (end : List Bool) → u ≡ v → ds ≡ es → u ++ (digit_octets ds ++ end) ≡ v ++ (digit_octets es ++ end)
parts_one u v ds es end p q = cc

ascii_ended_law : (end : List Bool) (signed little : Bool) → NoDigit end → CodeLaw (AsciiEnded end signed) little
ascii_ended_law end signed little apart y z at a b r s p q e =
    let one = p.3 in
    let two = q.3 in
    let wide = sym (followed a p.1 (digit_octets one.digits) end r one.whole) ∙ (e ∙ followed b q.1 (digit_octets two.digits) end s two.whole) in
    let f = sign_law signed y z p.0 q.0 p.1 q.1 (digit_octets one.digits ++ (end ++ r)) (digit_octets two.digits ++ (end ++ s)) p.2 q.2 wide in
    let ds = digit_octets_law end apart one.digits two.digits r s one.spell.digits two.spell.digits f.1 in
    (one.whole ∙ (parts_one p.1 q.1 one.digits two.digits end f.0 ds ∙ sym two.whole), f.2 (digits_tell one.digits two.digits p.0 q.0 ds one.spell.value two.spell.value))

-- Counted numbers below zero.

counted_signed_law : (little : Bool) → CodeLaw CountedSigned little
counted_signed_law little y z at a b r s t u e =
    let shifted : t.front ++ (t.body ++ r) ≡ u.front ++ (u.body ++ s) =
    sym (append_assoc t.front t.body r) ∙ (ap (λ x. x ++ r) (sym t.whole) ∙ (e ∙ (ap (λ x. x ++ s) u.whole ∙ append_assoc u.front u.body s))) in
    let first = number_law 8 t.count u.count t.front u.front _ _ t.counts u.counts shifted in
    let rest = (same_front t.front u.front _ _ (ap length first.0) shifted).1 in
    let count_is = first.1 in
    let one = t.spells.width in
    let two = u.spells.width in
    let l : length t.body ≡ length u.body = omega arith in
    let body_is = (same_front t.body u.body r s l rest).0 in
    let front_is = first.0 in
    (cc, sym t.spells.value ∙ (ap signed_number body_is ∙ u.spells.value))

-- Booleans.

flag_bit_law : (little : Bool) → CodeLaw (Flag None None) little
flag_bit_law little y z at a b r s p q e =
    let h = number_law 1 p.0 q.0 a b r s p.2 q.2 e in
    (h.0, p.1 ∙ (ap (λ n. pos n) h.1 ∙ sym q.1))

-- the same with the pattern of false alone
flag_no_law : (p : List Bool) (little : Bool) → CodeLaw (Flag None (Some p)) little
flag_no_law p little y z at a b r s (inl x) (inl w) e = (x.1 ∙ sym w.1, x.0 ∙ sym w.0)
flag_no_law p little y z at a b r s (inr x) (inr w) e = ((same_front a b r s (x.1.0 ∙ sym w.1.0) e).0, x.0 ∙ sym w.0)
flag_no_law p little y z at a b r s (inl x) (inr w) e = absurd (w.1.1 (sym ((same_front a b r s (ap length x.1 ∙ sym w.1.0) e).0) ∙ x.1))
flag_no_law p little y z at a b r s (inr x) (inl w) e = absurd (x.1.1 ((same_front a b r s (x.1.0 ∙ sym (ap length w.1)) e).0 ∙ w.1))

-- two patterns of one length that differ
flag_two_law : (p q : List Bool) (little : Bool) → length p ≡ length q → p ≢ q → CodeLaw (Flag (Some p) (Some q)) little
flag_two_law p q little l d y z at a b r s (inl x) (inl w) e = (x.1 ∙ sym w.1, x.0 ∙ sym w.0)
flag_two_law p q little l d y z at a b r s (inr x) (inr w) e = (x.1 ∙ sym w.1, x.0 ∙ sym w.0)
flag_two_law p q little l d y z at a b r s (inl x) (inr w) e =
    absurd (d (sym x.1 ∙ ((same_front a b r s (ap length x.1 ∙ (l ∙ sym (ap length w.1))) e).0 ∙ w.1)))
flag_two_law p q little l d y z at a b r s (inr x) (inl w) e =
    absurd (d (sym w.1 ∙ (sym ((same_front a b r s (ap length x.1 ∙ (sym l ∙ sym (ap length w.1))) e).0) ∙ x.1)))

-- From the rules of a leaf.

digit_begins : (v : ℕ) (os : List ℕ) → 48 ≤ v → v ≤ 57 → begins_number (v ∷ os) ≡ false → ⊥
digit_begins v os h k e = grind (arith, nat_tests)

pub no_digit : (end : List Bool) → is_terminator end ≡ true → begins_number (octet_numbers end) ≡ false → NoDigit end
no_digit (a ∷ b ∷ c ∷ d ∷ e ∷ f ∷ g ∷ h ∷ rest) t n x more r below eq =
    let w = same_front (a ∷ b ∷ c ∷ d ∷ e ∷ f ∷ g ∷ h ∷ []) (low_bits 8 (48 + x)) (rest ++ r) more refl eq in
    let v : number (a ∷ b ∷ c ∷ d ∷ e ∷ f ∷ g ∷ h ∷ []) ≡ (48 + x) % 256 = ap number w.0 ∙ number-low_bits 8 (48 + x) in
    digit_begins (number (a ∷ b ∷ c ∷ d ∷ e ∷ f ∷ g ∷ h ∷ [])) (octet_numbers rest) (omega arith) (omega arith) n
no_digit [] t n x more r below eq = cc
no_digit (a ∷ []) t n x more r below eq = cc
no_digit (a ∷ b ∷ []) t n x more r below eq = cc
no_digit (a ∷ b ∷ c ∷ []) t n x more r below eq = cc
no_digit (a ∷ b ∷ c ∷ d ∷ []) t n x more r below eq = cc
no_digit (a ∷ b ∷ c ∷ d ∷ e ∷ []) t n x more r below eq = cc
no_digit (a ∷ b ∷ c ∷ d ∷ e ∷ f ∷ []) t n x more r below eq = cc
no_digit (a ∷ b ∷ c ∷ d ∷ e ∷ f ∷ g ∷ []) t n x more r below eq = cc

pub same_bits-refl : (p : List Bool) → same_bits p p ≡ true
same_bits-refl [] = refl
same_bits-refl (true ∷ p) = same_bits-refl p
same_bits-refl (false ∷ p) = same_bits-refl p

pub patterns_differ : (p q : List Bool) → same_bits p q ≡ false → p ≢ q
patterns_differ p q h e =
    let t : same_bits p q ≡ true = ap (λ x. same_bits p x) (sym e) ∙ same_bits-refl p in
    cc

pub coding_law : (coding : NumCoding) (little : Bool) → coding_fine coding ≡ true → CodeLaw coding little
coding_law (Range low width) little h = range_law low width little
coding_law (CountedFrom low) little h = counted_law low little
coding_law CountedSigned little h = counted_signed_law little
coding_law (PosInt n) little h = pos_int_law n little
coding_law (Twos n) little h = twos_law n little
coding_law (Bcd n) little h = bcd_law n little
coding_law BcdEnded little h = bcd_ended_law little
coding_law (Ascii n signed) little h = ascii_law n signed little
coding_law (AsciiEnded end signed) little h =
    let w = and_parts (is_terminator end) (not (begins_number (octet_numbers end))) h in
    ascii_ended_law end signed little (no_digit end w.0 (not-true (begins_number (octet_numbers end)) w.1))
coding_law (Flag None None) little h = flag_bit_law little
coding_law (Flag (Some p) None) little h = flag_law p little
coding_law (Flag None (Some q)) little h = flag_no_law q little
coding_law (Flag (Some p) (Some q)) little h =
    let a = and_parts (is_pattern p) (nat_eq (length p) (length q) && not (same_bits p q)) h in
    let b = and_parts (nat_eq (length p) (length q)) (not (same_bits p q)) a.1 in
    flag_two_law p q little (eqb-true (length p) (length q) b.0) (patterns_differ p q (not-true (same_bits p q) b.1))
coding_law (Fixed pattern) little h = fixed_law pattern little

pub same_bits-is : (a b : List Bool) → same_bits a b ≡ true → a ≡ b
same_bits-is [] [] h = refl
same_bits-is [] (y ∷ b) h = cc
same_bits-is (true ∷ a) [] h = cc
same_bits-is (false ∷ a) [] h = cc
same_bits-is (true ∷ a) (true ∷ b) h = ap (λ l. true ∷ l) (same_bits-is a b h)
same_bits-is (false ∷ a) (false ∷ b) h = ap (λ l. false ∷ l) (same_bits-is a b h)
same_bits-is (true ∷ a) (false ∷ b) h = cc
same_bits-is (false ∷ a) (true ∷ b) h = cc
