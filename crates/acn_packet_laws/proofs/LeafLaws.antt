-- A code and a failure of a leaf that keeps its rules exclude each other, and two failures are one.
use Rattle.std.proofs.Common.{◌≡◌, ℕ, ◌+◌, ◌%◌, ◌^◌, ◌<◌, ◌≤◌, ℤ, pos, negsuc, ◌+ℤ◌, Bool, true, false, not, List, [], ◌∷◌, ◌++◌, length, take, drop, Some, refl, sym, ap, ◌∙◌, arith, length-append, inl, inr, ◌⊎◌, nat_eq, nat_le, ◌&&◌, subst}
use Rattle.std.specs.Prelude.{neg_ℤ, nat_abs, int_le}
use Rattle.acn_num.specs.Bits.{number, signed_number, low_bits}
use Rattle.acn_num.specs.Ranges.{In, has}
use Rattle.acn_grammar.specs.Code.{Any, CodingCode, nibbles, digit_octets, SignOctet, image_of}
use Rattle.acn_grammar.specs.Images.{images_of}
use Rattle.acn_grammar.specs.LeafFails.{Reason, CodingFails, AsciiEndedFails, BehindSign, EndedFails, Positive, Negative, most_digits, sign_cut, fails_behind_plus, fails_behind_minus, no_sign_octet}
use Rattle.acn_grammar.specs.Leaves.{coding_fine, is_terminator, is_pattern, begins_number}
use Rattle.acn_grammar.specs.Length.{least_octets, least_signed_octets, fits_octets, digit_count, flag_width}
use Rattle.acn_grammar.specs.Spell.{octet_numbers}
use Rattle.acn_grammar.specs.declared.node.NumCoding.{NumCoding}
use Rattle.acn_grammar.specs.declared.node.NumCoding.TheVariants.{Range, CountedFrom, CountedSigned, PosInt, Twos, Bcd, BcdEnded, Ascii, AsciiEnded, Flag, Fixed}
use Rattle.acn_grammar.specs.declared.node.NumLeaf.{NumLeaf}
use Rattle.acn_grammar.proofs.Codings.{nibble_one, digit_octet_one, no_digit, followed}
use Rattle.acn_grammar.proofs.Counts.{counted-octets, counted-signed, digits-count}
use Rattle.acn_packet_laws.proofs.EndedExclusion.{Coded, ended_same, ended_excl}
use Rattle.acn_packet_laws.proofs.Exclusion.{take_n, drop_n}
use Rattle.acn_grammar.proofs.FineLeaves.{rules_of}
use Rattle.acn_packet_laws.proofs.LeafExclusion.{fixed_same, fixed_excl, code_says, counted_same, counted_excl}
use Rattle.acn_grammar.proofs.LeafLengths.{Limits, limits_of, coding-length, sign-length}
use Rattle.acn_grammar.proofs.Monotone.{range_has}
use Rattle.acn_packet_laws.proofs.NodeExclusion.{LeafExcl, LeafSame}
use Rattle.acn_grammar.proofs.Prefix.{same_front}
use Rattle.acn_packet_laws.proofs.WidthBack.{count-most}
use Rattle.acn_grammar.proofs.Within.{image_has, between}
use Rattle.std.proofs.lemmas.Bool.{leb-true, and_parts, not-true, eqb-true}
use Rattle.acn_grammar.proofs.WholeTests.{either}

pub coded_nibbles : Coded nibbles 4 (low_bits 4 15)
coded_nibbles = record {
  one = λ d. low_bits 4 d;
  none = refl;
  step = λ d ds. refl;
  long = λ d. refl;
  tell = λ d e p q h. nibble_one d e (omega arith) (omega arith) h;
  apart = λ d more r p h. let e = nibble_one 15 d (omega arith) (omega arith) (same_front (low_bits 4 15) (low_bits 4 d) r more refl h).0 in absurd (omega arith);
  wide = omega arith;
}

pub coded_octets : (end : List Bool) → (is_terminator end && not (begins_number (octet_numbers end))) ≡ true → Coded digit_octets 8 end
coded_octets end h =
    let w = and_parts (is_terminator end) (not (begins_number (octet_numbers end))) h in
    let t = and_parts (is_pattern end) (nat_eq (length end % 8) 0) w.0 in
    let whole = eqb-true (length end % 8) 0 t.1 in
    let some = leb-true 1 (length end) (and_parts (nat_le 1 (length end)) (nat_le (length end) 64) t.0).0 in
    record {
      one = λ d. low_bits 8 (48 + d);
      none = refl;
      step = λ d ds. refl;
      long = λ d. refl;
      tell = λ d e p q k. digit_octet_one d e p q k;
      apart = no_digit end w.0 (not-true (begins_number (octet_numbers end)) w.1);
      wide = omega arith;
    }

positive_one : (k : ℕ) (x y : ℤ) → Positive k x → Positive k y → x ≡ y
positive_one k x y p q = p ∙ sym q

negative_one : (k : ℕ) (x y : ℤ) → Negative k x → Negative k y → x ≡ y
negative_one k x y p q = p.1 ∙ sym q.1

-- Two failures.

behind_same : (leaf : NumLeaf) (end : List Bool) (IsValue : ℕ → ℤ → Type 0) → Coded digit_octets 8 end → ((k : ℕ) (x y : ℤ) → IsValue k x → IsValue k y → x ≡ y) → (rest : List Bool) (r r' : Reason) (m n : ℕ) → BehindSign leaf end IsValue rest r m → BehindSign leaf end IsValue rest r' n → (r ≡ r') × (m ≡ n)
behind_same leaf end IsValue coded value rest r r' m n p q =
    let one = ended_same digit_octets 8 end coded leaf (most_digits (images_of leaf)) IsValue value (drop 8 rest) r r' p.more q.more p.fails q.fails in
    let a = one.1 in
    let b = p.reaches in
    let c = q.reaches in
    (one.0, omega arith)

ascii_same : (leaf : NumLeaf) (end : List Bool) (signed : Bool) → Coded digit_octets 8 end → (rest : List Bool) (r r' : Reason) (m n : ℕ) → AsciiEndedFails leaf end signed rest r m → AsciiEndedFails leaf end signed rest r' n → (r ≡ r') × (m ≡ n)
ascii_same leaf end false coded rest r r' m n p q = ended_same digit_octets 8 end coded leaf (most_digits (images_of leaf)) Positive positive_one rest r r' m n p q
ascii_same leaf end true coded rest r r' m n (sign_cut p) (sign_cut q) = (p.1 ∙ sym q.1, p.2 ∙ sym q.2)
ascii_same leaf end true coded rest r r' m n (sign_cut p) (fails_behind_plus q) = let a = p.0 in let b = q.0 in absurd (omega arith)
ascii_same leaf end true coded rest r r' m n (sign_cut p) (fails_behind_minus q) = let a = p.0 in let b = q.0 in absurd (omega arith)
ascii_same leaf end true coded rest r r' m n (sign_cut p) (no_sign_octet q) = let a = p.0 in let b = q.0 in absurd (omega arith)
ascii_same leaf end true coded rest r r' m n (fails_behind_plus p) (sign_cut q) = let a = p.0 in let b = q.0 in absurd (omega arith)
ascii_same leaf end true coded rest r r' m n (fails_behind_plus p) (fails_behind_plus q) = behind_same leaf end Positive coded positive_one rest r r' m n p.2 q.2
ascii_same leaf end true coded rest r r' m n (fails_behind_plus p) (fails_behind_minus q) = let a = p.1 in let b = q.1 in absurd (omega arith)
ascii_same leaf end true coded rest r r' m n (fails_behind_plus p) (no_sign_octet q) = absurd (q.1 (inl p.1))
ascii_same leaf end true coded rest r r' m n (fails_behind_minus p) (sign_cut q) = let a = p.0 in let b = q.0 in absurd (omega arith)
ascii_same leaf end true coded rest r r' m n (fails_behind_minus p) (fails_behind_plus q) = let a = p.1 in let b = q.1 in absurd (omega arith)
ascii_same leaf end true coded rest r r' m n (fails_behind_minus p) (fails_behind_minus q) = behind_same leaf end Negative coded negative_one rest r r' m n p.2 q.2
ascii_same leaf end true coded rest r r' m n (fails_behind_minus p) (no_sign_octet q) = absurd (q.1 (inr p.1))
ascii_same leaf end true coded rest r r' m n (no_sign_octet p) (sign_cut q) = let a = p.0 in let b = q.0 in absurd (omega arith)
ascii_same leaf end true coded rest r r' m n (no_sign_octet p) (fails_behind_plus q) = absurd (p.1 (inl q.1))
ascii_same leaf end true coded rest r r' m n (no_sign_octet p) (fails_behind_minus q) = absurd (p.1 (inr q.1))
ascii_same leaf end true coded rest r r' m n (no_sign_octet p) (no_sign_octet q) = (p.2 ∙ sym q.2, p.3 ∙ sym q.3)

coding_same : (coding : NumCoding) (leaf : NumLeaf) → coding_fine coding ≡ true → (rest : List Bool) (r r' : Reason) (m n : ℕ) → CodingFails coding leaf rest r m → CodingFails coding leaf rest r' n → (r ≡ r') × (m ≡ n)
coding_same (Range low width) leaf f rest r r' m n p q = fixed_same (Range low width) leaf width rest r r' m n p q
coding_same (CountedFrom low) leaf f rest r r' m n p q = counted_same leaf (λ b. pos (number b)) (λ x. least_octets (nat_abs x)) (λ x. low +ℤ x) rest r r' m n p q
coding_same CountedSigned leaf f rest r r' m n p q = counted_same leaf signed_number least_signed_octets (λ x. x) rest r r' m n p q
coding_same (PosInt k) leaf f rest r r' m n p q = fixed_same (PosInt k) leaf k rest r r' m n p q
coding_same (Twos k) leaf f rest r r' m n p q = fixed_same (Twos k) leaf k rest r r' m n p q
coding_same (Bcd k) leaf f rest r r' m n p q = fixed_same (Bcd k) leaf k rest r r' m n p q
coding_same BcdEnded leaf f rest r r' m n p q = ended_same nibbles 4 (low_bits 4 15) coded_nibbles leaf (most_digits (images_of leaf)) Positive positive_one rest r r' m n p q
coding_same (Ascii k signed) leaf f rest r r' m n p q = fixed_same (Ascii k signed) leaf k rest r r' m n p q
coding_same (AsciiEnded end signed) leaf f rest r r' m n p q = ascii_same leaf end signed (coded_octets end f) rest r r' m n p q
coding_same (Flag a b) leaf f rest r r' m n p q = fixed_same (Flag a b) leaf (flag_width a b) rest r r' m n p q
coding_same (Fixed a) leaf f rest r r' m n p q = fixed_same (Fixed a) leaf (length a) rest r r' m n p q

pub leaf_same : LeafSame
leaf_same leaf fine rest r r' m n p q = coding_same leaf.coding leaf (rules_of leaf fine).coding rest r r' m n p q

-- A code and a failure.

most_has : (rs : List (ℤ × ℤ)) (y : ℤ) → has rs y ≡ true → digit_count (nat_abs y) ≤ most_digits rs
most_has [] y h = cc
most_has (r ∷ rs) y h = either {F = digit_count (nat_abs y) ≤ most_digits (r ∷ rs)} (int_le r.0 y && int_le y r.1) (has rs y) h
    (λ q. let w = between r.0 r.1 y q in let b = (range_has BcdEnded tt r y w.0 w.1).1 in omega arith)
    (λ q. let b = most_has rs y q in omega arith)

counted_few : (k : ℕ) → least_octets k ≤ 8
counted_few k = omega (arith, count-most (λ c. nat_le (256 ^ c) k) 1 7)

signed_few : (y : ℤ) → least_signed_octets y ≤ 8
signed_few y = omega (arith, count-most (λ c. not (fits_octets y c)) 1 7)

sign_value : (y : ℤ) (k : ℕ) (sign rest : List Bool) → SignOctet true y k sign → (((number (take 8 (sign ++ rest)) ≡ 43) × Positive k y) ⊎ ((number (take 8 (sign ++ rest)) ≡ 45) × Negative k y)) × (drop 8 (sign ++ rest) ≡ rest) × (8 ≤ length (sign ++ rest))
sign_value (pos n) k sign rest h =
    let l = ap length h.1 in
    (inl (ap number (take_n 8 sign rest l ∙ h.1), ap (λ z. pos z) (sym h.0)), drop_n 8 sign rest l, omega (arith, length-append sign rest))
sign_value (negsuc n) k sign rest h =
    let l = ap length h.1 in
    let is = h.0 in
    (inr (ap number (take_n 8 sign rest l ∙ h.1), (omega arith, ap (λ z. neg_ℤ (pos z)) (sym h.0))), drop_n 8 sign rest l, omega (arith, length-append sign rest))

coding_excl : (coding : NumCoding) (leaf : NumLeaf) → coding_fine coding ≡ true → (x y : ℤ) → Limits coding y → In leaf.set x → image_of leaf x ≡ Some y → (bs r : List Bool) (reason : Reason) (reach : ℕ) → CodingCode Any coding leaf.little y bs → CodingFails coding leaf (bs ++ r) reason reach → ⊥
coding_excl (Range low width) leaf f x y l p m bs r reason reach c e = fixed_excl (Range low width) leaf width x y bs r reason reach c.2.width (λ w h. code_says (Range low width) leaf.little y bs w f c h) p m e
coding_excl (PosInt n) leaf f x y l p m bs r reason reach c e = fixed_excl (PosInt n) leaf n x y bs r reason reach c.0 (λ w h. code_says (PosInt n) leaf.little y bs w f c h) p m e
coding_excl (Twos n) leaf f x y l p m bs r reason reach c e = fixed_excl (Twos n) leaf n x y bs r reason reach c.0 (λ w h. code_says (Twos n) leaf.little y bs w f c h) p m e
coding_excl (Bcd n) leaf f x y l p m bs r reason reach c e = fixed_excl (Bcd n) leaf n x y bs r reason reach c.2 (λ w h. code_says (Bcd n) leaf.little y bs w f c h) p m e
coding_excl (Ascii n signed) leaf f x y l p m bs r reason reach c e = fixed_excl (Ascii n signed) leaf n x y bs r reason reach c.3 (λ w h. code_says (Ascii n signed) leaf.little y bs w f c h) p m e
coding_excl (Flag a b) leaf f x y l p m bs r reason reach c e = fixed_excl (Flag a b) leaf (flag_width a b) x y bs r reason reach (coding-length (Flag a b) leaf.little Any y bs f tt c) (λ w h. code_says (Flag a b) leaf.little y bs w f c h) p m e
coding_excl (Fixed a) leaf f x y l p m bs r reason reach c e = fixed_excl (Fixed a) leaf (length a) x y bs r reason reach (ap length c.1) (λ w h. code_says (Fixed a) leaf.little y bs w f c h) p m e
coding_excl (CountedFrom low) leaf f x y l p m bs r reason reach c e =
    let t = c.2 in
    let small = l c.0 c.1 in
    let long = counted-octets c.0 bs small t in
    let whole = ap length t.whole ∙ length-append t.front t.body in
    let front = t.counts.width in
    let body = t.spells.width in
    let need : least_octets c.0 ≡ t.count = omega arith in
    let few = counted_few c.0 in
    counted_excl leaf (λ b. pos (number b)) (λ z. least_octets (nat_abs z)) (λ z. low +ℤ z) x y t.count t.front t.body r reason reach t.counts t.spells.width t.positive (omega arith) (ap least_octets t.spells.value ∙ need) (ap (λ k. low +ℤ pos k) t.spells.value ∙ sym c.1) p m
    (subst (λ (z : List Bool). CodingFails (CountedFrom low) leaf (z ++ r) reason reach) t.whole e)
coding_excl CountedSigned leaf f x y l p m bs r reason reach t e =
    let long = counted-signed y bs l t in
    let whole = ap length t.whole ∙ length-append t.front t.body in
    let front = t.counts.width in
    let body = t.spells.width in
    let need : least_signed_octets y ≡ t.count = omega arith in
    let few = signed_few y in
    counted_excl leaf signed_number least_signed_octets (λ z. z) x y t.count t.front t.body r reason reach t.counts t.spells.width t.positive (omega arith) (ap least_signed_octets t.spells.value ∙ need) t.spells.value p m
    (subst (λ (z : List Bool). CodingFails CountedSigned leaf (z ++ r) reason reach) t.whole e)
coding_excl BcdEnded leaf f x y l p m bs r reason reach c e =
    let t = c.2 in
    let k : nat_abs y ≡ c.0 = ap nat_abs c.1 in
    let many = digits-count c.0 t.digits (subst (λ (z : ℕ). z < 10 ^ 20) k l) t.spell t.minimal in
    let most = most_has (images_of leaf) y (image_has leaf x y p m) in
    let same : digit_count (nat_abs y) ≡ digit_count c.0 = ap digit_count k in
    ended_excl nibbles 4 (low_bits 4 15) coded_nibbles leaf (most_digits (images_of leaf)) Positive positive_one t.digits r x y reason reach t.spell.digits t.minimal (omega arith) (c.1 ∙ ap (λ z. pos z) (sym t.spell.value)) p m
    (subst (λ (z : List Bool). CodingFails BcdEnded leaf z reason reach) (followed bs [] (nibbles t.digits) (low_bits 4 15) r t.whole) e)
coding_excl (AsciiEnded end false) leaf f x y l p m bs r reason reach c e =
    let t = c.3 in
    let k : nat_abs y ≡ c.0 = ap nat_abs c.2.0 in
    let many = digits-count c.0 t.digits (subst (λ (z : ℕ). z < 10 ^ 20) k l) t.spell t.minimal in
    let most = most_has (images_of leaf) y (image_has leaf x y p m) in
    let same : digit_count (nat_abs y) ≡ digit_count c.0 = ap digit_count k in
    ended_excl digit_octets 8 end (coded_octets end f) leaf (most_digits (images_of leaf)) Positive positive_one t.digits r x y reason reach t.spell.digits t.minimal (omega arith) (c.2.0 ∙ ap (λ z. pos z) (sym t.spell.value)) p m
    (subst (λ (z : List Bool). CodingFails (AsciiEnded end false) leaf z reason reach) (followed bs [] (digit_octets t.digits) end r (t.whole ∙ ap (λ z. z ++ (digit_octets t.digits ++ end)) c.2.1)) e)
coding_excl (AsciiEnded end true) leaf f x y l p m bs r reason reach c e =
    signed (sign_value y c.0 c.1 (digit_octets c.3.digits ++ (end ++ r)) c.2)
    (subst (λ (z : List Bool). CodingFails (AsciiEnded end true) leaf z reason reach) (followed bs c.1 (digit_octets c.3.digits) end r c.3.whole) e)
  where
    k : nat_abs y ≡ c.0
    k = sym (sign-length true y c.0 c.1 c.2).1

    few : length c.3.digits ≤ most_digits (images_of leaf)
    few =
        let many = digits-count c.0 c.3.digits (subst (λ (z : ℕ). z < 10 ^ 20) k l) c.3.spell c.3.minimal in
        let most = most_has (images_of leaf) y (image_has leaf x y p m) in
        let same : digit_count (nat_abs y) ≡ digit_count c.0 = ap digit_count k in
        omega arith

    input : List Bool
    input = c.1 ++ (digit_octets c.3.digits ++ (end ++ r))

    behind : (IsValue : ℕ → ℤ → Type 0) → ((k : ℕ) (a b : ℤ) → IsValue k a → IsValue k b → a ≡ b) → IsValue c.0 y → drop 8 (c.1 ++ (digit_octets c.3.digits ++ (end ++ r))) ≡ digit_octets c.3.digits ++ (end ++ r) → BehindSign leaf end IsValue (c.1 ++ (digit_octets c.3.digits ++ (end ++ r))) reason reach → ⊥
    behind IsValue one v d b =
        ended_excl digit_octets 8 end (coded_octets end f) leaf (most_digits (images_of leaf)) IsValue one c.3.digits r x y reason b.more c.3.spell.digits c.3.minimal few (subst (λ (z : ℕ). IsValue z y) (sym c.3.spell.value) v) p m
        (subst (λ (z : List Bool). EndedFails leaf digit_octets 8 end (most_digits (images_of leaf)) IsValue z reason b.more) d b.fails)

    signed : (((number (take 8 (c.1 ++ (digit_octets c.3.digits ++ (end ++ r)))) ≡ 43) × Positive c.0 y) ⊎ ((number (take 8 (c.1 ++ (digit_octets c.3.digits ++ (end ++ r)))) ≡ 45) × Negative c.0 y)) × (drop 8 (c.1 ++ (digit_octets c.3.digits ++ (end ++ r))) ≡ digit_octets c.3.digits ++ (end ++ r)) × (8 ≤ length (c.1 ++ (digit_octets c.3.digits ++ (end ++ r))))
        → AsciiEndedFails leaf end true (c.1 ++ (digit_octets c.3.digits ++ (end ++ r))) reason reach → ⊥
    signed (s, d, w) (sign_cut h) = let a = h.0 in omega arith
    signed (inl s, d, w) (fails_behind_plus h) = behind Positive positive_one s.1 d h.2
    signed (inl s, d, w) (fails_behind_minus h) = let a = s.0 in let b = h.1 in omega arith
    signed (inl s, d, w) (no_sign_octet h) = h.1 (inl s.0)
    signed (inr s, d, w) (fails_behind_plus h) = let a = s.0 in let b = h.1 in omega arith
    signed (inr s, d, w) (fails_behind_minus h) = behind Negative negative_one s.1 d h.2
    signed (inr s, d, w) (no_sign_octet h) = h.1 (inr s.0)

pub leaf_excl : LeafExcl
leaf_excl leaf fine x bs r reason reach c f = coding_excl leaf.coding leaf (rules_of leaf fine).coding x c.image (limits_of leaf x c.image fine c.permitted c.maps) c.permitted c.maps bs r reason reach c.spelled f
