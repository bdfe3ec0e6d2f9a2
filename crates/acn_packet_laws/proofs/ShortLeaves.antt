-- Bits are wanting for a number only where there are fewer than its greatest code has, or fewer than 1,000.
use Rattle.std.proofs.Common.{◌≡◌, ℕ, ◌+◌, ◌*◌, ◌%◌, ◌^◌, ◌<◌, ◌≤◌, ℤ, pos, Bool, true, false, not, List, [], ◌∷◌, length, take, drop, Some, None, sym, ap, ◌∙◌, arith, inl, inr, IsTrue, nat_eq, length-append, nat_abs, nat_le, subst, ◌+ℤ◌}
use Rattle.std.specs.List.{range_with_len}
use Rattle.std.proofs.Math.Nat.{mul-le-mul_right}
use Rattle.std.proofs.lemmas.Bool.Decides.{nat_tests}
use Rattle.std.proofs.lemmas.List.{length-drop}
use Rattle.std.proofs.lemmas.List.Sums.{count_by-le-length}
use Rattle.acn_num.specs.Bits.{number, signed_number, low_bits}
use Rattle.acn_grammar.specs.Code.{nibbles, digit_octets}
use Rattle.acn_grammar.specs.Images.{images_of}
use Rattle.acn_grammar.specs.Interval.{held, span_by, fixed_width, num_span}
use Rattle.acn_grammar.specs.LeafFails.{Reason, short, not_minimal, bad_digit, bad_pattern, Wire, says, wrong, SignedWire, DigitsWire, PatternWire, OnePatternWire, FixedWire, WireFails, FixedFails, CountedFails, CharacterFails, cut, end_cut, digit_too_many, no_digit_no_end, end_alone, not_shortest, not_permitted, EndedFails, AsciiEndedFails, Positive, Negative, most_digits, CodingFails, LeafFails, octet_values, no_count, none_counted, many_counted, octets_cut, octets_to_spare, counted_not_permitted, plus_digits, minus_digits, minus_nothing, no_signed_digits, code_cut, code_not_permitted, sign_cut, fails_behind_plus, fails_behind_minus, no_sign_octet}
use Rattle.acn_grammar.specs.Leaves.{num_fine, coding_fine, is_terminator, is_pattern, begins_number}
use Rattle.acn_grammar.specs.Length.{digit_count, least_octets, least_signed_octets, flag_width}
use Rattle.acn_grammar.specs.Spell.{octet_numbers}
use Rattle.acn_grammar.specs.declared.node.NumCoding.{NumCoding}
use Rattle.acn_grammar.specs.declared.node.NumCoding.TheVariants.{Range, CountedFrom, CountedSigned, PosInt, Twos, Bcd, BcdEnded, Ascii, AsciiEnded, Flag, Fixed}
use Rattle.acn_grammar.specs.declared.node.NumLeaf.{NumLeaf}
use Rattle.acn_grammar.proofs.FineLeaves.{rules_of}
use Rattle.acn_grammar.proofs.LeafLengths.{nibbles-length, digit_octets-length}
use Rattle.std.proofs.lemmas.Bool.{and_parts}

-- What the bits of a code say is no want of bits.

abbrev NotShort : Wire → Type 0
NotShort (says wire image) = Unit {0}
NotShort (wrong e) = e ≡ short → ⊥

said : (w : Wire) (x y : ℤ) → w ≡ says x y → NotShort w
said w x y e = subst NotShort (sym e) tt

wrong_is : (w : Wire) (e : Reason) → (e ≡ short → ⊥) → w ≡ wrong e → NotShort w
wrong_is w e f q = subst NotShort (sym q) f

digits_said : (z : ℕ) (ds : List ℕ) (w : Wire) → DigitsWire z ds w → NotShort w
digits_said z ds w (inl t) = said w _ _ t.1
digits_said z ds w (inr t) = wrong_is w bad_digit (λ e. cc) t.1

signed_said : (ds : List ℕ) (w : Wire) → SignedWire ds w → NotShort w
signed_said [] w t = absurd t
signed_said (s ∷ ds) w (plus_digits t) = said w _ _ t.2
signed_said (s ∷ ds) w (minus_digits t) = said w _ _ t.3
signed_said (s ∷ ds) w (minus_nothing t) = wrong_is w not_minimal (λ e. cc) t.3
signed_said (s ∷ ds) w (no_signed_digits t) = wrong_is w bad_digit (λ e. cc) t.1

patterns_said : (ps : List (List Bool × ℤ)) (bs : List Bool) (w : Wire) → PatternWire ps bs w → NotShort w
patterns_said [] bs w t = wrong_is w bad_pattern (λ e. cc) t
patterns_said (p ∷ ps) bs w (inl t) = said w _ _ t.1
patterns_said (p ∷ ps) bs w (inr t) = patterns_said ps bs w t.1

one_said : (p : List Bool) (own other : ℤ) (bs : List Bool) (w : Wire) → OnePatternWire p own other bs w → NotShort w
one_said p own other bs w (inl t) = said w _ _ t.1
one_said p own other bs w (inr t) = said w _ _ t.1

wire_said : (coding : NumCoding) (little : Bool) (bs : List Bool) (w : Wire) → FixedWire coding little bs w → NotShort w
wire_said (Range low width) little bs w t = said w _ _ t
wire_said (PosInt n) little bs w t = said w _ _ t
wire_said (Twos n) little bs w t = said w _ _ t
wire_said (Bcd n) little bs w t = digits_said 0 _ w t
wire_said (Ascii n true) little bs w t = signed_said (octet_values bs) w t
wire_said (Ascii n false) little bs w t = digits_said 48 _ w t
wire_said (Flag None None) little bs w t = said w _ _ t
wire_said (Flag (Some p) None) little bs w t = one_said p (pos 1) (pos 0) bs w t
wire_said (Flag None (Some q)) little bs w t = one_said q (pos 0) (pos 1) bs w t
wire_said (Flag (Some p) (Some q)) little bs w t = patterns_said ((p, pos 1) ∷ (q, pos 0) ∷ []) bs w t
wire_said (Fixed p) little bs w t = patterns_said ((p, pos 0) ∷ []) bs w t
wire_said (CountedFrom low) little bs w t = absurd t
wire_said CountedSigned little bs w t = absurd t
wire_said BcdEnded little bs w t = absurd t
wire_said (AsciiEnded end signed) little bs w t = absurd t

wire_not : (leaf : NumLeaf) (w : Wire) (r : Reason) → NotShort w → WireFails leaf w r → r ≡ short → ⊥
wire_not leaf (says wire image) r n t e = let q = t.1 in cc
wire_not leaf (wrong f) r n t e = n (sym t ∙ e)

fixed_short : (coding : NumCoding) (leaf : NumLeaf) (width : ℕ) (rest : List Bool) (r : Reason) (reach : ℕ) → FixedFails coding leaf width rest r reach → r ≡ short → length rest < width
fixed_short coding leaf width rest r reach (code_cut t) e = t.0
fixed_short coding leaf width rest r reach (code_not_permitted t) e =
    let w = t.1 in
    absurd (wire_not leaf w.0 r (wire_said coding leaf.little (take width rest) w.0 w.1) w.2 e)

counted_short : (leaf : NumLeaf) (number_in : List Bool → ℤ) (least : ℤ → ℕ) (image : ℤ → ℤ) (rest : List Bool) (r : Reason) (reach : ℕ) → CountedFails leaf number_in least image rest r reach → r ≡ short → length rest < 1000
counted_short leaf number_in least image rest r reach (no_count t) e = let a = t.0 in omega arith
counted_short leaf number_in least image rest r reach (none_counted t) e = let q = t.2 in cc
counted_short leaf number_in least image rest r reach (many_counted t) e = let q = t.2 in cc
counted_short leaf number_in least image rest r reach (octets_cut t) e = let a = t.2 in let b = t.3 in omega arith
counted_short leaf number_in least image rest r reach (octets_to_spare t) e = let q = t.4 in cc
counted_short leaf number_in least image rest r reach (counted_not_permitted t) e = let q = t.5 in cc

-- Digits.

few_digits : (k : ℕ) → digit_count k ≤ 20
few_digits k = let c = count_by-le-length (λ e. nat_le (10 ^ e) k) (range_with_len 1 19) in omega arith

most_few : (is : List (ℤ × ℤ)) → most_digits is ≤ 20
most_few [] = omega arith
most_few (i ∷ is) = let a = few_digits (nat_abs i.0) in let b = few_digits (nat_abs i.1) in let c = most_few is in omega arith

character_short : (leaf : NumLeaf) (code : List ℕ → List Bool) (size : ℕ) (end : List Bool) (most : ℕ) (IsValue : ℕ → ℤ → Type 0) (ds : List ℕ) (rest : List Bool) (r : Reason) (more : ℕ) → CharacterFails leaf code size end most IsValue ds rest r more → r ≡ short → length rest < size + length end
character_short leaf code size end most IsValue ds rest r more (cut t) e = let a = t.0 in omega arith
character_short leaf code size end most IsValue ds rest r more (end_cut t) e = let a = t.2 in omega arith
character_short leaf code size end most IsValue ds rest r more (digit_too_many t) e = let q = t.3 in cc
character_short leaf code size end most IsValue ds rest r more (no_digit_no_end t) e = let q = t.4 in cc
character_short leaf code size end most IsValue ds rest r more (end_alone t) e = let q = t.3 in cc
character_short leaf code size end most IsValue ds rest r more (not_shortest t) e = let q = t.4 in cc
character_short leaf code size end most IsValue ds rest r more (not_permitted t) e = let q = t.3.2 in cc

ended_short : (leaf : NumLeaf) (code : List ℕ → List Bool) (size : ℕ) (end : List Bool) (most : ℕ) (IsValue : ℕ → ℤ → Type 0) (rest : List Bool) (r : Reason) (reach : ℕ) → ((ds : List ℕ) → length (code ds) ≡ size * length ds) → size ≤ 8 → most ≤ 20 → length end ≤ 64
    → EndedFails leaf code size end most IsValue rest r reach → r ≡ short → length rest < 300
ended_short leaf code size end most IsValue rest r reach wide small few ends t e =
    let a = character_short leaf code size end most IsValue t.digits t.behind r t.more t.fails e in
    let b = wide t.digits in
    let c = t.few in
    let l = ap length t.whole in
    let m = length-append (code t.digits) t.behind in
    let p = times_few size (length t.digits) small (at_most (length t.digits) most c few) in
    omega arith
  where
    at_most : (a b : ℕ) → a ≤ b → b ≤ 20 → a ≤ 20
    at_most a b h k = omega arith

    times_few : (s n : ℕ) → s ≤ 8 → n ≤ 20 → s * n ≤ 160
    times_few s n h k =
        let one = mul-le-mul_right {m = s} {n = 8} n h in
        omega arith

terminator_few : (end : List Bool) → is_pattern end ≡ true → length end ≤ 64
terminator_few [] h = omega arith
terminator_few (b ∷ end) h = grind (arith, nat_tests)

ascii_short : (leaf : NumLeaf) (end : List Bool) (signed : Bool) (rest : List Bool) (r : Reason) (reach : ℕ) → length end ≤ 64 → AsciiEndedFails leaf end signed rest r reach → r ≡ short → length rest < 1000
ascii_short leaf end false rest r reach l t e = let a = ended_short leaf digit_octets 8 end (most_digits (images_of leaf)) Positive rest r reach digit_octets-length (omega arith) (most_few (images_of leaf)) l t e in omega arith
ascii_short leaf end true rest r reach l (sign_cut t) e = let a = t.0 in omega arith
ascii_short leaf end true rest r reach l (fails_behind_plus t) e =
    let s = t.2 in
    let a = ended_short leaf digit_octets 8 end (most_digits (images_of leaf)) Positive (drop 8 rest) r s.more digit_octets-length (omega arith) (most_few (images_of leaf)) l s.fails e in
    let d = length-drop 8 rest in
    omega arith
ascii_short leaf end true rest r reach l (fails_behind_minus t) e =
    let s = t.2 in
    let a = ended_short leaf digit_octets 8 end (most_digits (images_of leaf)) Negative (drop 8 rest) r s.more digit_octets-length (omega arith) (most_few (images_of leaf)) l s.fails e in
    let d = length-drop 8 rest in
    omega arith
ascii_short leaf end true rest r reach l (no_sign_octet t) e = let q = t.2 in cc

width_short : (n m : ℕ) → n < m → held m < 2 ^ 40 → n < held m + 1000
width_short n m h s = omega arith

by_coding : (coding : NumCoding) (leaf : NumLeaf) → coding_fine coding ≡ true → (rest : List Bool) (r : Reason) (reach : ℕ) → CodingFails coding leaf rest r reach → r ≡ short → (span_by leaf (fixed_width coding)).greatest < 2 ^ 40 → length rest < (span_by leaf (fixed_width coding)).greatest + 1000
by_coding (Range low width) leaf f rest r reach t e s = width_short (length rest) width (fixed_short (Range low width) leaf width rest r reach t e) s
by_coding (PosInt n) leaf f rest r reach t e s = width_short (length rest) n (fixed_short (PosInt n) leaf n rest r reach t e) s
by_coding (Twos n) leaf f rest r reach t e s = width_short (length rest) n (fixed_short (Twos n) leaf n rest r reach t e) s
by_coding (Bcd n) leaf f rest r reach t e s = width_short (length rest) n (fixed_short (Bcd n) leaf n rest r reach t e) s
by_coding (Ascii n signed) leaf f rest r reach t e s = width_short (length rest) n (fixed_short (Ascii n signed) leaf n rest r reach t e) s
by_coding (Flag p q) leaf f rest r reach t e s = width_short (length rest) (flag_width p q) (fixed_short (Flag p q) leaf (flag_width p q) rest r reach t e) s
by_coding (Fixed p) leaf f rest r reach t e s = width_short (length rest) (length p) (fixed_short (Fixed p) leaf (length p) rest r reach t e) s
by_coding (CountedFrom low) leaf f rest r reach t e s = let a = counted_short leaf (λ b. pos (number b)) (λ x. least_octets (nat_abs x)) (λ x. low +ℤ x) rest r reach t e in omega arith
by_coding CountedSigned leaf f rest r reach t e s = let a = counted_short leaf signed_number least_signed_octets (λ x. x) rest r reach t e in omega arith
by_coding BcdEnded leaf f rest r reach t e s =
    let a = ended_short leaf nibbles 4 (low_bits 4 15) (most_digits (images_of leaf)) Positive rest r reach nibbles-length (omega arith) (most_few (images_of leaf)) (omega arith) t e in
    omega arith
by_coding (AsciiEnded end signed) leaf f rest r reach t e s =
    let p = and_parts (is_terminator end) (not (begins_number (octet_numbers end))) f in
    let q = and_parts (is_pattern end) (nat_eq (length end % 8) 0) p.0 in
    let a = ascii_short leaf end signed rest r reach (terminator_few end q.0) t e in
    omega arith

pub leaf_short : (leaf : NumLeaf) → IsTrue (num_fine leaf) → (rest : List Bool) (r : Reason) (reach : ℕ) → LeafFails leaf rest r reach → r ≡ short → (num_span leaf).greatest < 2 ^ 40 → length rest < (num_span leaf).greatest + 1000
leaf_short leaf fine rest r reach t e s = by_coding leaf.coding leaf (rules_of leaf fine).coding rest r reach t e s
