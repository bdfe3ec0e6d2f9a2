-- The failures of number leaves depend on the bits alone on which they rest.
use Rattle.std.proofs.Common.{◌≡◌, ℕ, ◌+◌, ◌*◌, ◌≤◌, ℤ, pos, Bool, true, false, List, [], ◌∷◌, ◌++◌, length, take, drop, refl, sym, ap, ◌∙◌, arith}
use Rattle.std.proofs.lemmas.List.{length-take, take-append-drop, length-append, length-drop}
use Rattle.std.specs.Prelude.{nat_abs, ◌+ℤ◌}
use Rattle.acn_grammar.specs.Length.{least_octets, least_signed_octets, flag_width}
use Rattle.acn_num.specs.Bits.{number, signed_number, low_bits}
use Rattle.acn_grammar.specs.Code.{nibbles, digit_octets}
use Rattle.acn_grammar.specs.LeafFails.{Reason, short, CodingFails, FixedFails, CountedFails, DigitAt, CharacterFails, cut, end_cut, digit_too_many, no_digit_no_end, end_alone, not_shortest, not_permitted, EndedFails, BehindSign, AsciiEndedFails, Positive, Negative, most_digits, no_count, none_counted, many_counted, octets_cut, octets_to_spare, counted_not_permitted, code_cut, code_not_permitted, sign_cut, fails_behind_plus, fails_behind_minus, no_sign_octet}
use Rattle.acn_grammar.specs.Images.{images_of}
use Rattle.acn_grammar.specs.declared.node.NumLeaf.{NumLeaf}
use Rattle.acn_grammar.specs.declared.node.NumCoding.{NumCoding}
use Rattle.acn_grammar.specs.declared.node.NumCoding.TheVariants.{Range, CountedFrom, CountedSigned, PosInt, Twos, Bcd, BcdEnded, Ascii, AsciiEnded, Flag, Fixed}
use Rattle.acn_packet_laws.proofs.Reaches.{same_within, long_enough, split_other, LeafSteady}

abbrev Holds : (List Bool → Reason → ℕ → Type 0) → Type 0
Holds F = (rest : List Bool) (r : Reason) (reach : ℕ) → F rest r reach → (r ≡ short → ⊥) → (reach ≤ length rest) × ((other : List Bool) → take reach other ≡ take reach rest → F other r reach)

-- the bits behind the first ones agree too
behind_same : (n m : ℕ) (a b : List Bool) → n + m ≤ length b → take (n + m) a ≡ take (n + m) b → take m (drop n a) ≡ take m (drop n b)
behind_same n m a b h e =
    let front : length (take n b) ≡ n = omega (arith, length-take n b) in
    let back : m ≤ length (drop n b) = omega (arith, length-drop n b) in
    let wide : take (length (take n b) + m) a ≡ take (length (take n b) + m) (take n b ++ drop n b) = rw (front, take-append-drop n b) e in
    let p = split_other (take n b) (drop n b) a m wide in
    ap (λ k. take m (drop k a)) (sym front) ∙ p.1

fixed_steady : (coding : NumCoding) (leaf : NumLeaf) (width : ℕ) → Holds (FixedFails coding leaf width)
fixed_steady coding leaf width rest r reach (code_cut t) s = absurd (s t.1)
fixed_steady coding leaf width rest r reach (code_not_permitted t) s =
    let is = t.2 in
    let l = t.0 in (
      omega arith,
      λ other e.
          let same = same_within reach width other rest (omega arith) e in
          let far = long_enough width other rest l same in
          code_not_permitted (far, rw same t.1, t.2),
    )

counted_steady : (leaf : NumLeaf) (number_in : List Bool → ℤ) (least : ℤ → ℕ) (image : ℤ → ℤ) → Holds (CountedFails leaf number_in least image)
counted_steady leaf number_in least image rest r reach (no_count t) s = absurd (s t.1)
counted_steady leaf number_in least image rest r reach (none_counted t) s =
    let is = t.3 in
    let l = t.0 in
    (omega arith, λ other e. let same = same_within reach 8 other rest (omega arith) e in let far = long_enough 8 other rest l same in none_counted (far, rw same t.1, t.2, t.3))
counted_steady leaf number_in least image rest r reach (many_counted t) s =
    let is = t.3 in
    let l = t.0 in
    (omega arith, λ other e. let same = same_within reach 8 other rest (omega arith) e in let far = long_enough 8 other rest l same in many_counted (far, rw same t.1, t.2, t.3))
counted_steady leaf number_in least image rest r reach (octets_cut t) s = absurd (s t.4)
counted_steady leaf number_in least image rest r reach (octets_to_spare t) s =
    let is = t.5 in
    let l = t.0 in (
      omega arith,
      λ other e.
          let same = same_within reach 8 other rest (omega arith) e in
          let all = same_within reach (8 + 8 * number (take 8 rest)) other rest (omega arith) e in
          let body = behind_same 8 (8 * number (take 8 rest)) other rest l all in
          let far = long_enough (8 + 8 * number (take 8 rest)) other rest l all in
          octets_to_spare (rw (same, body) (far, t.1, t.2, t.3, t.4, t.5)),
    )
counted_steady leaf number_in least image rest r reach (counted_not_permitted t) s =
    let is = t.6 in
    let l = t.0 in (
      omega arith,
      λ other e.
          let same = same_within reach 8 other rest (omega arith) e in
          let all = same_within reach (8 + 8 * number (take 8 rest)) other rest (omega arith) e in
          let body = behind_same 8 (8 * number (take 8 rest)) other rest l all in
          let far = long_enough (8 + 8 * number (take 8 rest)) other rest l all in
          counted_not_permitted (rw (same, body) (far, t.1, t.2, t.3, t.4, t.5, t.6)),
    )

-- Ended numbers.

digit_too : (code : List ℕ → List Bool) (size m : ℕ) → ((d : ℕ) → length (code (d ∷ [])) ≡ size) → size ≤ m → (a b : List Bool) → take m a ≡ take m b → DigitAt code b → DigitAt code a
digit_too code size m w l a b e d =
    let n = w d.digit in
    record { digit = d.digit; below = d.below; stands = same_within m (length (code (d.digit ∷ []))) a b (omega arith) e ∙ d.stands }

character_steady : (leaf : NumLeaf) (code : List ℕ → List Bool) (size : ℕ) (end : List Bool) (most : ℕ) (IsValue : ℕ → ℤ → Type 0) (ds : List ℕ) → ((d : ℕ) → length (code (d ∷ [])) ≡ size) → Holds (CharacterFails leaf code size end most IsValue ds)
character_steady leaf code size end most IsValue ds w rest r more (cut t) s = absurd (s t.1)
character_steady leaf code size end most IsValue ds w rest r more (end_cut t) s = absurd (s t.3)
character_steady leaf code size end most IsValue ds w rest r more (digit_too_many t) s =
    let is = t.4 in
    let l = t.0 in (
      omega arith,
      λ other e.
          let far = long_enough size other rest l (same_within more size other rest (omega arith) e) in
          digit_too_many (far, digit_too code size more w (omega arith) other rest e t.1, t.2, t.3, t.4),
    )
character_steady leaf code size end most IsValue ds w rest r more (no_digit_no_end t) s =
    let is = t.5 in
    let l = t.0 in
    let k = t.2 in (
      omega arith,
      λ other e.
          let far = long_enough size other rest l (same_within more size other rest (omega arith) e) in
          let same = same_within more (length end) other rest (omega arith) e in
          let far' = long_enough (length end) other rest k same in
          no_digit_no_end (far, (λ d. t.1 (digit_too code size more w (omega arith) rest other (sym e) d)), far', (λ x. t.3 (sym same ∙ x)), t.4, t.5),
    )
character_steady leaf code size end most IsValue ds w rest r more (end_alone t) s =
    let is = t.4 in
    let l = t.0 in (
      omega arith,
      λ other e.
          let same = same_within more (length end) other rest (omega arith) e in
          let far = long_enough (length end) other rest l same in
          end_alone (far, same ∙ t.1, t.2, t.3, t.4),
    )
character_steady leaf code size end most IsValue ds w rest r more (not_shortest t) s =
    let is = t.5 in
    let l = t.0 in (
      omega arith,
      λ other e.
          let same = same_within more (length end) other rest (omega arith) e in
          let far = long_enough (length end) other rest l same in
          not_shortest (far, same ∙ t.1, t.2, t.3, t.4, t.5),
    )
character_steady leaf code size end most IsValue ds w rest r more (not_permitted t) s =
    let is = t.4 in
    let l = t.0 in (
      omega arith,
      λ other e.
          let same = same_within more (length end) other rest (omega arith) e in
          let far = long_enough (length end) other rest l same in
          not_permitted (far, same ∙ t.1, t.2, t.3, t.4),
    )

ended_steady : (leaf : NumLeaf) (code : List ℕ → List Bool) (size : ℕ) (end : List Bool) (most : ℕ) (IsValue : ℕ → ℤ → Type 0) → ((d : ℕ) → length (code (d ∷ [])) ≡ size) → Holds (EndedFails leaf code size end most IsValue)
ended_steady leaf code size end most IsValue w rest r reach t s =
    let c = character_steady leaf code size end most IsValue t.digits w t.behind r t.more t.fails s in
    let n = ap length t.whole ∙ length-append (code t.digits) t.behind in
    let is = t.reaches in
    let m = c.0 in (
      omega arith,
      λ other e.
          let wide : take (length (code t.digits) + t.more) other ≡ take (length (code t.digits) + t.more) (code t.digits ++ t.behind) = rw (← t.reaches, ← t.whole) e in
          let p = split_other (code t.digits) t.behind other t.more wide in
          record { digits = t.digits; behind = drop (length (code t.digits)) other; whole = p.0; are = t.are; few = t.few; more = t.more; fails = c.1 (drop (length (code t.digits)) other) p.1; reaches = t.reaches },
    )

sign_steady : (leaf : NumLeaf) (end : List Bool) (IsValue : ℕ → ℤ → Type 0) (rest : List Bool) (r : Reason) (reach : ℕ) → 8 ≤ length rest → BehindSign leaf end IsValue rest r reach → (r ≡ short → ⊥)
    → (reach ≤ length rest) × ((other : List Bool) → take reach other ≡ take reach rest → (take 8 other ≡ take 8 rest) × (8 ≤ length other) × BehindSign leaf end IsValue other r reach)
sign_steady leaf end IsValue rest r reach l t s =
    let c = ended_steady leaf digit_octets 8 end (most_digits (images_of leaf)) IsValue (λ d. refl) (drop 8 rest) r t.more t.fails s in
    let n = length-drop 8 rest in
    let is = t.reaches in
    let m = c.0 in (
      omega arith,
      λ other e.
          let same = same_within reach 8 other rest (omega arith) e in
          let all : take (8 + t.more) other ≡ take (8 + t.more) rest = rw (← t.reaches) e in
          let far = long_enough 8 other rest l same in
          (same, far, record { more = t.more; fails = c.1 (drop 8 other) (behind_same 8 t.more other rest (omega arith) all); reaches = t.reaches }),
    )

ascii_steady : (leaf : NumLeaf) (end : List Bool) (signed : Bool) → Holds (AsciiEndedFails leaf end signed)
ascii_steady leaf end false rest r reach t s = ended_steady leaf digit_octets 8 end (most_digits (images_of leaf)) Positive (λ d. refl) rest r reach t s
ascii_steady leaf end true rest r reach (sign_cut t) s = absurd (s t.1)
ascii_steady leaf end true rest r reach (fails_behind_plus t) s =
    let c = sign_steady leaf end Positive rest r reach t.0 t.2 s in
    (c.0, λ other e. let o = c.1 other e in fails_behind_plus (o.1, ap number o.0 ∙ t.1, o.2))
ascii_steady leaf end true rest r reach (fails_behind_minus t) s =
    let c = sign_steady leaf end Negative rest r reach t.0 t.2 s in
    (c.0, λ other e. let o = c.1 other e in fails_behind_minus (o.1, ap number o.0 ∙ t.1, o.2))
ascii_steady leaf end true rest r reach (no_sign_octet t) s =
    let is = t.3 in
    let l = t.0 in
    (omega arith, λ other e. let same = same_within reach 8 other rest (omega arith) e in let far = long_enough 8 other rest l same in no_sign_octet (far, rw same t.1, t.2, t.3))

by_coding : (coding : NumCoding) (leaf : NumLeaf) → Holds (CodingFails coding leaf)
by_coding (Range low width) leaf rest r reach t s = fixed_steady (Range low width) leaf width rest r reach t s
by_coding (CountedFrom low) leaf rest r reach t s = counted_steady leaf (λ x. pos (number x)) (λ x. least_octets (nat_abs x)) (λ x. low +ℤ x) rest r reach t s
by_coding CountedSigned leaf rest r reach t s = counted_steady leaf signed_number least_signed_octets (λ x. x) rest r reach t s
by_coding (PosInt n) leaf rest r reach t s = fixed_steady (PosInt n) leaf n rest r reach t s
by_coding (Twos n) leaf rest r reach t s = fixed_steady (Twos n) leaf n rest r reach t s
by_coding (Bcd n) leaf rest r reach t s = fixed_steady (Bcd n) leaf n rest r reach t s
by_coding BcdEnded leaf rest r reach t s = ended_steady leaf nibbles 4 (low_bits 4 15) (most_digits (images_of leaf)) Positive (λ d. refl) rest r reach t s
by_coding (Ascii n signed) leaf rest r reach t s = fixed_steady (Ascii n signed) leaf n rest r reach t s
by_coding (AsciiEnded end signed) leaf rest r reach t s = ascii_steady leaf end signed rest r reach t s
by_coding (Flag p q) leaf rest r reach t s = fixed_steady (Flag p q) leaf (flag_width p q) rest r reach t s
by_coding (Fixed pattern) leaf rest r reach t s = fixed_steady (Fixed pattern) leaf (length pattern) rest r reach t s

pub leaf_steady : (leaf : NumLeaf) → LeafSteady leaf
leaf_steady leaf = by_coding leaf.coding leaf
