-- Every input begins with a code of a number leaf, or the leaf fails: codes of one width, and counted ones.
use Rattle.std.proofs.Common.{◌≡◌, ℕ, zero, suc, ◌+◌, ◌-◌, ◌*◌, ◌/◌, ◌%◌, ◌^◌, ◌<◌, ◌≤◌, ℤ, pos, Bool, true, false, List, [], ◌∷◌, ◌++◌, length, map, take, drop, Option, Some, None, refl, sym, ap, ◌∙◌, arith, append-nil, take-append-drop, inl, inr, ◌⊎◌, nat_eq, subst, IsTrue}
use Rattle.std.specs.Prelude.{neg_ℤ}
use Rattle.std.specs.List.{AllByRecursion}
use Rattle.std.proofs.lemmas.List.{length-take-le}
use Rattle.acn_num.specs.Bits.{number, low_bits, bits}
use Rattle.acn_num.specs.Ranges.{has}
use Rattle.acn_grammar.specs.Code.{Any, CodingCode, nibbles, digit_octets, SignOctet, image_of}
use Rattle.acn_grammar.specs.Images.{images_of}
use Rattle.acn_grammar.specs.LeafFails.{Reason, short, out_of_range, not_minimal, bad_digit, bad_pattern, Wire, says, wrong, nibbles_of, octet_values, AllDigits, value_of, OnePatternWire, FixedWire, NoneHas, FixedFails, plus_digits, minus_digits, minus_nothing, no_signed_digits, code_cut, code_not_permitted}
use Rattle.acn_grammar.specs.Leaves.{num_fine, same_bits}
use Rattle.acn_grammar.specs.Length.{flag_width}
use Rattle.acn_grammar.specs.declared.node.NumCoding.{NumCoding}
use Rattle.acn_grammar.specs.declared.node.NumCoding.TheVariants.{Bcd, Ascii, Flag, Fixed}
use Rattle.acn_grammar.specs.declared.node.NumLeaf.{NumLeaf}
use Rattle.acn_grammar.proofs.Codings.{patterns_differ, same_bits-is}
use Rattle.acn_grammar.proofs.Within.{image_has}
use Rattle.acn_packet_laws.specs.Laws.{CodeAtFront}
use Rattle.acn_packet_laws.proofs.WidthBack.{preimage}
use Rattle.std.proofs.lemmas.Bool.{eqb-false, eqb-true}
use Rattle.acn_num.proofs.BitLists.{number_below, number_same, length-low_bits, number-low_bits}
use Rattle.acn_grammar.proofs.FirstPlaces.{less_or_not}

-- Decisions.

pub same_or_not : (p q : List Bool) → (p ≡ q) ⊎ (p ≡ q → ⊥)
same_or_not p q = by (same_bits p q) refl
  where
    by : (t : Bool) → same_bits p q ≡ t → (p ≡ q) ⊎ (p ≡ q → ⊥)
    by true e = inl (same_bits-is p q e)
    by false e = inr (patterns_differ p q e)

pub is_or_not : (a b : ℕ) → (a ≡ b) ⊎ (a ≡ b → ⊥)
is_or_not a b = by (nat_eq a b) refl
  where
    by : (t : Bool) → nat_eq a b ≡ t → (a ≡ b) ⊎ (a ≡ b → ⊥)
    by true e = inl (eqb-true a b e)
    by false e = inr (eqb-false a b e)

pub image_or_none : (leaf : NumLeaf) → IsTrue (num_fine leaf) → (y : ℤ) → ((x : ℤ) × (has leaf.set x ≡ true) × (image_of leaf x ≡ Some y)) ⊎ NoneHas leaf y
image_or_none leaf fine y = by (has (images_of leaf) y) refl
  where
    by : (t : Bool) → has (images_of leaf) y ≡ t → ((x : ℤ) × (has leaf.set x ≡ true) × (image_of leaf x ≡ Some y)) ⊎ NoneHas leaf y
    by true e = inl (preimage leaf fine y e)
    by false e = inr (λ x p m. let h = image_has leaf x y p m in cc)

digits_step : (z d : ℕ) (ds : List ℕ) → (d < z) ⊎ (z ≤ d) → (d < z + 10) ⊎ (z + 10 ≤ d) → AllDigits z ds ⊎ (AllDigits z ds → ⊥) → AllDigits z (d ∷ ds) ⊎ (AllDigits z (d ∷ ds) → ⊥)
digits_step z d ds (inl a) b c = inr (λ h. let x = h.0.0 in absurd (omega arith))
digits_step z d ds (inr a) (inr b) c = inr (λ h. let x = h.0.1 in absurd (omega arith))
digits_step z d ds (inr a) (inl b) (inl c) = inl ((a, b), c)
digits_step z d ds (inr a) (inl b) (inr c) = inr (λ h. c h.1)

digits_or_not : (z : ℕ) (ds : List ℕ) → AllDigits z ds ⊎ (AllDigits z ds → ⊥)
digits_or_not z [] = inl tt
digits_or_not z (d ∷ ds) = digits_step z d ds (less_or_not d z) (less_or_not d (z + 10)) (digits_or_not z ds)

-- Bits come back from their numbers.

low_back : (n : ℕ) (bs : List Bool) → length bs ≡ n → number bs % 2 ^ n ≡ number bs → low_bits n (number bs) ≡ bs
low_back n bs l s = number_same (low_bits n (number bs)) bs (length-low_bits n (number bs) ∙ sym l) (number-low_bits n (number bs) ∙ s)

nibble_back : (bs : List Bool) → length bs ≡ 4 → low_bits 4 (number bs) ≡ bs
nibble_back bs l =
    let below : number bs < 2 ^ 4 = subst (λ (n : ℕ). number bs < 2 ^ n) l (number_below bs) in
    low_back 4 bs l (omega arith)

pub octet_back : (bs : List Bool) → length bs ≡ 8 → low_bits 8 (number bs) ≡ bs
octet_back bs l =
    let below : number bs < 2 ^ 8 = subst (λ (n : ℕ). number bs < 2 ^ n) l (number_below bs) in
    low_back 8 bs l (omega arith)

nibbles_whole : (k : ℕ) (bs : List Bool) → length bs ≡ 4 * k → nibbles (map (λ d. d - 0) (nibbles_of bs)) ≡ bs
nibbles_whole zero [] l = refl
nibbles_whole zero (x ∷ bs) l = absurd (omega arith)
nibbles_whole (suc k) (a ∷ b ∷ c ∷ d ∷ rest) l =
    let less : number (a ∷ b ∷ c ∷ d ∷ []) - 0 ≡ number (a ∷ b ∷ c ∷ d ∷ []) = omega arith in
    let one : low_bits 4 (number (a ∷ b ∷ c ∷ d ∷ []) - 0) ≡ a ∷ b ∷ c ∷ d ∷ [] = ap (low_bits 4) less ∙ nibble_back (a ∷ b ∷ c ∷ d ∷ []) refl in
    ap (λ z. z ++ nibbles (map (λ d. d - 0) (nibbles_of rest))) one ∙ ap (λ z. (a ∷ b ∷ c ∷ d ∷ []) ++ z) (nibbles_whole k rest (omega arith))
nibbles_whole (suc k) _ l = absurd (omega arith)

pub octets_whole : (k : ℕ) (bs : List Bool) → length bs ≡ 8 * k → bits (octet_values bs) ≡ bs
octets_whole zero [] l = refl
octets_whole zero (x ∷ bs) l = absurd (omega arith)
octets_whole (suc k) (a ∷ b ∷ c ∷ d ∷ e ∷ f ∷ g ∷ h ∷ rest) l =
    ap (λ z. z ++ bits (octet_values rest)) (octet_back (a ∷ b ∷ c ∷ d ∷ e ∷ f ∷ g ∷ h ∷ []) refl) ∙ ap (λ z. (a ∷ b ∷ c ∷ d ∷ e ∷ f ∷ g ∷ h ∷ []) ++ z) (octets_whole k rest (omega arith))
octets_whole (suc k) _ l = absurd (omega arith)

digits_down : (z : ℕ) (ds : List ℕ) → AllDigits z ds → AllByRecursion (λ d. d < 10) (map (λ d. d - z) ds)
digits_down z [] h = tt
digits_down z (d ∷ ds) h = (omega (arith, h.0.0, h.0.1), digits_down z ds h.1)

up_down : (ds : List ℕ) → AllDigits 48 ds → map (λ d. 48 + d) (map (λ d. d - 48) ds) ≡ ds
up_down [] h = refl
up_down (d ∷ ds) h = let one : 48 + (d - 48) ≡ d = omega (arith, h.0.0) in let rest = up_down ds h.1 in cc

digit_octets_whole : (k : ℕ) (bs : List Bool) → length bs ≡ 8 * k → AllDigits 48 (octet_values bs) → digit_octets (map (λ d. d - 48) (octet_values bs)) ≡ bs
digit_octets_whole k bs l h = ap bits (up_down (octet_values bs) h) ∙ octets_whole k bs l

-- What bits of one width say.

abbrev pub CodesWire : NumCoding → Bool → List Bool → Wire → Type 0
CodesWire coding little bs (says v y) = CodingCode Any coding little y bs
CodesWire coding little bs (wrong r) = Unit {0}

pub record WireOf (coding : NumCoding) (little : Bool) (bs : List Bool) : Type 0 where
  pub wire : Wire
  pub stands : FixedWire coding little bs wire
  pub codes : CodesWire coding little bs wire

pub bcd_wire : (n : ℕ) (little : Bool) (bs : List Bool) → n ≡ 4 * (n / 4) → length bs ≡ n → WireOf (Bcd n) little bs
bcd_wire n little bs whole l = by (digits_or_not 0 (nibbles_of bs))
  where
    by : AllDigits 0 (nibbles_of bs) ⊎ (AllDigits 0 (nibbles_of bs) → ⊥) → WireOf (Bcd n) little bs
    by (inl a) =
        let ds = map (λ d. d - 0) (nibbles_of bs) in
        record {
          wire = says (pos (value_of 0 (nibbles_of bs))) (pos (value_of 0 (nibbles_of bs)));
          stands = inl (a, refl);
          codes = (value_of 0 (nibbles_of bs), refl, l, record { digits = ds; spell = record { digits = digits_down 0 (nibbles_of bs) a; value = refl }; whole = sym (append-nil (nibbles ds) ∙ nibbles_whole (n / 4) bs (l ∙ whole)) });
        }
    by (inr a) = record { wire = wrong bad_digit; stands = inr (a, refl); codes = tt }

pub ascii_wire : (n : ℕ) (little : Bool) (bs : List Bool) → n ≡ 8 * (n / 8) → length bs ≡ n → WireOf (Ascii n false) little bs
ascii_wire n little bs whole l = by (digits_or_not 48 (octet_values bs))
  where
    by : AllDigits 48 (octet_values bs) ⊎ (AllDigits 48 (octet_values bs) → ⊥) → WireOf (Ascii n false) little bs
    by (inl a) =
        let ds = map (λ d. d - 48) (octet_values bs) in
        record {
          wire = says (pos (value_of 48 (octet_values bs))) (pos (value_of 48 (octet_values bs)));
          stands = inl (a, refl);
          codes = (value_of 48 (octet_values bs), [], (refl, refl), l, record { digits = ds; spell = record { digits = digits_down 48 (octet_values bs) a; value = refl }; whole = sym (append-nil (digit_octets ds) ∙ digit_octets_whole (n / 8) bs (l ∙ whole) a) });
        }
    by (inr a) = record { wire = wrong bad_digit; stands = inr (a, refl); codes = tt }

pub minus_sign : (v : ℕ) → 0 < v → SignOctet true (neg_ℤ (pos v)) v (low_bits 8 45)
minus_sign zero h = absurd (omega arith)
minus_sign (suc m) h = (refl, refl)

pub signed_wire : (n k : ℕ) (little : Bool) (bs : List Bool) → length bs ≡ 8 * suc k → length bs ≡ n → WireOf (Ascii n true) little bs
signed_wire n k little (a ∷ b ∷ c ∷ d ∷ e ∷ f ∷ g ∷ h ∷ rest) l l' = by (is_or_not s 43) (is_or_not s 45) (digits_or_not 48 (octet_values rest)) (less_or_not 0 (value_of 48 (octet_values rest)))
  where
    first : List Bool
    first = a ∷ b ∷ c ∷ d ∷ e ∷ f ∷ g ∷ h ∷ []

    s : ℕ
    s = number first

    Goal : Type 0
    Goal = WireOf (Ascii n true) little (a ∷ b ∷ c ∷ d ∷ e ∷ f ∷ g ∷ h ∷ rest)

    spells : (o : ℕ) (y : ℤ) (v : ℕ) → s ≡ o → AllDigits 48 (octet_values rest) → v ≡ value_of 48 (octet_values rest) → SignOctet true y v (low_bits 8 o) → CodingCode Any (Ascii n true) little y (a ∷ b ∷ c ∷ d ∷ e ∷ f ∷ g ∷ h ∷ rest)
    spells o y v is all value sign =
        let ds = map (λ d. d - 48) (octet_values rest) in
        let back : digit_octets (map (λ d. d - 48) (octet_values rest)) ++ [] ≡ rest = append-nil (digit_octets ds) ∙ digit_octets_whole k rest (omega arith) all in (
          v,
          low_bits 8 o,
          sign,
          l',
          record {
            digits = ds;
            spell = record { digits = digits_down 48 (octet_values rest) all; value = sym value };
            whole = sym (ap (λ z. low_bits 8 z ++ (digit_octets (map (λ d. d - 48) (octet_values rest)) ++ [])) (sym is) ∙ (ap (λ z. z ++ (digit_octets (map (λ d. d - 48) (octet_values rest)) ++ [])) (octet_back first refl) ∙ ap (λ z. first ++ z) back));
          },
        )

    by : (s ≡ 43) ⊎ (s ≡ 43 → ⊥) → (s ≡ 45) ⊎ (s ≡ 45 → ⊥) → AllDigits 48 (octet_values rest) ⊎ (AllDigits 48 (octet_values rest) → ⊥) → (0 < value_of 48 (octet_values rest)) ⊎ (value_of 48 (octet_values rest) ≤ 0) → Goal
    by p m (inr other) v = record { wire = wrong bad_digit; stands = no_signed_digits ((λ o all. other all), refl); codes = tt }
    by (inl p) m (inl all) v =
        record { wire = says (pos (value_of 48 (octet_values rest))) (pos (value_of 48 (octet_values rest))); stands = plus_digits (p, all, refl); codes = spells 43 (pos (value_of 48 (octet_values rest))) (value_of 48 (octet_values rest)) p all refl (refl, refl) }
    by (inr p) (inl m) (inl all) (inl v) =
        record { wire = says (neg_ℤ (pos (value_of 48 (octet_values rest)))) (neg_ℤ (pos (value_of 48 (octet_values rest)))); stands = minus_digits (m, all, v, refl); codes = spells 45 (neg_ℤ (pos (value_of 48 (octet_values rest)))) (value_of 48 (octet_values rest)) m all refl (minus_sign (value_of 48 (octet_values rest)) v) }
    by (inr p) (inl m) (inl all) (inr v) = record { wire = wrong not_minimal; stands = minus_nothing (m, all, omega (arith, v), refl); codes = tt }
    by (inr p) (inr m) (inl all) v = record { wire = wrong bad_digit; stands = no_signed_digits ((λ o al. neither o), refl); codes = tt }
      where
        neither : (s ≡ 43) ⊎ (s ≡ 45) → ⊥
        neither (inl x) = p x
        neither (inr x) = m x
signed_wire n k little _ l l' = absurd (omega arith)

own_wire : (p : List Bool) (y other : ℤ) (bs : List Bool) (coding : NumCoding) (little : Bool) → ((w : Wire) → OnePatternWire p y other bs w → FixedWire coding little bs w) → (bs ≡ p → CodingCode Any coding little y bs) → ((bs ≡ p → ⊥) → CodingCode Any coding little other bs) → WireOf coding little bs
own_wire p y other bs coding little is one two = by (same_or_not bs p)
  where
    by : (bs ≡ p) ⊎ (bs ≡ p → ⊥) → WireOf coding little bs
    by (inl e) = record { wire = says y y; stands = is (says y y) (inl (e, refl)); codes = one e }
    by (inr e) = record { wire = says other other; stands = is (says other other) (inr (e, refl)); codes = two e }

pub flag_wire : (a b : Option (List Bool)) (little : Bool) (bs : List Bool) → length bs ≡ flag_width a b → WireOf (Flag a b) little bs
flag_wire None None little bs l = record { wire = says (pos (number bs)) (pos (number bs)); stands = refl; codes = (number bs, refl, record { width = l; value = refl }) }
flag_wire (Some p) None little bs l = own_wire p (pos 1) (pos 0) bs (Flag (Some p) None) little (λ w h. h) (λ e. inl (refl, e)) (λ e. inr (refl, (l, e)))
flag_wire None (Some q) little bs l = own_wire q (pos 0) (pos 1) bs (Flag None (Some q)) little (λ w h. h) (λ e. inl (refl, e)) (λ e. inr (refl, (l, e)))
flag_wire (Some p) (Some q) little bs l = by (same_or_not bs p) (same_or_not bs q)
  where
    by : (bs ≡ p) ⊎ (bs ≡ p → ⊥) → (bs ≡ q) ⊎ (bs ≡ q → ⊥) → WireOf (Flag (Some p) (Some q)) little bs
    by (inl e) f = record { wire = says (pos 1) (pos 1); stands = inl (e, refl); codes = inl (refl, e) }
    by (inr e) (inl f) = record { wire = says (pos 0) (pos 0); stands = inr (e, inl (f, refl)); codes = inr (refl, f) }
    by (inr e) (inr f) = record { wire = wrong bad_pattern; stands = inr (e, inr (f, refl)); codes = tt }

pub fixed_wire : (p : List Bool) (little : Bool) (bs : List Bool) → WireOf (Fixed p) little bs
fixed_wire p little bs = by (same_or_not bs p)
  where
    by : (bs ≡ p) ⊎ (bs ≡ p → ⊥) → WireOf (Fixed p) little bs
    by (inl e) = record { wire = says (pos 0) (pos 0); stands = inl (e, refl); codes = (refl, e) }
    by (inr e) = record { wire = wrong bad_pattern; stands = inr (e, refl); codes = tt }

-- a leaf of one width
pub fixed_total : (coding : NumCoding) (leaf : NumLeaf) → IsTrue (num_fine leaf) → leaf.coding ≡ coding → (width : ℕ) → ((bs : List Bool) → length bs ≡ width → WireOf coding leaf.little bs) → (input : List Bool) → CodeAtFront leaf input ⊎ ((r : Reason) × (reach : ℕ) × FixedFails coding leaf width input r reach)
fixed_total coding leaf fine is width wire input = by (less_or_not (length input) width)
  where
    said : (w : Wire) → width ≤ length input → FixedWire coding leaf.little (take width input) w → CodesWire coding leaf.little (take width input) w → CodeAtFront leaf input ⊎ ((r : Reason) × (reach : ℕ) × FixedFails coding leaf width input r reach)
    said (wrong e) h f c = inr (e, width, code_not_permitted (h, (wrong e, f, refl), refl))
    said (says v y) h f c = imaged (image_or_none leaf fine y)
      where
        imaged : ((x : ℤ) × (has leaf.set x ≡ true) × (image_of leaf x ≡ Some y)) ⊎ NoneHas leaf y → CodeAtFront leaf input ⊎ ((r : Reason) × (reach : ℕ) × FixedFails coding leaf width input r reach)
        imaged (inl i) = inl (record {
          number = i.0;
          code = take width input;
          behind = drop width input;
          whole = sym (take-append-drop width input);
          codes = record { permitted = i.1; image = y; maps = i.2; spelled = subst (λ (z : NumCoding). CodingCode Any z leaf.little y (take width input)) (sym is) c };
        })
        imaged (inr n) = inr (out_of_range v, width, code_not_permitted (h, (says v y, f, (n, refl)), refl))

    by : (length input < width) ⊎ (width ≤ length input) → CodeAtFront leaf input ⊎ ((r : Reason) × (reach : ℕ) × FixedFails coding leaf width input r reach)
    by (inl h) = inr (short, length input, code_cut (h, refl, refl))
    by (inr h) = (let w = wire (take width input) (length-take-le width input h) in said w.wire h w.stands w.codes)
