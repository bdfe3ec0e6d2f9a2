-- The same of numbers with an end behind them, character by character.
use Rattle.std.proofs.Common.{◌≡◌, ℕ, zero, suc, ◌+◌, ◌<◌, ◌≤◌, max, ℤ, pos, Bool, true, false, List, [], ◌∷◌, ◌++◌, length, take, drop, Some, refl, sym, ap, ◌∙◌, arith, append_assoc, append-nil, length-append, take-append-drop, inl, inr, ◌⊎◌, subst, IsTrue}
use Rattle.std.specs.Prelude.{neg_ℤ}
use Rattle.std.proofs.lemmas.List.{length-take-le}
use Rattle.acn_num.specs.Bits.{number, low_bits}
use Rattle.acn_num.specs.Ranges.{has}
use Rattle.acn_grammar.specs.Code.{Any, CodingCode, SignOctet, image_of, decimal_number, IsMinimal, nibbles, digit_octets}
use Rattle.acn_grammar.specs.Images.{images_of}
use Rattle.acn_grammar.specs.LeafFails.{Reason, short, out_of_range, not_minimal, bad_digit, too_long, NoneHas, DigitAt, EndAt, CharacterFails, cut, end_cut, digit_too_many, no_digit_no_end, end_alone, not_shortest, not_permitted, EndedFails, Positive, Negative, AsciiEndedFails, most_digits, sign_cut, fails_behind_plus, fails_behind_minus, no_sign_octet}
use Rattle.acn_grammar.specs.Leaves.{num_fine}
use Rattle.acn_grammar.specs.declared.node.NumCoding.{NumCoding}
use Rattle.acn_grammar.specs.declared.node.NumCoding.TheVariants.{BcdEnded, AsciiEnded}
use Rattle.acn_grammar.specs.declared.node.NumLeaf.{NumLeaf}
use Rattle.acn_packet_laws.specs.Laws.{CodeAtFront}
use Rattle.acn_packet_laws.proofs.EndedExclusion.{Coded, Digits}
use Rattle.acn_packet_laws.proofs.LeafTotal.{is_or_not, same_or_not, image_or_none, octet_back, minus_sign}
use Rattle.acn_grammar.proofs.FirstPlaces.{less_or_not}

minimal_or_not : (ds : List ℕ) → IsMinimal ds ⊎ (IsMinimal ds → ⊥)
minimal_or_not [] = inr (λ h. h)
minimal_or_not (d ∷ []) = inl tt
minimal_or_not (d ∷ e ∷ ds) = by (less_or_not 0 d)
  where
    by : (0 < d) ⊎ (d ≤ 0) → (0 < d) ⊎ (0 < d → ⊥)
    by (inl h) = inl h
    by (inr h) = inr (λ k. absurd (omega arith))

digits-append : (ds es : List ℕ) → Digits ds → Digits es → Digits (ds ++ es)
digits-append [] es p q = q
digits-append (d ∷ ds) es p q = (p.0, digits-append ds es p.1 q)

-- digits and their end, and a permitted number behind them
pub record Ended (leaf : NumLeaf) (code : List ℕ → List Bool) (end : List Bool) (IsValue : ℕ → ℤ → Type 0) (rest : List Bool) : Type 0 where
  pub digits : List ℕ
  pub behind : List Bool
  pub whole : rest ≡ code digits ++ (end ++ behind)
  pub are : Digits digits
  pub minimal : IsMinimal digits
  pub value : ℤ
  pub is : IsValue (decimal_number digits) value
  pub number : ℤ
  pub permitted : has leaf.set number ≡ true
  pub maps : image_of leaf number ≡ Some value

module _ (code : List ℕ → List Bool) (size : ℕ) (end : List Bool) (coded : Coded code size end) (leaf : NumLeaf) (fine : IsTrue (num_fine leaf)) (most : ℕ) (IsValue : ℕ → ℤ → Type 0) (value_or_not : (k : ℕ) → ((x : ℤ) × IsValue k x) ⊎ (((x : ℤ) × IsValue k x) → ⊥)) where
  one_code : (d : ℕ) → code (d ∷ []) ≡ coded.one d
  one_code d = coded.step d [] ∙ (ap (λ l. coded.one d ++ l) coded.none ∙ append-nil (coded.one d))

  code_more : (ds : List ℕ) (d : ℕ) → code (ds ++ d ∷ []) ≡ code ds ++ coded.one d
  code_more [] d = one_code d ∙ ap (λ l. l ++ coded.one d) (sym coded.none)
  code_more (x ∷ ds) d = coded.step x (ds ++ d ∷ []) ∙ (ap (λ l. coded.one x ++ l) (code_more ds d) ∙ (sym (append_assoc (coded.one x) (code ds) (coded.one d)) ∙ ap (λ l. l ++ coded.one d) (sym (coded.step x ds))))

  abbrev Stands : List Bool → ℕ → Type 0
  Stands b d = take (length (code (d ∷ []))) b ≡ code (d ∷ [])

  digit_below : (b : List Bool) (n : ℕ) → ((d : ℕ) × (d < n) × Stands b d) ⊎ ((d : ℕ) → d < n → Stands b d → ⊥)
  digit_below b zero = inr (λ d h s. absurd (omega arith))
  digit_below b (suc n) = by (digit_below b n) (same_or_not (take (length (code (n ∷ []))) b) (code (n ∷ [])))
    where
      by : ((d : ℕ) × (d < n) × Stands b d) ⊎ ((d : ℕ) → d < n → Stands b d → ⊥) → Stands b n ⊎ (Stands b n → ⊥) → ((d : ℕ) × (d < suc n) × Stands b d) ⊎ ((d : ℕ) → d < suc n → Stands b d → ⊥)
      by (inl f) s = inl (f.0, omega (arith, f.1), f.2)
      by (inr f) (inl s) = inl (n, omega arith, s)
      by (inr f) (inr s) = inr (λ d h t. here d h t (is_or_not d n))
        where
          here : (d : ℕ) → d < suc n → Stands b d → (d ≡ n) ⊎ (d ≡ n → ⊥) → ⊥
          here d h t (inl e) = s (subst (λ (m : ℕ). Stands b m) e t)
          here d h t (inr e) = f d (less d n h e) t
            where
              less : (d n : ℕ) → d < suc n → (d ≡ n → ⊥) → d < n
              less d n h e = below (less_or_not d n)
                where
                  below : (d < n) ⊎ (n ≤ d) → d < n
                  below (inl k) = k
                  below (inr k) = absurd (e (omega arith))

  digit_or_not : (b : List Bool) → DigitAt code b ⊎ (DigitAt code b → ⊥)
  digit_or_not b = by (digit_below b 10)
    where
      by : ((d : ℕ) × (d < 10) × Stands b d) ⊎ ((d : ℕ) → d < 10 → Stands b d → ⊥) → DigitAt code b ⊎ (DigitAt code b → ⊥)
      by (inl f) = inl (record { digit = f.0; below = f.1; stands = f.2 })
      by (inr f) = inr (λ t. f t.digit t.below t.stands)

  abbrev Result : List Bool → Type 0
  Result input = Ended leaf code end IsValue input ⊎ ((r : Reason) × (reach : ℕ) × EndedFails leaf code size end most IsValue input r reach)

  -- what the character behind the digits says
  record State (input : List Bool) (ds : List ℕ) (b : List Bool) : Type 0 where
    whole : input ≡ code ds ++ b
    are : Digits ds
    few : length ds ≤ most

  failed : (input : List Bool) (ds : List ℕ) (b : List Bool) → State input ds b → (r : Reason) (more : ℕ) → CharacterFails leaf code size end most IsValue ds b r more → Result input
  failed input ds b s r more f = inr (r, length (code ds) + more, record { digits = ds; behind = b; whole = s.whole; are = s.are; few = s.few; more = more; fails = f; reaches = refl })

  imaged : (input : List Bool) (ds : List ℕ) (b : List Bool) → State input ds b → length end ≤ length b → EndAt end b → IsMinimal ds → (v : (x : ℤ) × IsValue (decimal_number ds) x) → ((x : ℤ) × (has leaf.set x ≡ true) × (image_of leaf x ≡ Some v.0)) ⊎ NoneHas leaf v.0 → Result input
  imaged input ds b s long e m v (inl i) = inl (record {
    digits = ds;
    behind = drop (length end) b;
    whole = s.whole ∙ ap (λ z. code ds ++ z) (sym (take-append-drop (length end) b) ∙ ap (λ z. z ++ drop (length end) b) e);
    are = s.are;
    minimal = m;
    value = v.0;
    is = v.1;
    number = i.0;
    permitted = i.1;
    maps = i.2;
  })
  imaged input ds b s long e m v (inr n) = failed input ds b s (out_of_range v.0) (length end) (not_permitted (long, e, m, (v.0, v.1, n, refl), refl))

  valued : (input : List Bool) (d : ℕ) (ds : List ℕ) (b : List Bool) → State input (d ∷ ds) b → length end ≤ length b → EndAt end b → IsMinimal (d ∷ ds) ⊎ (IsMinimal (d ∷ ds) → ⊥) → ((x : ℤ) × IsValue (decimal_number (d ∷ ds)) x) ⊎ (((x : ℤ) × IsValue (decimal_number (d ∷ ds)) x) → ⊥) → Result input
  valued input d ds b s long e (inl m) (inl v) = imaged input (d ∷ ds) b s long e m v (image_or_none leaf fine v.0)
  valued input d ds b s long e (inr m) v = failed input (d ∷ ds) b s not_minimal (length end) (not_shortest (long, e, omega arith, (λ h. m h.0), refl, refl))
  valued input d ds b s long e (inl m) (inr v) = failed input (d ∷ ds) b s not_minimal (length end) (not_shortest (long, e, omega arith, (λ h. v h.1), refl, refl))

  ended : (input : List Bool) (ds : List ℕ) (b : List Bool) → State input ds b → length end ≤ length b → EndAt end b → Result input
  ended input [] b s long e = failed input [] b s bad_digit (length end) (end_alone (long, e, refl, refl, refl))
  ended input (d ∷ ds) b s long e = valued input d ds b s long e (minimal_or_not (d ∷ ds)) (value_or_not (decimal_number (d ∷ ds)))

  undigit : (input : List Bool) (ds : List ℕ) (b : List Bool) → State input ds b → size ≤ length b → (DigitAt code b → ⊥) → (length b < length end) ⊎ (length end ≤ length b) → EndAt end b ⊎ (EndAt end b → ⊥) → Result input
  undigit input ds b s h n (inl l) e = failed input ds b s short (length b) (end_cut (h, n, l, refl, refl))
  undigit input ds b s h n (inr l) (inl e) = ended input ds b s l e
  undigit input ds b s h n (inr l) (inr e) = failed input ds b s bad_digit (max size (length end)) (no_digit_no_end (h, n, l, e, refl, refl))

  next : (input : List Bool) (ds : List ℕ) (b : List Bool) → State input ds b → (t : DigitAt code b) → length ds < most → State input (ds ++ t.digit ∷ []) (drop size b)
  next input ds b s t few =
      let long : length (code (t.digit ∷ [])) ≡ size = ap length (one_code t.digit) ∙ coded.long t.digit in
      let front : take size b ≡ coded.one t.digit = ap (λ (n : ℕ). take n b) (sym long) ∙ (t.stands ∙ one_code t.digit) in
      record {
        whole = s.whole ∙ (ap (λ z. code ds ++ z) (sym (take-append-drop size b) ∙ ap (λ z. z ++ drop size b) front) ∙ (sym (append_assoc (code ds) (coded.one t.digit) (drop size b)) ∙ ap (λ z. z ++ drop size b) (sym (code_more ds t.digit))));
        are = digits-append ds (t.digit ∷ []) s.are (t.below, tt);
        few = omega (arith, length-append ds (t.digit ∷ []));
      }

  run : (fuel : ℕ) (input : List Bool) (ds : List ℕ) (b : List Bool) → length ds + fuel ≡ most → State input ds b → Result input
  run zero input ds b f s = by (less_or_not (length b) size) (digit_or_not b)
    where
      by : (length b < size) ⊎ (size ≤ length b) → DigitAt code b ⊎ (DigitAt code b → ⊥) → Result input
      by (inl h) d = failed input ds b s short (length b) (cut (h, refl, refl))
      by (inr h) (inl d) = failed input ds b s too_long size (digit_too_many (h, d, omega (arith, f), refl, refl))
      by (inr h) (inr d) = undigit input ds b s h d (less_or_not (length b) (length end)) (same_or_not (take (length end) b) end)
  run (suc fuel) input ds b f s = by (less_or_not (length b) size) (digit_or_not b) (λ t. run fuel input (ds ++ t.digit ∷ []) (drop size b) (omega (arith, length-append ds (t.digit ∷ []), f)) (next input ds b s t (omega (arith, f))))
    where
      by : (length b < size) ⊎ (size ≤ length b) → DigitAt code b ⊎ (DigitAt code b → ⊥) → (DigitAt code b → Result input) → Result input
      by (inl h) d more = failed input ds b s short (length b) (cut (h, refl, refl))
      by (inr h) (inl d) more = more d
      by (inr h) (inr d) more = undigit input ds b s h d (less_or_not (length b) (length end)) (same_or_not (take (length end) b) end)

  pub ended_total : (input : List Bool) → Result input
  ended_total input = run most input [] input (omega arith) (record { whole = ap (λ z. z ++ input) (sym coded.none); are = tt; few = omega arith })

positive_or_not : (k : ℕ) → ((x : ℤ) × Positive k x) ⊎ (((x : ℤ) × Positive k x) → ⊥)
positive_or_not k = inl (pos k, refl)

negative_or_not : (k : ℕ) → ((x : ℤ) × Negative k x) ⊎ (((x : ℤ) × Negative k x) → ⊥)
negative_or_not k = by (less_or_not 0 k)
  where
    by : (0 < k) ⊎ (k ≤ 0) → ((x : ℤ) × Negative k x) ⊎ (((x : ℤ) × Negative k x) → ⊥)
    by (inl h) = inl (neg_ℤ (pos k), (h, refl))
    by (inr h) = inr (λ v. let p = v.1.0 in absurd (omega arith))

-- Decimal digits in 4 bits each.

pub bcd_total : (leaf : NumLeaf) → IsTrue (num_fine leaf) → leaf.coding ≡ BcdEnded → Coded nibbles 4 (low_bits 4 15) → (input : List Bool)
    → CodeAtFront leaf input ⊎ ((r : Reason) × (reach : ℕ) × EndedFails leaf nibbles 4 (low_bits 4 15) (most_digits (images_of leaf)) Positive input r reach)
bcd_total leaf fine is coded input = by (ended_total nibbles 4 (low_bits 4 15) coded leaf fine (most_digits (images_of leaf)) Positive positive_or_not input)
  where
    by : Ended leaf nibbles (low_bits 4 15) Positive input ⊎ ((r : Reason) × (reach : ℕ) × EndedFails leaf nibbles 4 (low_bits 4 15) (most_digits (images_of leaf)) Positive input r reach)
        → CodeAtFront leaf input ⊎ ((r : Reason) × (reach : ℕ) × EndedFails leaf nibbles 4 (low_bits 4 15) (most_digits (images_of leaf)) Positive input r reach)
    by (inr f) = inr f
    by (inl t) = inl (record {
      number = t.number;
      code = nibbles t.digits ++ low_bits 4 15;
      behind = t.behind;
      whole = t.whole ∙ sym (append_assoc (nibbles t.digits) (low_bits 4 15) t.behind);
      codes = record {
        permitted = t.permitted;
        image = t.value;
        maps = t.maps;
        spelled = subst (λ (z : NumCoding). CodingCode Any z leaf.little t.value (nibbles t.digits ++ low_bits 4 15)) (sym is)
            (decimal_number t.digits, t.is, record { digits = t.digits; spell = record { digits = t.are; value = refl }; minimal = t.minimal; whole = refl });
      };
    })

-- Octets.

plus_sign : (k : ℕ) (y : ℤ) → y ≡ pos k → SignOctet true y k (low_bits 8 43)
plus_sign k y e = subst (λ (z : ℤ). SignOctet true z k (low_bits 8 43)) (sym e) (refl, refl)

signs : (signed : Bool) (end : List Bool) (leaf : NumLeaf) → leaf.coding ≡ AsciiEnded end signed → (IsValue : ℕ → ℤ → Type 0) (sign rest input : List Bool) → input ≡ sign ++ rest → ((k : ℕ) (y : ℤ) → IsValue k y → SignOctet signed y k sign) → Ended leaf digit_octets end IsValue rest → CodeAtFront leaf input
signs signed end leaf is IsValue sign rest input e octet t = record {
  number = t.number;
  code = sign ++ (digit_octets t.digits ++ end);
  behind = t.behind;
  whole = e ∙ (ap (λ z. sign ++ z) (t.whole ∙ sym (append_assoc (digit_octets t.digits) end t.behind)) ∙ sym (append_assoc sign (digit_octets t.digits ++ end) t.behind));
  codes = record {
    permitted = t.permitted;
    image = t.value;
    maps = t.maps;
    spelled = subst (λ (z : NumCoding). CodingCode Any z leaf.little t.value (sign ++ (digit_octets t.digits ++ end))) (sym is)
        (decimal_number t.digits, sign, octet (decimal_number t.digits) t.value t.is, record { digits = t.digits; spell = record { digits = t.are; value = refl }; minimal = t.minimal; whole = refl });
  };
}

pub ascii_total : (signed : Bool) (leaf : NumLeaf) → IsTrue (num_fine leaf) → (end : List Bool) → leaf.coding ≡ AsciiEnded end signed → Coded digit_octets 8 end → (input : List Bool)
    → CodeAtFront leaf input ⊎ ((r : Reason) × (reach : ℕ) × AsciiEndedFails leaf end signed input r reach)
ascii_total false leaf fine end is coded input = by (ended_total digit_octets 8 end coded leaf fine (most_digits (images_of leaf)) Positive positive_or_not input)
  where
    by : Ended leaf digit_octets end Positive input ⊎ ((r : Reason) × (reach : ℕ) × EndedFails leaf digit_octets 8 end (most_digits (images_of leaf)) Positive input r reach)
        → CodeAtFront leaf input ⊎ ((r : Reason) × (reach : ℕ) × EndedFails leaf digit_octets 8 end (most_digits (images_of leaf)) Positive input r reach)
    by (inr f) = inr f
    by (inl t) = inl (signs false end leaf is Positive [] input input refl (λ k y e. (e, refl)) t)
ascii_total true leaf fine end is coded input = first (less_or_not (length input) 8) (is_or_not (number (take 8 input)) 43) (is_or_not (number (take 8 input)) 45)
  where
    Result : Type 0
    Result = CodeAtFront leaf input ⊎ ((r : Reason) × (reach : ℕ) × AsciiEndedFails leaf end true input r reach)

    sign_is : (o : ℕ) → 8 ≤ length input → number (take 8 input) ≡ o → input ≡ low_bits 8 o ++ drop 8 input
    sign_is o h e = sym (take-append-drop 8 input) ∙ ap (λ z. z ++ drop 8 input) (sym (octet_back (take 8 input) (length-take-le 8 input h)) ∙ ap (low_bits 8) e)

    plus : 8 ≤ length input → number (take 8 input) ≡ 43 → Ended leaf digit_octets end Positive (drop 8 input) ⊎ ((r : Reason) × (reach : ℕ) × EndedFails leaf digit_octets 8 end (most_digits (images_of leaf)) Positive (drop 8 input) r reach) → Result
    plus h e (inl t) = inl (signs true end leaf is Positive (low_bits 8 43) (drop 8 input) input (sign_is 43 h e) plus_sign t)
    plus h e (inr f) = inr (f.0, 8 + f.1, fails_behind_plus (h, e, record { more = f.1; fails = f.2; reaches = refl }))

    minus : 8 ≤ length input → number (take 8 input) ≡ 45 → Ended leaf digit_octets end Negative (drop 8 input) ⊎ ((r : Reason) × (reach : ℕ) × EndedFails leaf digit_octets 8 end (most_digits (images_of leaf)) Negative (drop 8 input) r reach) → Result
    minus h e (inl t) = inl (signs true end leaf is Negative (low_bits 8 45) (drop 8 input) input (sign_is 45 h e) (λ k y v. subst (λ (z : ℤ). SignOctet true z k (low_bits 8 45)) (sym v.1) (minus_sign k v.0)) t)
    minus h e (inr f) = inr (f.0, 8 + f.1, fails_behind_minus (h, e, record { more = f.1; fails = f.2; reaches = refl }))

    neither : (number (take 8 input) ≡ 43 → ⊥) → (number (take 8 input) ≡ 45 → ⊥) → (number (take 8 input) ≡ 43) ⊎ (number (take 8 input) ≡ 45) → ⊥
    neither p m (inl e) = p e
    neither p m (inr e) = m e

    first : (length input < 8) ⊎ (8 ≤ length input) → (number (take 8 input) ≡ 43) ⊎ (number (take 8 input) ≡ 43 → ⊥) → (number (take 8 input) ≡ 45) ⊎ (number (take 8 input) ≡ 45 → ⊥) → Result
    first (inl h) p m = inr (short, length input, sign_cut (h, refl, refl))
    first (inr h) (inl p) m = plus h p (ended_total digit_octets 8 end coded leaf fine (most_digits (images_of leaf)) Positive positive_or_not (drop 8 input))
    first (inr h) (inr p) (inl m) = minus h m (ended_total digit_octets 8 end coded leaf fine (most_digits (images_of leaf)) Negative negative_or_not (drop 8 input))
    first (inr h) (inr p) (inr m) = inr (bad_digit, 8, no_sign_octet (h, neither p m, refl, refl))
