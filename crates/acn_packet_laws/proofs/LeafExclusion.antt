-- A code and a failure of a number leaf exclude each other, and two failures are one: codes of one width, and counted ones.
use Rattle.std.proofs.Common.{◌≡◌, ℕ, ◌+◌, ◌-◌, ◌*◌, ◌%◌, ◌^◌, ◌<◌, ◌≤◌, ℤ, pos, negsuc, ◌+ℤ◌, Bool, true, false, List, [], ◌∷◌, ◌++◌, length, map, take, drop, Option, Some, None, refl, sym, ap, ◌∙◌, arith, append_assoc, append-nil, length-append, inl, inr, ◌⊎◌, nat_eq, nat_lt, subst, not, ◌&&◌}
use Rattle.std.specs.Prelude.{neg_ℤ, if◌then◌else◌}
use Rattle.std.specs.List.{AllByRecursion}
use Rattle.std.proofs.lemmas.Bool.Decides.{nat_tests}
use Rattle.acn_num.specs.Bits.{number, signed_number, low_bits, bits, IsNumber}
use Rattle.acn_num.specs.Ranges.{In}
use Rattle.acn_grammar.specs.Code.{Any, CodingCode, decimal_number, nibbles, digit_octets, SignOctet, image_of, in_order}
use Rattle.acn_grammar.specs.LeafFails.{Reason, short, out_of_range, not_minimal, too_long, Wire, says, wrong, nibbles_of, octet_values, AllDigits, value_of, SignedWire, DigitsWire, PatternWire, OnePatternWire, FixedWire, WireFails, FixedFails, CountedFails, no_count, none_counted, many_counted, octets_cut, octets_to_spare, counted_not_permitted, plus_digits, minus_digits, minus_nothing, no_signed_digits, code_cut, code_not_permitted}
use Rattle.acn_grammar.specs.Leaves.{coding_fine, is_pattern, same_bits}
use Rattle.acn_grammar.specs.declared.node.NumCoding.{NumCoding}
use Rattle.acn_grammar.specs.declared.node.NumCoding.TheVariants.{Range, CountedFrom, CountedSigned, PosInt, Twos, Bcd, BcdEnded, Ascii, AsciiEnded, Flag, Fixed}
use Rattle.acn_grammar.specs.declared.node.NumLeaf.{NumLeaf}
use Rattle.acn_grammar.proofs.Codings.{patterns_differ}
use Rattle.acn_packet_laws.proofs.Exclusion.{take_n, drop_n}
use Rattle.std.proofs.lemmas.Bool.{lt-ltb, ne_eqb, and_parts, not-true}
use Rattle.acn_num.proofs.BitLists.{number-low_bits}

-- Digits come back.

pub nibbles_back : (ds : List ℕ) → AllByRecursion (λ d. d < 10) ds → nibbles_of (nibbles ds) ≡ ds
nibbles_back [] h = refl
nibbles_back (d ∷ ds) h = join (number-low_bits 4 d ∙ small d h.0) (nibbles_back ds h.1)
  where
    small : (d : ℕ) → d < 10 → d % 2 ^ 4 ≡ d
    small d h = omega arith

    join : {x y : ℕ} {xs ys : List ℕ} → x ≡ y → xs ≡ ys → x ∷ xs ≡ y ∷ ys
    join e f = cc

pub octets_back : (os : List ℕ) (rest : List Bool) → AllByRecursion (λ o. o < 256) os → octet_values (bits os ++ rest) ≡ os ++ octet_values rest
octets_back [] rest h = refl
octets_back (o ∷ os) rest h = join (number-low_bits 8 o ∙ small o h.0) (octets_back os rest h.1)
  where
    small : (o : ℕ) → o < 256 → o % 2 ^ 8 ≡ o
    small o h = omega arith

    join : {x y : ℕ} {xs ys : List ℕ} → x ≡ y → xs ≡ ys → x ∷ xs ≡ y ∷ ys
    join e f = cc

digits_up : (ds : List ℕ) → AllByRecursion (λ d. d < 10) ds → AllByRecursion (λ o. o < 256) (map (λ d. 48 + d) ds)
digits_up [] h = tt
digits_up (d ∷ ds) h = (omega (arith, h.0), digits_up ds h.1)

digit_octets_back : (ds : List ℕ) → AllByRecursion (λ d. d < 10) ds → octet_values (digit_octets ds) ≡ map (λ d. 48 + d) ds
digit_octets_back ds h = ap octet_values (sym (append-nil (digit_octets ds))) ∙ (octets_back (map (λ d. 48 + d) ds) [] (digits_up ds h) ∙ append-nil (map (λ d. 48 + d) ds))

all_zero : (ds : List ℕ) → AllByRecursion (λ d. d < 10) ds → AllDigits 0 ds
all_zero [] h = tt
all_zero (d ∷ ds) h = ((omega arith, omega (arith, h.0)), all_zero ds h.1)

all_up : (ds : List ℕ) → AllByRecursion (λ d. d < 10) ds → AllDigits 48 (map (λ d. 48 + d) ds)
all_up [] h = tt
all_up (d ∷ ds) h = ((omega arith, omega (arith, h.0)), all_up ds h.1)

value_zero : (ds : List ℕ) → map (λ d. d - 0) ds ≡ ds
value_zero [] = refl
value_zero (d ∷ ds) = let one : d - 0 ≡ d = omega arith in let rest = value_zero ds in cc

value_up : (ds : List ℕ) → map (λ d. d - 48) (map (λ d. 48 + d) ds) ≡ ds
value_up [] = refl
value_up (d ∷ ds) = let one : (48 + d) - 48 ≡ d = omega arith in let rest = value_up ds in cc

digits_say : (z : ℕ) (os : List ℕ) (k : ℕ) (w : Wire) → AllDigits z os → value_of z os ≡ k → DigitsWire z os w → w ≡ says (pos k) (pos k)
digits_say z os k w all v (inl h) = h.1 ∙ ap (λ n. says (pos n) (pos n)) v
digits_say z os k w all v (inr h) = absurd (h.0 all)

digits_one : (z : ℕ) (os : List ℕ) (w v : Wire) → DigitsWire z os w → DigitsWire z os v → w ≡ v
digits_one z os w v (inl p) (inl q) = p.1 ∙ sym q.1
digits_one z os w v (inl p) (inr q) = absurd (q.0 p.0)
digits_one z os w v (inr p) (inl q) = absurd (p.0 q.0)
digits_one z os w v (inr p) (inr q) = p.1 ∙ sym q.1

-- a sign octet, and digits behind it
signed_say : (y : ℤ) (k : ℕ) (sign : List Bool) (s : ℕ) (os : List ℕ) (w : Wire) → SignOctet true y k sign → (sign ≡ low_bits 8 43 → s ≡ 43) → (sign ≡ low_bits 8 45 → s ≡ 45) → AllDigits 48 os → value_of 48 os ≡ k → SignedWire (s ∷ os) w → (v : ℤ) × (w ≡ says v y)
signed_say (pos n) k sign s os w o a b all v (plus_digits h) = (pos n, h.2 ∙ ap (λ m. says (pos m) (pos m)) (v ∙ o.0))
signed_say (pos n) k sign s os w o a b all v (minus_digits h) = let x = a o.1 in let y = h.0 in absurd (omega arith)
signed_say (pos n) k sign s os w o a b all v (minus_nothing h) = let x = a o.1 in let y = h.0 in absurd (omega arith)
signed_say (pos n) k sign s os w o a b all v (no_signed_digits h) = absurd (h.0 (inl (a o.1)) all)
signed_say (negsuc n) k sign s os w o a b all v (plus_digits h) = let x = b o.1 in let y = h.0 in absurd (omega arith)
signed_say (negsuc n) k sign s os w o a b all v (minus_digits h) = (negsuc n, h.3 ∙ ap (λ m. says (neg_ℤ (pos m)) (neg_ℤ (pos m))) (v ∙ o.0))
signed_say (negsuc n) k sign s os w o a b all v (minus_nothing h) = let x = h.2 in let y = o.0 in absurd (omega arith)
signed_say (negsuc n) k sign s os w o a b all v (no_signed_digits h) = absurd (h.0 (inr (b o.1)) all)

signed_one : (os : List ℕ) (w v : Wire) → SignedWire os w → SignedWire os v → w ≡ v
signed_one [] w v p q = absurd p
signed_one (s ∷ os) w v (plus_digits p) (plus_digits q) = p.2 ∙ sym q.2
signed_one (s ∷ os) w v (plus_digits p) (minus_digits q) = let x = p.0 in let y = q.0 in absurd (omega arith)
signed_one (s ∷ os) w v (plus_digits p) (minus_nothing q) = let x = p.0 in let y = q.0 in absurd (omega arith)
signed_one (s ∷ os) w v (plus_digits p) (no_signed_digits q) = absurd (q.0 (inl p.0) p.1)
signed_one (s ∷ os) w v (minus_digits p) (plus_digits q) = let x = p.0 in let y = q.0 in absurd (omega arith)
signed_one (s ∷ os) w v (minus_digits p) (minus_digits q) = p.3 ∙ sym q.3
signed_one (s ∷ os) w v (minus_digits p) (minus_nothing q) = let x = p.2 in let y = q.2 in absurd (omega arith)
signed_one (s ∷ os) w v (minus_digits p) (no_signed_digits q) = absurd (q.0 (inr p.0) p.1)
signed_one (s ∷ os) w v (minus_nothing p) (plus_digits q) = let x = p.0 in let y = q.0 in absurd (omega arith)
signed_one (s ∷ os) w v (minus_nothing p) (minus_digits q) = let x = p.2 in let y = q.2 in absurd (omega arith)
signed_one (s ∷ os) w v (minus_nothing p) (minus_nothing q) = p.3 ∙ sym q.3
signed_one (s ∷ os) w v (minus_nothing p) (no_signed_digits q) = absurd (q.0 (inr p.0) p.1)
signed_one (s ∷ os) w v (no_signed_digits p) (plus_digits q) = absurd (p.0 (inl q.0) q.1)
signed_one (s ∷ os) w v (no_signed_digits p) (minus_digits q) = absurd (p.0 (inr q.0) q.1)
signed_one (s ∷ os) w v (no_signed_digits p) (minus_nothing q) = absurd (p.0 (inr q.0) q.1)
signed_one (s ∷ os) w v (no_signed_digits p) (no_signed_digits q) = p.1 ∙ sym q.1

pattern_one : (ps : List (List Bool × ℤ)) (bs : List Bool) (w v : Wire) → PatternWire ps bs w → PatternWire ps bs v → w ≡ v
pattern_one [] bs w v p q = p ∙ sym q
pattern_one (x ∷ ps) bs w v (inl p) (inl q) = p.1 ∙ sym q.1
pattern_one (x ∷ ps) bs w v (inl p) (inr q) = absurd (q.0 p.0)
pattern_one (x ∷ ps) bs w v (inr p) (inl q) = absurd (p.0 q.0)
pattern_one (x ∷ ps) bs w v (inr p) (inr q) = pattern_one ps bs w v p.1 q.1

own_one : (p : List Bool) (a b : ℤ) (bs : List Bool) (w v : Wire) → OnePatternWire p a b bs w → OnePatternWire p a b bs v → w ≡ v
own_one p a b bs w v (inl x) (inl y) = x.1 ∙ sym y.1
own_one p a b bs w v (inl x) (inr y) = absurd (y.0 x.0)
own_one p a b bs w v (inr x) (inl y) = absurd (x.0 y.0)
own_one p a b bs w v (inr x) (inr y) = x.1 ∙ sym y.1

-- bits of one width say one thing
wire_one : (coding : NumCoding) (little : Bool) (bs : List Bool) (w v : Wire) → FixedWire coding little bs w → FixedWire coding little bs v → w ≡ v
wire_one (Range low width) little bs w v p q = p ∙ sym q
wire_one (PosInt n) little bs w v p q = p ∙ sym q
wire_one (Twos n) little bs w v p q = p ∙ sym q
wire_one (Bcd n) little bs w v p q = digits_one 0 (nibbles_of bs) w v p q
wire_one (Ascii n true) little bs w v p q = signed_one (octet_values bs) w v p q
wire_one (Ascii n false) little bs w v p q = digits_one 48 (octet_values bs) w v p q
wire_one (Flag None None) little bs w v p q = p ∙ sym q
wire_one (Flag (Some a) None) little bs w v p q = own_one a (pos 1) (pos 0) bs w v p q
wire_one (Flag None (Some b)) little bs w v p q = own_one b (pos 0) (pos 1) bs w v p q
wire_one (Flag (Some a) (Some b)) little bs w v p q = pattern_one ((a, pos 1) ∷ (b, pos 0) ∷ []) bs w v p q
wire_one (Fixed a) little bs w v p q = pattern_one ((a, pos 0) ∷ []) bs w v p q
wire_one (CountedFrom low) little bs w v p q = absurd p
wire_one CountedSigned little bs w v p q = absurd p
wire_one BcdEnded little bs w v p q = absurd p
wire_one (AsciiEnded end signed) little bs w v p q = absurd p

wire_fails : (leaf : NumLeaf) (w v : Wire) (r r' : Reason) → w ≡ v → WireFails leaf w r → WireFails leaf v r' → r ≡ r'
wire_fails leaf w v r r' e p q = same w (subst (λ (x : Wire). WireFails leaf x r') (sym e) q) p
  where
    same : (w : Wire) → WireFails leaf w r' → WireFails leaf w r → r ≡ r'
    same (says a b) q p = p.1 ∙ sym q.1
    same (wrong x) q p = p ∙ sym q

pub fixed_same : (coding : NumCoding) (leaf : NumLeaf) (width : ℕ) (rest : List Bool) (r r' : Reason) (m n : ℕ) → FixedFails coding leaf width rest r m → FixedFails coding leaf width rest r' n → (r ≡ r') × (m ≡ n)
fixed_same coding leaf width rest r r' m n (code_cut p) (code_cut q) = (p.1 ∙ sym q.1, p.2 ∙ sym q.2)
fixed_same coding leaf width rest r r' m n (code_cut p) (code_not_permitted q) = let a = p.0 in let b = q.0 in absurd (omega arith)
fixed_same coding leaf width rest r r' m n (code_not_permitted p) (code_cut q) = let a = p.0 in let b = q.0 in absurd (omega arith)
fixed_same coding leaf width rest r r' m n (code_not_permitted p) (code_not_permitted q) =
    (wire_fails leaf p.1.0 q.1.0 r r' (wire_one coding leaf.little (take width rest) p.1.0 q.1.0 p.1.1 q.1.1) p.1.2 q.1.2, p.2 ∙ sym q.2)

wire_excl : (leaf : NumLeaf) (w : Wire) (v y x : ℤ) (r : Reason) → w ≡ says v y → In leaf.set x → image_of leaf x ≡ Some y → WireFails leaf w r → ⊥
wire_excl leaf w v y x r e p m f = (subst (λ (z : Wire). WireFails leaf z r) e f).0 x p m

pub fixed_excl : (coding : NumCoding) (leaf : NumLeaf) (width : ℕ) (x y : ℤ) (bs r : List Bool) (reason : Reason) (reach : ℕ) → length bs ≡ width → ((w : Wire) → FixedWire coding leaf.little bs w → (v : ℤ) × (w ≡ says v y)) → In leaf.set x → image_of leaf x ≡ Some y → FixedFails coding leaf width (bs ++ r) reason reach → ⊥
fixed_excl coding leaf width x y bs r reason reach l say p m (code_cut f) = let a = f.0 in let b = length-append bs r in absurd (omega arith)
fixed_excl coding leaf width x y bs r reason reach l say p m (code_not_permitted f) =
    let w = say f.1.0 (subst (λ (z : List Bool). FixedWire coding leaf.little z f.1.0) (take_n width bs r l) f.1.1) in
    wire_excl leaf f.1.0 w.0 y x reason w.1 p m f.1.2

-- a code says its number

four_or_five : (b : Bool) → low_bits 8 43 ≡ low_bits 8 45 → ⊥
four_or_five b e = cc

sign_octet : (y : ℤ) (k : ℕ) (sign : List Bool) → SignOctet true y k sign → (s : ℕ) × ((sign ≡ low_bits 8 43) ⊎ (sign ≡ low_bits 8 45)) × (sign ≡ low_bits 8 s) × (s < 256) × (sign ≡ low_bits 8 43 → s ≡ 43) × (sign ≡ low_bits 8 45 → s ≡ 45)
sign_octet (pos n) k sign h = (43, inl h.1, h.1, omega arith, (λ e. refl), (λ e. absurd (four_or_five true (sym h.1 ∙ e))))
sign_octet (negsuc n) k sign h = (45, inr h.1, h.1, omega arith, (λ e. absurd (four_or_five true (sym e ∙ h.1))), (λ e. refl))

signed_octets : (y : ℤ) (k : ℕ) (sign : List Bool) (ds : List ℕ) → AllByRecursion (λ d. d < 10) ds → (o : SignOctet true y k sign) → octet_values (sign ++ digit_octets ds) ≡ (sign_octet y k sign o).0 ∷ map (λ d. 48 + d) ds
signed_octets y k sign ds h o =
    let s = sign_octet y k sign o in
    ap (λ z. octet_values (z ++ digit_octets ds)) s.2 ∙ (ap octet_values (ap (λ z. z ++ digit_octets ds) (sym (append-nil (low_bits 8 s.0)))) ∙ (octets_back (s.0 ∷ []) (digit_octets ds) (s.3, tt) ∙ ap (λ l. s.0 ∷ l) (digit_octets_back ds h)))

flag_says : (p q : Option (List Bool)) (little : Bool) (y : ℤ) (bs : List Bool) (w : Wire) → coding_fine (Flag p q) ≡ true → CodingCode Any (Flag p q) little y bs → FixedWire (Flag p q) little bs w → (v : ℤ) × (w ≡ says v y)
flag_says None None little y bs w f c h = (pos (number bs), h ∙ ap (λ n. says (pos (number bs)) n) (sym (c.1 ∙ ap (λ n. pos n) (sym c.2.value))))
flag_says (Some p) None little y bs w f (inl c) (inl h) = (pos 1, h.1 ∙ ap (says (pos 1)) (sym c.0))
flag_says (Some p) None little y bs w f (inl c) (inr h) = absurd (h.0 c.1)
flag_says (Some p) None little y bs w f (inr c) (inl h) = absurd (c.1.1 h.0)
flag_says (Some p) None little y bs w f (inr c) (inr h) = (pos 0, h.1 ∙ ap (says (pos 0)) (sym c.0))
flag_says None (Some q) little y bs w f (inl c) (inl h) = (pos 0, h.1 ∙ ap (says (pos 0)) (sym c.0))
flag_says None (Some q) little y bs w f (inl c) (inr h) = absurd (h.0 c.1)
flag_says None (Some q) little y bs w f (inr c) (inl h) = absurd (c.1.1 h.0)
flag_says None (Some q) little y bs w f (inr c) (inr h) = (pos 1, h.1 ∙ ap (says (pos 1)) (sym c.0))
flag_says (Some p) (Some q) little y bs w f (inl c) (inl h) = (pos 1, h.1 ∙ ap (says (pos 1)) (sym c.0))
flag_says (Some p) (Some q) little y bs w f (inl c) (inr h) = absurd (h.0 c.1)
flag_says (Some p) (Some q) little y bs w f (inr c) (inl h) =
    let a = and_parts (is_pattern p) (nat_eq (length p) (length q) && not (same_bits p q)) f in
    let b = and_parts (nat_eq (length p) (length q)) (not (same_bits p q)) a.1 in
    absurd (patterns_differ p q (not-true (same_bits p q) b.1) (sym h.0 ∙ c.1))
flag_says (Some p) (Some q) little y bs w f (inr c) (inr (h0, inl h)) = (pos 0, h.1 ∙ ap (says (pos 0)) (sym c.0))
flag_says (Some p) (Some q) little y bs w f (inr c) (inr (h0, inr h)) = absurd (h.0 c.1)

pub code_says : (coding : NumCoding) (little : Bool) (y : ℤ) (bs : List Bool) (w : Wire) → coding_fine coding ≡ true → CodingCode Any coding little y bs → FixedWire coding little bs w → (v : ℤ) × (w ≡ says v y)
code_says (Range low width) little y bs w f c h = (pos (number bs), h ∙ ap (says (pos (number bs))) (sym (c.1 ∙ ap (λ n. low +ℤ pos n) (sym c.2.value))))
code_says (PosInt n) little y bs w f c h = (pos (number (in_order little bs)), h ∙ ap (says (pos (number (in_order little bs)))) (sym c.1))
code_says (Twos n) little y bs w f c h = (signed_number (in_order little bs), h ∙ ap (says (signed_number (in_order little bs))) (sym c.1))
code_says (Bcd n) little y bs w f c h =
    let t = c.3 in
    let os : nibbles_of bs ≡ t.digits = ap nibbles_of (t.whole ∙ append-nil (nibbles t.digits)) ∙ nibbles_back t.digits t.spell.digits in
    let said = digits_say 0 t.digits c.0 w (all_zero t.digits t.spell.digits) (ap decimal_number (value_zero t.digits) ∙ t.spell.value) (subst (λ (z : List ℕ). DigitsWire 0 z w) os h) in
    (pos c.0, said ∙ ap (says (pos c.0)) (sym c.1))
code_says (Ascii n false) little y bs w f c h =
    let t = c.4 in
    let os : octet_values bs ≡ map (λ d. 48 + d) t.digits = ap octet_values (t.whole ∙ (ap (λ z. z ++ (digit_octets t.digits ++ [])) c.2.1 ∙ append-nil (digit_octets t.digits))) ∙ digit_octets_back t.digits t.spell.digits in
    let said = digits_say 48 (map (λ d. 48 + d) t.digits) c.0 w (all_up t.digits t.spell.digits) (ap decimal_number (value_up t.digits) ∙ t.spell.value) (subst (λ (z : List ℕ). DigitsWire 48 z w) os h) in
    (pos c.0, said ∙ ap (says (pos c.0)) (sym c.2.0))
code_says (Ascii n true) little y bs w f c h =
    let t = c.4 in
    let s = sign_octet y c.0 c.1 c.2 in
    let os : octet_values bs ≡ s.0 ∷ map (λ d. 48 + d) t.digits = ap octet_values (t.whole ∙ ap (λ z. c.1 ++ z) (append-nil (digit_octets t.digits))) ∙ signed_octets y c.0 c.1 t.digits t.spell.digits c.2 in
    signed_say y c.0 c.1 s.0 (map (λ d. 48 + d) t.digits) w c.2 s.4 s.5 (all_up t.digits t.spell.digits) (ap decimal_number (value_up t.digits) ∙ t.spell.value) (subst (λ (z : List ℕ). SignedWire z w) os h)
code_says (Flag p q) little y bs w f c h = flag_says p q little y bs w f c h
code_says (Fixed p) little y bs w f c (inl h) = (pos 0, h.1 ∙ ap (says (pos 0)) (sym c.0))
code_says (Fixed p) little y bs w f c (inr h) = absurd (h.0 c.1)
code_says (CountedFrom low) little y bs w f c h = absurd h
code_says CountedSigned little y bs w f c h = absurd h
code_says BcdEnded little y bs w f c h = absurd h
code_says (AsciiEnded end signed) little y bs w f c h = absurd h

-- Counted numbers.

lt_false : (a b : ℕ) → b ≤ a → nat_lt a b ≡ false
lt_false a b h = grind (arith, nat_tests)

eq_true : (a b : ℕ) → a ≡ b → nat_eq a b ≡ true
eq_true a b e = grind (arith, nat_tests)

-- the first reason, of the count, how many octets are needed and what the octets say
abbrev first_reason : (len c needed : ℕ) → ℤ → Reason × ℕ
first_reason len c needed wire =
    if nat_lt len 8 then (short, len) else (if nat_eq c 0 then (not_minimal, 8) else (if nat_lt 8 c then (too_long, 8) else (if nat_lt len (8 + 8 * c) then (short, len) else (if nat_lt needed c then (not_minimal, 8 + 8 * c) else (out_of_range wire, 8 + 8 * c)))))

abbrev IsFirst : (len c needed : ℕ) → ℤ → Reason → ℕ → Type 0
IsFirst len c needed wire r reach = (r ≡ (first_reason len c needed wire).0) × (reach ≡ (first_reason len c needed wire).1)

counted_first : (leaf : NumLeaf) (number_in : List Bool → ℤ) (needs : ℤ → ℕ) (image : ℤ → ℤ) (input : List Bool) (r : Reason) (reach : ℕ) → CountedFails leaf number_in needs image input r reach
    → IsFirst (length input) (number (take 8 input)) (needs (number_in (take (8 * number (take 8 input)) (drop 8 input)))) (number_in (take (8 * number (take 8 input)) (drop 8 input))) r reach
counted_first leaf number_in needs image input r reach (no_count f) = rw (lt-ltb (length input) 8 f.0) (f.1, f.2)
counted_first leaf number_in needs image input r reach (none_counted f) = rw (lt_false (length input) 8 f.0, eq_true (number (take 8 input)) 0 f.1) (f.2, f.3)
counted_first leaf number_in needs image input r reach (many_counted f) =
    let over = f.1 in
    rw (lt_false (length input) 8 f.0, ne_eqb (number (take 8 input)) 0 (λ e. omega arith), lt-ltb 8 (number (take 8 input)) f.1) (f.2, f.3)
counted_first leaf number_in needs image input r reach (octets_cut f) =
    let some = f.1 in
    rw (lt_false (length input) 8 f.0, ne_eqb (number (take 8 input)) 0 (λ e. omega arith), lt_false 8 (number (take 8 input)) f.2, lt-ltb (length input) (8 + 8 * number (take 8 input)) f.3) (f.4, f.5)
counted_first leaf number_in needs image input r reach (octets_to_spare f) =
    let some = f.1 in
    let long = f.0 in
    rw (lt_false (length input) 8 (omega arith), ne_eqb (number (take 8 input)) 0 (λ e. omega arith), lt_false 8 (number (take 8 input)) f.2, lt_false (length input) (8 + 8 * number (take 8 input)) f.0, lt-ltb (needs (number_in (take (8 * number (take 8 input)) (drop 8 input)))) (number (take 8 input)) f.3) (f.4, f.5)
counted_first leaf number_in needs image input r reach (counted_not_permitted f) =
    let some = f.1 in
    let long = f.0 in
    let is = f.3 in
    rw (lt_false (length input) 8 (omega arith), ne_eqb (number (take 8 input)) 0 (λ e. omega arith), lt_false 8 (number (take 8 input)) f.2, lt_false (length input) (8 + 8 * number (take 8 input)) f.0, lt_false (needs (number_in (take (8 * number (take 8 input)) (drop 8 input)))) (number (take 8 input)) (omega arith)) (f.5, f.6)

pub counted_same : (leaf : NumLeaf) (number_in : List Bool → ℤ) (needs : ℤ → ℕ) (image : ℤ → ℤ) (input : List Bool) (r r' : Reason) (m n : ℕ) → CountedFails leaf number_in needs image input r m → CountedFails leaf number_in needs image input r' n → (r ≡ r') × (m ≡ n)
counted_same leaf number_in needs image input r r' m n p q =
    let a = counted_first leaf number_in needs image input r m p in
    let b = counted_first leaf number_in needs image input r' n q in
    (a.0 ∙ sym b.0, a.1 ∙ sym b.1)

-- a count and octets that code a permitted number
pub counted_excl : (leaf : NumLeaf) (number_in : List Bool → ℤ) (needs : ℤ → ℕ) (image : ℤ → ℤ) (x y : ℤ) (c : ℕ) (front body r : List Bool) (reason : Reason) (reach : ℕ)
    → IsNumber 8 c front → length body ≡ 8 * c → 0 < c → c ≤ 8 → needs (number_in body) ≡ c → image (number_in body) ≡ y → In leaf.set x → image_of leaf x ≡ Some y → CountedFails leaf number_in needs image ((front ++ body) ++ r) reason reach → ⊥
counted_excl leaf number_in needs image x y c front body r reason reach counts long some few need is p m f =
    let input = (front ++ body) ++ r in
    let count_is : number (take 8 ((front ++ body) ++ r)) ≡ c = ap number (ap (take 8) (append_assoc front body r) ∙ take_n 8 front (body ++ r) counts.width) ∙ counts.value in
    let rest : drop 8 ((front ++ body) ++ r) ≡ body ++ r = ap (drop 8) (append_assoc front body r) ∙ drop_n 8 front (body ++ r) counts.width in
    let body_is : take (8 * number (take 8 ((front ++ body) ++ r))) (drop 8 ((front ++ body) ++ r)) ≡ body = ap (λ k. take (8 * k) (drop 8 ((front ++ body) ++ r))) count_is ∙ (ap (take (8 * c)) rest ∙ take_n (8 * c) body r long) in
    let all : length ((front ++ body) ++ r) ≡ 8 + (8 * c + length r) = length-append (front ++ body) r ∙ lengths (length-append front body) in
    by f input count_is body_is all
  where
    lengths : length (front ++ body) ≡ length front + length body → length (front ++ body) + length r ≡ 8 + (8 * c + length r)
    lengths h = let w = counts.width in omega arith

    by : CountedFails leaf number_in needs image ((front ++ body) ++ r) reason reach → (input : List Bool) → number (take 8 ((front ++ body) ++ r)) ≡ c → take (8 * number (take 8 ((front ++ body) ++ r))) (drop 8 ((front ++ body) ++ r)) ≡ body → length ((front ++ body) ++ r) ≡ 8 + (8 * c + length r) → ⊥
    by (no_count f) input count_is body_is all = let a = f.0 in omega arith
    by (none_counted f) input count_is body_is all = let a = f.1 in omega arith
    by (many_counted f) input count_is body_is all = let a = f.1 in omega arith
    by (octets_cut f) input count_is body_is all = let a = f.3 in omega arith
    by (octets_to_spare f) input count_is body_is all = let a = f.3 in let b : needs (number_in (take (8 * number (take 8 ((front ++ body) ++ r))) (drop 8 ((front ++ body) ++ r)))) ≡ c = ap (λ z. needs (number_in z)) body_is ∙ need in omega arith
    by (counted_not_permitted f) input count_is body_is all = f.4 x p (m ∙ ap Some (sym (ap (λ z. image (number_in z)) body_is ∙ is)))
