-- Written codes of one width.
use Rattle.std.proofs.Common.{◌≡◌, ℕ, zero, suc, ◌+◌, ◌-◌, ◌*◌, ◌/◌, ◌%◌, ◌^◌, ◌<◌, ◌≤◌, ℤ, pos, neg_ℤ, ◌+ℤ◌, ◌-ℤ◌, ◌≤ℤ◌, ◌<ℤ◌, Bool, true, false, not, List, [], ◌∷◌, length, reverse, get_or, refl, sym, ap, ◌∙◌, subst, inl, inr, arith, Option, Some, None, ◌⊎◌, to_z, of_z, nat_abs}
use Rattle.std.specs.Int.{w128}
use Rattle.std.proofs.lemmas.List.{length-map, length-reverse, reverse-reverse, get_or-reverse, get_or_past}
use Rattle.std.proofs.lemmas.Int.{ints}
use Rattle.std.proofs.lemmas.Nat.{one_shl}
use Rattle.std.proofs.lemmas.Nat.Bits.{ones_shr}
use Rattle.std.proofs.Math.Nat.{pow-le-pow_right, pow-suc}
use Rattle.acn_num.specs.Bits.{number, signed_number, low_bits, bits, IsNumber}
use Rattle.acn_num.proofs.BitLists.{number_below, number-low_bits, length-low_bits, low_bits-number, length-bits}
use Rattle.acn_bits.proofs.Loads.{small}
use Rattle.acn_grammar.specs.Code.{Written, CodingCode, in_order, opposite}
use Rattle.acn_grammar.specs.Length.{coding_length}
use Rattle.acn_ints.specs.Limits.{CanWrite}
use Rattle.acn_grammar.specs.declared.node.NumCoding.TheVariants.{Range, PosInt, Twos, Flag, Fixed}
use Rattle.acn_ints.specs.Limits.{IsEnd, OrderFits, PatternsFit}
use Rattle.acn_ints.specs.Pieces.{IsPiece, IsBits}
use Rattle.acn_ints.proofs.Orders.{octets_of, length-octets_of, bits-octets_of, octets_below, in_order_bits, signed_high}
use Rattle.acn_grammar.proofs.Counts.{number_bits}

pub low_same : (n v : ℕ) (bs : List Bool) → IsNumber n v bs → low_bits n v ≡ bs
low_same n v bs is = subst (λ (m : ℕ). low_bits n m ≡ bs) is.value (subst (λ (k : ℕ). low_bits k (number bs) ≡ bs) is.width (low_bits-number bs))

pub bits_low : (bs : List Bool) (w v : ℕ) → IsBits bs w v → (v < 2 ^ w) × (low_bits w v ≡ bs)
bits_low bs w v is =
    let below : number bs < 2 ^ w = subst (λ (k : ℕ). number bs < 2 ^ k) (sym is.long) (number_below bs) in
    (subst (λ (k : ℕ). k < 2 ^ w) (sym is.same) below, low_same w v bs (record { width = sym is.long; value = sym is.same }))

pub offset_value : (low y : ℤ) (k : ℕ) → IsEnd low → k < 2 ^ 64 → y ≡ low +ℤ pos k → nat_abs (to_z w128 (of_z w128 (to_z w128 (of_z w128 y) -ℤ to_z w128 (of_z w128 low)))) ≡ k
offset_value low y k ends fits is = rw is (omega (arith, ints))

pub range_made : (low y : ℤ) (width : ℕ) (little : Bool) → IsEnd low → width ≤ 64 → CanWrite (Range low width) y
    → IsPiece (Range low width) little y width (nat_abs (to_z w128 (of_z w128 (to_z w128 (of_z w128 y) -ℤ to_z w128 (of_z w128 low)))))
range_made low y width little ends narrow can =
    let wide : 2 ^ width ≤ 2 ^ 64 = pow-le-pow_right {n = 2} (omega arith) {i = width} {j = 64} narrow in
    let v : nat_abs (to_z w128 (of_z w128 (to_z w128 (of_z w128 y) -ℤ to_z w128 (of_z w128 low)))) ≡ can.0 = offset_value low y can.0 ends (omega (arith, can.2, wide)) can.1 in
    subst (λ (m : ℕ). IsPiece (Range low width) little y width m) (sym v) (record { small = narrow; fits = can.2; long = refl; spells = (can.0, can.1, number_bits width can.0 can.2) })

-- to order octets twice changes nothing

octets_of-bits : (os : List ℕ) → ((i : ℕ) → get_or os i 0 < 256) → octets_of (bits os) ≡ os
octets_of-bits [] each = refl
octets_of-bits (o ∷ os) each = joined (number-low_bits 8 o ∙ small o 256 (each 0)) (octets_of-bits os (λ i. each (suc i)))
  where
    joined : {x y : ℕ} {p q : List ℕ} → x ≡ y → p ≡ q → x ∷ p ≡ y ∷ q
    joined e f = cc

each_reverse : (xs : List ℕ) → ((i : ℕ) → get_or xs i 0 < 256) → (i : ℕ) → get_or (reverse xs) i 0 < 256
each_reverse xs each i = by_order (order i (length (reverse xs)))
  where
    by_order : (i < length (reverse xs)) ⊎ (length (reverse xs) ≤ i) → get_or (reverse xs) i 0 < 256
    by_order (inl h) = let long = length-reverse xs in rw (get_or-reverse xs i 0 (omega (arith, long, h))) (each (length xs - 1 - i))
    by_order (inr h) = rw (get_or_past (reverse xs) i 0 h) (omega arith)

    order : (a b : ℕ) → (a < b) ⊎ (b ≤ a)
    order a zero = inr (omega arith)
    order zero (suc b) = inl (omega arith)
    order (suc a) (suc b) = elim (order a b) [ inl h ↦ inl (omega arith) | inr h ↦ inr (omega arith) ]

in_order_twice : (q : ℕ) (bs : List Bool) → length bs ≡ 8 * q → in_order true (in_order true bs) ≡ bs
in_order_twice q bs long =
    let os = octets_of bs in
    let once = in_order_bits q bs long in
    let long' : length (bits (reverse (octets_of bs))) ≡ 8 * q = length-bits (reverse (octets_of bs)) ∙ ap (λ (k : ℕ). 8 * k) (length-reverse (octets_of bs) ∙ length-octets_of q bs long) in
    let twice = in_order_bits q (bits (reverse (octets_of bs))) long' in
    let back = octets_of-bits (reverse (octets_of bs)) (each_reverse (octets_of bs) (octets_below q bs long)) in
    ap (in_order true) once ∙ twice ∙ ap (λ (t : List ℕ). bits (reverse t)) back ∙ ap bits (reverse-reverse (octets_of bs)) ∙ bits-octets_of q bs long

pub ordered_back : (little : Bool) (n k r : ℕ) → OrderFits little n → k < 2 ^ n → ((bs : List Bool) → IsNumber n k bs → number (in_order little bs) ≡ r) → ((bs : List Bool) → IsNumber n k bs → length (in_order little bs) ≡ n)
    → in_order little (low_bits n r) ≡ low_bits n k
ordered_back false n k r order fits same long = ap (low_bits n) (sym (sym (number_bits n k fits).value ∙ same (low_bits n k) (number_bits n k fits)))
ordered_back true n k r order fits same long =
    let is = number_bits n k fits in
    let there : low_bits n r ≡ in_order true (low_bits n k) = low_same n r (in_order true (low_bits n k)) (record { width = long (low_bits n k) is; value = same (low_bits n k) is }) in
    let whole = order.2 refl in
    let octets : length (low_bits n k) ≡ 8 * (n / 8) = is.width ∙ omega (arith, whole) in
    ap (in_order true) there ∙ in_order_twice (n / 8) (low_bits n k) octets

pub unsigned_made : (n : ℕ) (little : Bool) (y : ℤ) (r : ℕ) → OrderFits little n → CanWrite (PosInt n) y → r < 2 ^ n
    → ((bs : List Bool) → IsNumber n (nat_abs (to_z w128 (of_z w128 y))) bs → number (in_order little bs) ≡ r) → ((bs : List Bool) → IsNumber n (nat_abs (to_z w128 (of_z w128 y))) bs → length (in_order little bs) ≡ n)
    → IsPiece (PosInt n) little y n r
unsigned_made n little y r order can below same long =
    let wide : 2 ^ n ≤ 2 ^ 64 = pow-le-pow_right {n = 2} (omega arith) {i = n} {j = 64} order.1 in
    let v : nat_abs (to_z w128 (of_z w128 y)) ≡ can.0 = value can.0 y (omega (arith, can.2, wide)) can.1 in
    let same' : (bs : List Bool) → IsNumber n can.0 bs → number (in_order little bs) ≡ r = subst (λ (m : ℕ). (bs : List Bool) → IsNumber n m bs → number (in_order little bs) ≡ r) v same in
    let long' : (bs : List Bool) → IsNumber n can.0 bs → length (in_order little bs) ≡ n = subst (λ (m : ℕ). (bs : List Bool) → IsNumber n m bs → length (in_order little bs) ≡ n) v long in
    let back = ordered_back little n can.0 r order can.2 same' long' in
    record { small = order.1; fits = below; long = refl; spells = (length-low_bits n r, can.1 ∙ ap pos (sym (ap number back ∙ (number_bits n can.0 can.2).value))) }
  where
    value : (k : ℕ) (y : ℤ) → k < 2 ^ 64 → y ≡ pos k → nat_abs (to_z w128 (of_z w128 y)) ≡ k
    value k y fits is = rw is (omega (arith, ints))

pub twos_made : (n : ℕ) (little : Bool) (y : ℤ) (k r : ℕ) → OrderFits little n → k < 2 ^ n → r < 2 ^ n → ((bs : List Bool) → IsNumber n k bs → signed_number bs ≡ y)
    → ((bs : List Bool) → IsNumber n k bs → number (in_order little bs) ≡ r) → ((bs : List Bool) → IsNumber n k bs → length (in_order little bs) ≡ n) → IsPiece (Twos n) little y n r
twos_made n little y k r order fits below value same long =
    let back = ordered_back little n k r order fits same long in
    record { small = order.1; fits = below; long = refl; spells = (length-low_bits n r, sym (ap signed_number back ∙ value (low_bits n k) (number_bits n k fits))) }

pub wrapped_value : (n : ℕ) (y half : ℤ) → 1 ≤ n → n ≤ 64 → CanWrite (Twos n) y → y <ℤ pos 0 → half ≡ pos (1 * 2 ^ (n - 1) % 2 ^ 64)
    → (bs : List Bool) → IsNumber n (nat_abs (to_z w128 (of_z w128 (to_z w128 (of_z w128 (to_z w128 (of_z w128 y) +ℤ to_z w128 (of_z w128 half))) +ℤ to_z w128 (of_z w128 half))))) bs → signed_number bs ≡ y
wrapped_value n y half some width can below half_is bs is =
    let h : 1 * 2 ^ (n - 1) % 2 ^ 64 ≡ 2 ^ (n - 1) = one_shl (n - 1) 64 (omega arith) in
    let wide : 2 ^ (n - 1) ≤ 2 ^ 63 = pow-le-pow_right {n = 2} (omega arith) {i = n - 1} {j = 63} (omega arith) in
    let e = value (2 ^ (n - 1)) y half (half_is ∙ ap pos h) wide can.0 below in
    let high = high_enough (2 ^ (n - 1)) y _ e can.0 in
    signed_high n _ bs some high is ∙ shifted (2 ^ (n - 1)) y _ e
  where
    value : (h : ℕ) (y half : ℤ) → half ≡ pos h → h ≤ 2 ^ 63 → neg_ℤ (pos h) ≤ℤ y → y <ℤ pos 0
        → pos (nat_abs (to_z w128 (of_z w128 (to_z w128 (of_z w128 (to_z w128 (of_z w128 y) +ℤ to_z w128 (of_z w128 half))) +ℤ to_z w128 (of_z w128 half))))) ≡ ((y +ℤ pos h) +ℤ pos h)
    value h y half e wide low below = rw e (omega (arith, ints))

    high_enough : (h : ℕ) (y : ℤ) (v : ℕ) → pos v ≡ ((y +ℤ pos h) +ℤ pos h) → neg_ℤ (pos h) ≤ℤ y → h ≤ v
    high_enough h y v e low = omega (arith, ints)

    shifted : (h : ℕ) (y : ℤ) (v : ℕ) → pos v ≡ ((y +ℤ pos h) +ℤ pos h) → ((pos v -ℤ pos h) -ℤ pos h) ≡ y
    shifted h y v e = omega (arith, ints)

-- patterns

pub opposite_sum : (bs : List Bool) → number bs + number (opposite bs) + 1 ≡ 2 ^ length bs
opposite_sum [] = refl
opposite_sum (true ∷ bs) = let e = opposite_sum bs in let l = length-map bs not in rw (l, pow-suc) (omega (arith, e))
opposite_sum (false ∷ bs) = let e = opposite_sum bs in let l = length-map bs not in rw (l, pow-suc) (omega (arith, e))

pub opposite_value : (bs : List Bool) (v : ℕ) → length bs ≤ 64 → v ≡ number bs → (v ≤ 18446744073709551615 / 2 ^ (64 - length bs)) × (18446744073709551615 / 2 ^ (64 - length bs) - v ≡ number (opposite bs))
opposite_value bs v few is =
    let e = opposite_sum bs in
    let s = ones_shr 64 (64 - length bs) (omega arith) in
    let g : 64 - (64 - length bs) ≡ length bs = omega arith in
    let top : 18446744073709551615 / 2 ^ (64 - length bs) ≡ 2 ^ length bs - 1 = s ∙ ap (λ (k : ℕ). 2 ^ k - 1) g in
    (omega (arith, top, e), omega (arith, top, e))

pub pattern_made : (p : List Bool) (little : Bool) (y : ℤ) (w v : ℕ) → y ≡ pos 0 → IsBits p w v → IsPiece (Fixed p) little y w v
pattern_made p little y w v e is = let b = bits_low p w v is in record { small = is.small; fits = b.0; long = is.long; spells = (e, b.1) }

-- what a Boolean is written as

flag_made : (ones zeros : Option (List Bool)) (little : Bool) (y : ℤ) (bs : List Bool) (w v : ℕ) → IsBits bs w v → length bs ≡ coding_length (Flag ones zeros) y → CodingCode Written (Flag ones zeros) little y bs → IsPiece (Flag ones zeros) little y w v
flag_made ones zeros little y bs w v is long spells =
    let b = bits_low bs w v is in
    record { small = is.small; fits = b.0; long = is.long ∙ long; spells = subst (CodingCode Written (Flag ones zeros) little y) (sym b.1) spells }

pub flag_one : (ones zeros : Option (List Bool)) (little : Bool) (y : ℤ) (p : List Bool) (w v : ℕ) → ones ≡ Some p → y ≡ pos 1 → IsBits p w v → IsPiece (Flag ones zeros) little y w v
flag_one ones zeros little y p w v e one is = subst (λ (o : Option (List Bool)). IsPiece (Flag o zeros) little y w v) (sym e) (go zeros)
  where
    go : (zeros : Option (List Bool)) → IsPiece (Flag (Some p) zeros) little y w v
    go None = flag_made (Some p) None little y p w v is refl (inl (one, refl))
    go (Some q) = flag_made (Some p) (Some q) little y p w v is refl (inl (one, refl))

pub flag_zero : (ones zeros : Option (List Bool)) (little : Bool) (y : ℤ) (p q : List Bool) (w v : ℕ) → ones ≡ Some p → zeros ≡ Some q → PatternsFit ones zeros → y ≡ pos 0 → IsBits q w v → IsPiece (Flag ones zeros) little y w v
flag_zero ones zeros little y p q w v e f fit nil is =
    let P : Option (List Bool) → Option (List Bool) → Type 0 = λ o z. PatternsFit o z → IsPiece (Flag o z) little y w v in
    let plain : P (Some p) (Some q) = λ long. flag_made (Some p) (Some q) little y q w v is (sym long) (inr (nil, refl)) in
    subst (λ (o : Option (List Bool)). P o zeros) (sym e) (subst (λ (z : Option (List Bool)). P (Some p) z) (sym f) plain) fit

pub flag_other : (ones zeros : Option (List Bool)) (little : Bool) (y : ℤ) (p : List Bool) (w v : ℕ) → ones ≡ Some p → zeros ≡ None → y ≡ pos 0 → IsBits (opposite p) w v → IsPiece (Flag ones zeros) little y w v
flag_other ones zeros little y p w v e f nil is =
    let P : Option (List Bool) → Option (List Bool) → Type 0 = λ o z. IsPiece (Flag o z) little y w v in
    let plain : P (Some p) None = flag_made (Some p) None little y (opposite p) w v is (length-map p not) (inr (nil, refl)) in
    subst (λ (o : Option (List Bool)). P o zeros) (sym e) (subst (λ (z : Option (List Bool)). P (Some p) z) (sym f) plain)

pub flag_null : (ones zeros : Option (List Bool)) (little : Bool) (y : ℤ) (q : List Bool) (w v : ℕ) → ones ≡ None → zeros ≡ Some q → y ≡ pos 0 → IsBits q w v → IsPiece (Flag ones zeros) little y w v
flag_null ones zeros little y q w v e f nil is =
    let P : Option (List Bool) → Option (List Bool) → Type 0 = λ o z. IsPiece (Flag o z) little y w v in
    let plain : P None (Some q) = flag_made None (Some q) little y q w v is refl (inl (nil, refl)) in
    subst (λ (o : Option (List Bool)). P o zeros) (sym e) (subst (λ (z : Option (List Bool)). P None z) (sym f) plain)

pub flag_true : (ones zeros : Option (List Bool)) (little : Bool) (y : ℤ) (q : List Bool) (w v : ℕ) → ones ≡ None → zeros ≡ Some q → y ≡ pos 1 → IsBits (opposite q) w v → IsPiece (Flag ones zeros) little y w v
flag_true ones zeros little y q w v e f one is =
    let P : Option (List Bool) → Option (List Bool) → Type 0 = λ o z. IsPiece (Flag o z) little y w v in
    let plain : P None (Some q) = flag_made None (Some q) little y (opposite q) w v is (length-map q not) (inr (one, refl)) in
    subst (λ (o : Option (List Bool)). P o zeros) (sym e) (subst (λ (z : Option (List Bool)). P None z) (sym f) plain)

pub if_not_one : (y : ℤ) → (y ≡ pos 0) ⊎ (y ≡ pos 1) → (y ≡ pos 1 → ⊥) → y ≡ pos 0
if_not_one y (inl e) h = e
if_not_one y (inr e) h = absurd (h e)

pub if_not_zero : (y : ℤ) → (y ≡ pos 0) ⊎ (y ≡ pos 1) → (y ≡ pos 0 → ⊥) → y ≡ pos 1
if_not_zero y (inl e) h = absurd (h e)
if_not_zero y (inr e) h = e

-- the same from the test in the code

pub test_one : (y : ℤ) → (y ≡ pos 0) ⊎ (y ≡ pos 1) → of_z w128 y ≡ 1 → y ≡ pos 1
test_one y (inl e) h = absurd (differ e h)
  where
    differ : y ≡ pos 0 → of_z w128 y ≡ 1 → ⊥
    differ e h = let f : of_z w128 (pos 0) ≡ 1 = subst (λ (z : ℤ). of_z w128 z ≡ 1) e h in omega (arith, f)
test_one y (inr e) h = e

pub test_zero : (y : ℤ) → (y ≡ pos 0) ⊎ (y ≡ pos 1) → of_z w128 y ≡ 0 → y ≡ pos 0
test_zero y (inl e) h = e
test_zero y (inr e) h = absurd (differ e h)
  where
    differ : y ≡ pos 1 → of_z w128 y ≡ 0 → ⊥
    differ e h = let f : of_z w128 (pos 1) ≡ 0 = subst (λ (z : ℤ). of_z w128 z ≡ 0) e h in omega (arith, f)

pub test_not_one : (y : ℤ) → (y ≡ pos 0) ⊎ (y ≡ pos 1) → (of_z w128 y ≡ 1 → ⊥) → y ≡ pos 0
test_not_one y can h = if_not_one y can (λ e. h (ap (of_z w128) e))

pub test_not_zero : (y : ℤ) → (y ≡ pos 0) ⊎ (y ≡ pos 1) → (of_z w128 y ≡ 0 → ⊥) → y ≡ pos 1
test_not_zero y can h = if_not_zero y can (λ e. h (ap (of_z w128) e))
