-- Digits written one behind the other.
use Rattle.std.proofs.Common.{◌≡◌, ℕ, zero, suc, ◌+◌, ◌-◌, ◌*◌, ◌/◌, ◌%◌, ◌^◌, ◌<◌, ◌≤◌, ℤ, pos, Bool, true, false, List, [], ◌∷◌, ◌++◌, length, refl, sym, ap, ◌∙◌, subst, arith, length-append, append_assoc, append-nil}
use Rattle.std.proofs.lemmas.Nat.{mod_below}
use Rattle.std.proofs.Math.Arith.{mod-mul}
use Rattle.std.proofs.Math.Nat.{pow-suc, mod-eq_of_lt, pow-le-pow_right, mul-le-mul_left}
use native.Mathlib.Decide.{dec_lt}
use Rattle.std.proofs.Math.Nat.{div-add-mod}
use Rattle.acn_num.specs.Bits.{low_bits, number}
use Rattle.acn_bits.specs.Writing.{Writes, place_of, Puts}
use Rattle.acn_bits.specs.declared.write_cursor.WriteCursor.{WriteCursor}
use Rattle.acn_num.proofs.BitLists.{length-low_bits, low_bits-number, number_below}
use Rattle.acn_grammar.specs.Code.{Written, CodingCode, decimal_number, AreDigits, IsMinimal, SignOctet, nibbles, digit_octets}
use Rattle.std.specs.Prelude.{nat_abs, int_lt, negsuc}
use Rattle.std.proofs.lemmas.Int.{ints}
use Rattle.std.proofs.lemmas.Bool.Decides.{nat_tests}
use Rattle.acn_grammar.specs.declared.node.NumCoding.TheVariants.{Bcd, BcdEnded, Ascii, AsciiEnded}
use Rattle.acn_ints.specs.DigitWrites.{low_digits}
use Rattle.acn_ints.specs.EndedReads.{digit_codes, AreDecimal, sign_code}
use Rattle.acn_ints.specs.Limits.{CanWrite, DigitsFit, SignedDigitsFit}
use Rattle.acn_ints.proofs.EndedCodes.{nibbles-codes, octets-codes}
use Rattle.acn_ints.proofs.EndedLemmas.{codes-append}
use Rattle.acn_ints.proofs.Writings.{writes_twice}

pub length-low_digits : (n k : ℕ) → length (low_digits n k) ≡ n
length-low_digits zero k = refl
length-low_digits (suc n) k = ap suc (length-low_digits n k)

pub low_digits-are : (n k : ℕ) → AreDecimal (low_digits n k)
low_digits-are zero k = tt
low_digits-are (suc n) k = (mod_below (k / 10 ^ n) 10 (omega arith), low_digits-are n k)

tens_pos : (n : ℕ) → 0 < 10 ^ n
tens_pos n = pow-le-pow_right {n = 10} (omega arith) {i = 0} {j = n} (omega arith)

decimal-low_digits : (n k : ℕ) → decimal_number (low_digits n k) ≡ k % 10 ^ n
decimal-low_digits zero k = omega arith
decimal-low_digits (suc n) k =
    let e = decimal-low_digits n k in
    let l = length-low_digits n k in
    let p = pow-suc 10 n in
    let m = mod-mul k {m = 10} {c = 10 ^ n} (omega arith) (tens_pos n) in
    rw (e, l) (sym (ap (λ (w : ℕ). k % w) (tens n) ∙ m))
  where
    tens : (n : ℕ) → 10 ^ suc n ≡ 10 * 10 ^ n
    tens n = omega (arith, pow-suc 10 n)

-- n digits of a number below 10 ^ n spell it
pub digits_spell : (n k : ℕ) → k < 10 ^ n → AreDigits k (low_digits n k)
digits_spell n k h = record { digits = low_digits-are n k; value = decimal-low_digits n k ∙ mod-eq_of_lt h }

pub length-codes : (size z : ℕ) (ds : List ℕ) → length (digit_codes size z ds) ≡ size * length ds
length-codes size z [] = omega arith
length-codes size z (d ∷ ds) =
    let a = length-append (low_bits size (z + d)) (digit_codes size z ds) in
    let b = length-low_bits size (z + d) in
    let c = length-codes size z ds in
    a ∙ rw (b, c) (times size (length ds))
  where
    times : (s n : ℕ) → s + s * n ≡ s * suc n
    times s n = omega arith

-- what was written after some digits
pub record UptoDigit {N : ℕ} (size z n k : ℕ) (old now : WriteCursor N) (i power : ℕ) : Type 0 where
  pub digits : List ℕ
  pub whole : digits ++ low_digits (n - i) k ≡ low_digits n k
  pub writes : Writes old now (place_of old) (digit_codes size z digits) (place_of now)
  pub long : length digits ≡ i
  pub place : place_of now ≡ place_of old + size * i
  pub upto : i ≤ n
  pub scale : power ≡ 10 ^ (n - i)

pub first_digit : {N : ℕ} (size z n k power : ℕ) (old now : WriteCursor N) → 1 ≤ n → power ≡ 10 ^ (n - 1) → Writes old now (place_of old) (low_bits size (z + k / power % 10)) (place_of old + size) → UptoDigit size z n k old now 1 power
first_digit size z n k power old now some is w =
    let e : n ≡ suc (n - 1) = omega arith in
    let m = w.moved in
    record {
      digits = k / power % 10 ∷ [];
      whole = ap (λ (p : ℕ). k / p % 10 ∷ low_digits (n - 1) k) is ∙ ap (λ (j : ℕ). low_digits j k) (sym e);
      writes = record { within = rw (append-nil (low_bits size (z + k / power % 10))) w.within; same_buffer = w.same_buffer; changed = rw (append-nil (low_bits size (z + k / power % 10))) w.changed; moved = refl };
      long = refl;
      place = omega arith;
      upto = some;
      scale = is;
    }

pub next_digit : {N : ℕ} (size z n k i power power' : ℕ) (old now new : WriteCursor N) → UptoDigit size z n k old now i power → i < n → 1 ≤ i → power' ≡ power / 10
    → Writes now new (place_of now) (low_bits size (z + k / power' % 10)) (place_of now + size) → UptoDigit size z n k old new (i + 1) power'
next_digit size z n k i power power' old now new u more some is w =
    let left : n - i ≡ suc (n - (i + 1)) = omega arith in
    let scale : power' ≡ 10 ^ (n - (i + 1)) = is ∙ ap (λ (p : ℕ). p / 10) (u.scale ∙ ap (λ (j : ℕ). 10 ^ j) left) ∙ tenth (n - (i + 1)) in
    let d = k / power' % 10 in
    let shifted : digits_and d ≡ low_digits (n - i) k = ap (λ (p : ℕ). k / p % 10 ∷ low_digits (n - (i + 1)) k) scale ∙ ap (λ (j : ℕ). low_digits j k) (sym left) in
    let m = w.moved in
    let both = writes_twice old now new (place_of old) (place_of now) (place_of now + size) (digit_codes size z u.digits) (low_bits size (z + d)) u.writes (at_end u) w in
    let codes : digit_codes size z u.digits ++ low_bits size (z + d) ≡ digit_codes size z (u.digits ++ d ∷ []) = ap (λ (t : List Bool). digit_codes size z u.digits ++ t) (sym (append-nil (low_bits size (z + d)))) ∙ sym (codes-append size z u.digits (d ∷ [])) in
    let p = u.place in
    let l = u.long in
    record {
      digits = u.digits ++ d ∷ [];
      whole = append_assoc u.digits (d ∷ []) (low_digits (n - (i + 1)) k) ∙ ap (λ (t : List ℕ). u.digits ++ t) shifted ∙ u.whole;
      writes = subst (λ (t : List Bool). Writes old new (place_of old) t (place_of new)) codes (subst (λ (e : ℕ). Writes old new (place_of old) (digit_codes size z u.digits ++ low_bits size (z + d)) e) (sym m) both);
      long = let a = length-append u.digits (d ∷ []) in omega (arith, a, l);
      place = m ∙ ap (λ (j : ℕ). j + size) p ∙ times (place_of old) size i;
      upto = omega arith;
      scale = scale;
    }
  where
    digits_and : ℕ → List ℕ
    digits_and d = d ∷ low_digits (n - (i + 1)) k

    tenth : (j : ℕ) → 10 ^ suc j / 10 ≡ 10 ^ j
    tenth j = let p = pow-suc 10 j in omega (arith, p)

    times : (a s i : ℕ) → a + s * i + s ≡ a + s * (i + 1)
    times a s i = omega arith

    at_end : UptoDigit size z n k old now i power → place_of now ≡ place_of old + length (digit_codes size z u.digits)
    at_end v = u.place ∙ ap (λ (j : ℕ). place_of old + j) (sym (length-codes size z u.digits ∙ ap (λ (j : ℕ). size * j) u.long))

pub all_digits : {N : ℕ} (size z n k i power : ℕ) (old now : WriteCursor N) → UptoDigit size z n k old now i power → i ≡ n → Writes old now (place_of old) (digit_codes size z (low_digits n k)) (place_of old + size * n)
all_digits size z n k i power old now u e =
    let none : n - i ≡ 0 = omega arith in
    let same : u.digits ≡ low_digits n k = sym (append-nil u.digits) ∙ ap (λ (j : ℕ). u.digits ++ low_digits j k) (sym none) ∙ u.whole in
    let place : place_of now ≡ place_of old + size * n = u.place ∙ ap (λ (j : ℕ). place_of old + size * j) e in
    subst (λ (ds : List ℕ). Writes old now (place_of old) (digit_codes size z ds) (place_of old + size * n)) same (subst (λ (m : ℕ). Writes old now (place_of old) (digit_codes size z u.digits) m) place u.writes)

-- rooms and powers

pub room_one : (p size n total : ℕ) → 1 ≤ n → p + size * n ≤ total → p + size ≤ total
room_one p size n total some h = let m = mul-le-mul_left {m = 1} {n = n} size some in omega (arith, h, m)

pub room_next : {N : ℕ} (size z n k i power total : ℕ) (old now : WriteCursor N) → UptoDigit size z n k old now i power → i < n → place_of old + size * n ≤ total → place_of now + size ≤ total
room_next size z n k i power total old now u more h =
    let m = mul-le-mul_left {m = i + 1} {n = n} size (omega arith) in
    let p = u.place in
    let e : size * (i + 1) ≡ size * i + size = omega arith in
    omega (arith, h, m, p, e)

pub some_power : (j power : ℕ) → power ≡ 10 ^ j → 1 ≤ power
some_power j power e = let h = tens_pos j in omega (arith, e, h)

pub power_left : {N : ℕ} (size z n k i power : ℕ) (old now : WriteCursor N) → UptoDigit size z n k old now i power → i < n → 1 ≤ power / 10
power_left size z n k i power old now u more =
    let left : n - i ≡ suc (n - (i + 1)) = omega arith in
    let e : power ≡ 10 ^ suc (n - (i + 1)) = u.scale ∙ ap (λ (j : ℕ). 10 ^ j) left in
    let p = pow-suc 10 (n - (i + 1)) in
    let h = tens_pos (n - (i + 1)) in
    omega (arith, e, p, h)

-- one piece behind another

pub puts_of : {N : ℕ} (P : List Bool → Type 0) (old new : WriteCursor N) (code : List Bool) (n : ℕ) → Writes old new (place_of old) code (place_of old + n) → length code ≡ n → P code → Puts P old new
puts_of P old new code n w long holds = record { code = code; writes = subst (λ (k : ℕ). Writes old new (place_of old) code (place_of old + k)) (sym long) w; holds = holds }

pub join_two : {N : ℕ} (old mid new : WriteCursor N) (a b : List Bool) (m n : ℕ) → Writes old mid (place_of old) a (place_of old + m) → length a ≡ m → Writes mid new (place_of mid) b (place_of mid + n) → Writes old new (place_of old) (a ++ b) (place_of old + (m + n))
join_two old mid new a b m n x l y =
    let place = x.moved in
    let x' : Writes old mid (place_of old) a (place_of mid) = subst (λ (k : ℕ). Writes old mid (place_of old) a k) (sym place) x in
    let at : place_of mid ≡ place_of old + length a = place ∙ ap (λ (k : ℕ). place_of old + k) (sym l) in
    let both = writes_twice old mid new (place_of old) (place_of mid) (place_of mid + n) a b x' at y in
    subst (λ (k : ℕ). Writes old new (place_of old) (a ++ b) k) (ap (λ (k : ℕ). k + n) place ∙ plus (place_of old) m n) both
  where
    plus : (a m n : ℕ) → a + m + n ≡ a + (m + n)
    plus a m n = omega arith

codes_long : (size z n k : ℕ) → length (digit_codes size z (low_digits n k)) ≡ size * n
codes_long size z n k = length-codes size z (low_digits n k) ∙ ap (λ (j : ℕ). size * j) (length-low_digits n k)

-- magnitudes

abs_of : (y : ℤ) (k : ℕ) → y ≡ pos k → nat_abs y ≡ k
abs_of y k e = rw e refl

power_small : (j : ℕ) → j ≤ 19 → 10 ^ j < 2 ^ 64
power_small j h = let m = pow-le-pow_right {n = 10} (omega arith) {i = j} {j = 19} h in omega (arith, m)

pub fixed_small : (size n : ℕ) (y : ℤ) (k : ℕ) → n / size ≤ 19 → y ≡ pos k → k < 10 ^ (n / size) → nat_abs y < 2 ^ 64
fixed_small size n y k few e h = let p = power_small (n / size) few in let a = abs_of y k e in omega (arith, a, h, p)

pub count_of_bcd : (n : ℕ) → DigitsFit 4 n → (n / 4 ≤ 19) × (n ≡ 4 * (n / 4))
count_of_bcd n f = let e = f.1 in let m = f.2 in (omega (arith, e, m), omega (arith, e))

pub count_of_ascii : (n : ℕ) → DigitsFit 8 n → (n / 8 ≤ 19) × (n ≡ 8 * (n / 8))
count_of_ascii n f = let e = f.1 in let m = f.2 in (omega (arith, e, m), omega (arith, e))

pub ended_small : (y : ℤ) (k : ℕ) → y ≡ pos k → k < 2 ^ 64 → nat_abs y < 2 ^ 64
ended_small y k e h = let a = abs_of y k e in omega (arith, a, h)

pub signed_small : (n : ℕ) (y : ℤ) → SignedDigitsFit n → CanWrite (Ascii n true) y → nat_abs y < 10 ^ (n / 8 - 1)
signed_small n y f can = let a = can.0 in let b = can.1 in omega (arith, ints, a, b)

pub signed_fits : (n : ℕ) (y : ℤ) → SignedDigitsFit n → CanWrite (Ascii n true) y → nat_abs y < 2 ^ 64
signed_fits n y f can =
    let few = f.1 in
    let h = signed_small n y f can in
    let p = power_small (n / 8 - 1) (omega (arith, few)) in
    omega (arith, h, p)

pub signed_ended_fits : (end : List Bool) (y : ℤ) → CanWrite (AsciiEnded end true) y → nat_abs y < 2 ^ 64
signed_ended_fits end y can = let a = can.0 in let b = can.1 in omega (arith, ints, a, b)

-- Codes of one width.

pub bcd_puts : {N : ℕ} (n v : ℕ) (y : ℤ) (old new : WriteCursor N) → DigitsFit 4 n → CanWrite (Bcd n) y → v ≡ nat_abs y → Writes old new (place_of old) (digit_codes 4 0 (low_digits (n / 4) v)) (place_of old + 4 * (n / 4)) → Puts (CodingCode Written (Bcd n) false y) old new
bcd_puts n v y old new f can e w =
    let k = can.0 in
    let c = count_of_bcd n f in
    let same : v ≡ k = e ∙ abs_of y k can.1 in
    let long = codes_long 4 0 (n / 4) v in
    puts_of (CodingCode Written (Bcd n) false y) old new (digit_codes 4 0 (low_digits (n / 4) v)) (4 * (n / 4)) w long (
      v,
      can.1 ∙ ap (λ (j : ℕ). pos j) (sym same),
      long ∙ sym c.1,
      record {
        digits = low_digits (n / 4) v;
        spell = digits_spell (n / 4) v (subst (λ (j : ℕ). j < 10 ^ (n / 4)) (sym same) can.2);
        whole = sym (nibbles-codes (low_digits (n / 4) v)) ∙ sym (append-nil (nibbles (low_digits (n / 4) v)));
      },
    )

pub ascii_puts : {N : ℕ} (n v : ℕ) (y : ℤ) (old new : WriteCursor N) → DigitsFit 8 n → CanWrite (Ascii n false) y → v ≡ nat_abs y → Writes old new (place_of old) (digit_codes 8 48 (low_digits (n / 8) v)) (place_of old + 8 * (n / 8)) → Puts (CodingCode Written (Ascii n false) false y) old new
ascii_puts n v y old new f can e w =
    let k = can.0 in
    let c = count_of_ascii n f in
    let same : v ≡ k = e ∙ abs_of y k can.1 in
    let long = codes_long 8 48 (n / 8) v in
    puts_of (CodingCode Written (Ascii n false) false y) old new (digit_codes 8 48 (low_digits (n / 8) v)) (8 * (n / 8)) w long (
      v,
      [],
      (can.1 ∙ ap (λ (j : ℕ). pos j) (sym same), refl),
      long ∙ sym c.1,
      record {
        digits = low_digits (n / 8) v;
        spell = digits_spell (n / 8) v (subst (λ (j : ℕ). j < 10 ^ (n / 8)) (sym same) can.2);
        whole = sym (octets-codes (low_digits (n / 8) v)) ∙ sym (append-nil (digit_octets (low_digits (n / 8) v)));
      },
    )

sign_long : (b : Bool) → length (low_bits 8 (sign_code b)) ≡ 8
sign_long true = refl
sign_long false = refl

sign_is : (y : ℤ) → SignOctet true y (nat_abs y) (low_bits 8 (sign_code (int_lt y (pos 0))))
sign_is (pos n) = let t : int_lt (pos n) (pos 0) ≡ false = grind (arith, ints, nat_tests) in (refl, ap (λ (b : Bool). low_bits 8 (sign_code b)) t)
sign_is (negsuc n) = let t : int_lt (negsuc n) (pos 0) ≡ true = grind (arith, ints, nat_tests) in (refl, ap (λ (b : Bool). low_bits 8 (sign_code b)) t)

pub ascii_signed_puts : {N : ℕ} (n v : ℕ) (y : ℤ) (negative : Bool) (old mid new : WriteCursor N) → SignedDigitsFit n → CanWrite (Ascii n true) y → negative ≡ int_lt y (pos 0) → v ≡ nat_abs y → Writes old mid (place_of old) (low_bits 8 (sign_code negative)) (place_of old + 8)
    → Writes mid new (place_of mid) (digit_codes 8 48 (low_digits (n / 8 - 1) v)) (place_of mid + 8 * (n / 8 - 1)) → Puts (CodingCode Written (Ascii n true) false y) old new
ascii_signed_puts n v y negative old mid new f can s e x w =
    let many = f.0 in
    let even = f.2 in
    let whole : 8 + 8 * (n / 8 - 1) ≡ n = omega (arith, many, even) in
    let long = length-append (low_bits 8 (sign_code negative)) (digit_codes 8 48 (low_digits (n / 8 - 1) v)) in
    let front = sign_long negative in
    let back = codes_long 8 48 (n / 8 - 1) v in
    let all : length (low_bits 8 (sign_code negative) ++ digit_codes 8 48 (low_digits (n / 8 - 1) v)) ≡ 8 + 8 * (n / 8 - 1) = omega (arith, long, front, back) in
    let small = signed_small n y f can in
    puts_of (CodingCode Written (Ascii n true) false y) old new (low_bits 8 (sign_code negative) ++ digit_codes 8 48 (low_digits (n / 8 - 1) v)) (8 + 8 * (n / 8 - 1)) (join_two old mid new _ _ 8 (8 * (n / 8 - 1)) x front w) all (
      v,
      low_bits 8 (sign_code negative),
      subst (λ (j : ℕ). SignOctet true y j (low_bits 8 (sign_code negative))) (sym e) (subst (λ (b : Bool). SignOctet true y (nat_abs y) (low_bits 8 (sign_code b))) (sym s) (sign_is y)),
      all ∙ whole,
      record {
        digits = low_digits (n / 8 - 1) v;
        spell = digits_spell (n / 8 - 1) v (subst (λ (j : ℕ). j < 10 ^ (n / 8 - 1)) (sym e) small);
        whole = ap (λ (t : List Bool). low_bits 8 (sign_code negative) ++ t) (sym (octets-codes (low_digits (n / 8 - 1) v)) ∙ sym (append-nil (digit_octets (low_digits (n / 8 - 1) v))));
      },
    )

-- a terminator

pub pattern_small : (bs : List Bool) (v : ℕ) → v ≡ number bs → v < 2 ^ length bs
pattern_small bs v e = let h = number_below bs in omega (arith, e, h)

pub pattern_writes : {N : ℕ} (old new : WriteCursor N) (end bs : List Bool) (v : ℕ) → bs ≡ end → v ≡ number bs → Writes old new (place_of old) (low_bits (length bs) v) (place_of old + length bs) → Writes old new (place_of old) end (place_of old + length end)
pattern_writes old new end bs v e is w =
    subst (λ (t : List Bool). Writes old new (place_of old) t (place_of old + length t)) e
    (subst (λ (t : List Bool). Writes old new (place_of old) t (place_of old + length bs)) (ap (low_bits (length bs)) is ∙ low_bits-number bs) w)

-- Ended codes.

-- no leading zero stands in as many digits as a number has
pub minimal_digits : (n k : ℕ) → 1 ≤ n → k < 10 ^ n → (1 < n → 10 ^ (n - 1) ≤ k) → IsMinimal (low_digits n k)
minimal_digits zero k some h low = absurd (omega arith)
minimal_digits (suc zero) k some h low = tt
minimal_digits (suc (suc m)) k some h low = let e : suc (suc m) - 1 ≡ suc m = omega arith in first (10 ^ suc m) k (subst (λ (j : ℕ). 10 ^ j ≤ k) e (low (omega arith))) (below (omega (arith, pow-suc 10 (suc m))))
  where
    below : 10 ^ suc (suc m) ≡ 10 * 10 ^ suc m → k < 10 * 10 ^ suc m
    below e = omega (arith, h, e)

    first : (p k : ℕ) → p ≤ k → k < 10 * p → 0 < k / p % 10
    first p k low high =
        let e = div-add-mod k p in
        let r = mod_below k p (omega (arith, low, high)) in
        let some : 0 < k / p = elim (dec_lt 0 (k / p)) [ yes h ↦ h | no h ↦ absurd (nothing (k / p) (omega arith) e r) ] in
        let few : k / p < 10 = elim (dec_lt (k / p) 10) [ yes h ↦ h | no h ↦ let m = mul-le-mul_left {m = 10} {n = k / p} p (omega arith) in absurd (omega (arith, m, e, high)) ] in
        subst (λ (j : ℕ). 0 < j) (sym (mod-eq_of_lt few)) some
      where
        nothing : (q : ℕ) → q ≡ 0 → p * q + k % p ≡ k → k % p < p → ⊥
        nothing q z e r = let m : p * q ≡ 0 = rw z (omega arith) in omega (arith, m, e, r, low)

abbrev Counts : (n v : ℕ) → Type 0
Counts n v = (1 ≤ n) × (v < 10 ^ n) × (1 < n → 10 ^ (n - 1) ≤ v)

pub bcd_ended_puts : {N : ℕ} (n v : ℕ) (y : ℤ) (old mid new : WriteCursor N) → Counts n v → CanWrite BcdEnded y → v ≡ nat_abs y → Writes old mid (place_of old) (digit_codes 4 0 (low_digits n v)) (place_of old + 4 * n) → Writes mid new (place_of mid) (low_bits 4 15) (place_of mid + 4)
    → Puts (CodingCode Written BcdEnded false y) old new
bcd_ended_puts n v y old mid new f can e w x =
    let same : v ≡ can.0 = e ∙ abs_of y can.0 can.1 in
    let back = codes_long 4 0 n v in
    let long = length-append (digit_codes 4 0 (low_digits n v)) (low_bits 4 15) in
    puts_of (CodingCode Written BcdEnded false y) old new (digit_codes 4 0 (low_digits n v) ++ low_bits 4 15) (4 * n + 4) (join_two old mid new _ _ (4 * n) 4 w back x) (long ∙ ap (λ (k : ℕ). k + 4) back) (
      v,
      can.1 ∙ ap (λ (j : ℕ). pos j) (sym same),
      record {
        digits = low_digits n v;
        spell = digits_spell n v f.1;
        minimal = minimal_digits n v f.0 f.1 f.2;
        whole = ap (λ (t : List Bool). t ++ low_bits 4 15) (sym (nibbles-codes (low_digits n v)));
      },
    )

pub plain_ended_puts : {N : ℕ} (end : List Bool) (n v : ℕ) (y : ℤ) (old mid new : WriteCursor N) → Counts n v → CanWrite (AsciiEnded end false) y → v ≡ nat_abs y → Writes old mid (place_of old) (digit_codes 8 48 (low_digits n v)) (place_of old + 8 * n) → Writes mid new (place_of mid) end (place_of mid + length end)
    → Puts (CodingCode Written (AsciiEnded end false) false y) old new
plain_ended_puts end n v y old mid new f can e w x =
    let same : v ≡ can.0 = e ∙ abs_of y can.0 can.1 in
    let back = codes_long 8 48 n v in
    let long = length-append (digit_codes 8 48 (low_digits n v)) end in
    puts_of (CodingCode Written (AsciiEnded end false) false y) old new (digit_codes 8 48 (low_digits n v) ++ end) (8 * n + length end) (join_two old mid new _ _ (8 * n) (length end) w back x) (long ∙ ap (λ (k : ℕ). k + length end) back) (
      v,
      [],
      (can.1 ∙ ap (λ (j : ℕ). pos j) (sym same), refl),
      record {
        digits = low_digits n v;
        spell = digits_spell n v f.1;
        minimal = minimal_digits n v f.0 f.1 f.2;
        whole = ap (λ (t : List Bool). t ++ end) (sym (octets-codes (low_digits n v)));
      },
    )

pub signed_ended_puts : {N : ℕ} (end : List Bool) (n v : ℕ) (y : ℤ) (negative : Bool) (old first mid new : WriteCursor N) → Counts n v → negative ≡ int_lt y (pos 0) → v ≡ nat_abs y → Writes old first (place_of old) (low_bits 8 (sign_code negative)) (place_of old + 8)
    → Writes first mid (place_of first) (digit_codes 8 48 (low_digits n v)) (place_of first + 8 * n) → Writes mid new (place_of mid) end (place_of mid + length end) → Puts (CodingCode Written (AsciiEnded end true) false y) old new
signed_ended_puts end n v y negative old first mid new f s e u w x =
    let front = sign_long negative in
    let back = codes_long 8 48 n v in
    let rest = length-append (digit_codes 8 48 (low_digits n v)) end in
    let long = length-append (low_bits 8 (sign_code negative)) (digit_codes 8 48 (low_digits n v) ++ end) in
    puts_of (CodingCode Written (AsciiEnded end true) false y) old new (low_bits 8 (sign_code negative) ++ (digit_codes 8 48 (low_digits n v) ++ end)) (8 + (8 * n + length end))
    (join_two old first new _ _ 8 (8 * n + length end) u front (join_two first mid new _ _ (8 * n) (length end) w back x)) (omega (arith, front, back, rest, long)) (
      v,
      low_bits 8 (sign_code negative),
      subst (λ (j : ℕ). SignOctet true y j (low_bits 8 (sign_code negative))) (sym e) (subst (λ (b : Bool). SignOctet true y (nat_abs y) (low_bits 8 (sign_code b))) (sym s) (sign_is y)),
      record {
        digits = low_digits n v;
        spell = digits_spell n v f.1;
        minimal = minimal_digits n v f.0 f.1 f.2;
        whole = ap (λ (t : List Bool). low_bits 8 (sign_code negative) ++ (t ++ end)) (sym (octets-codes (low_digits n v)));
      },
    )

pub counts_from : (n v k : ℕ) → k ≡ v → v < 2 ^ 64 → 1 ≤ n → (k < 10 ^ 20 → k < 10 ^ n) → (1 < n → 10 ^ (n - 1) ≤ k) → (1 ≤ n) × (v < 10 ^ n) × (1 < n → 10 ^ (n - 1) ≤ v)
counts_from n v k e small some high low =
    let h = high (omega (arith, e, small)) in
    (some, subst (λ (j : ℕ). j < 10 ^ n) e h, λ m. subst (λ (j : ℕ). 10 ^ (n - 1) ≤ j) e (low m))
