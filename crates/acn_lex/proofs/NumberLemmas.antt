-- A text spells a number exactly where it is the number's decimal text.
use Rattle.std.proofs.Common.{◌≡◌, ℕ, zero, suc, ◌+◌, ◌-◌, ◌*◌, ◌^◌, ◌<◌, ◌≤◌, Bool, true, false, ◌&&◌, cond, ltb, is_some, List, [], ◌∷◌, length, get_or, Option, Some, None, refl, sym, ap, subst, ◌∙◌, arith, rules, inl, inr}
use Rattle.std.specs.Prelude.{option_and_then}
use Rattle.std.specs.Char.{is_ascii_digit}
use Rattle.std.specs.Str.{all_ascii_digits}
use Rattle.std.specs.Fmt.{decimal}
use Rattle.std.proofs.lemmas.Fmt.{digits_decimal, digits_value-decimal, decimal-digits_value, first_decimal, decimal_nonempty, decimal_digit}
use Rattle.std.proofs.lemmas.Str.Parse.{IsNumeralModel, numerals_by_fold}
use Rattle.std.proofs.lemmas.Option.{cond_some}
use Rattle.std.specs.Cmp.Derive.{both_true}
use Rattle.std.proofs.lemmas.Bool.{lt-ltb, ltb-true, cases_lt, and_parts}
use Rattle.std.proofs.lemmas.Bool.Decides.{nat_tests}
use Rattle.acn_lex.specs.Lexes.{spelled}
use Rattle.acn_lex.specs.Number.{with_digit, read_from, is_unwritten, number_in}

own : IsNumeralModel (λ ds. all_ascii_digits ds ≡ true) (spelled 0)
own = numerals_by_fold _ (search rules) spelled (search rules)

read_on-le : (n : ℕ) (cs : List ℕ) → n ≤ spelled n cs
read_on-le n [] = omega arith
read_on-le n (c ∷ cs) = omega (arith, read_on-le (10 * n + (c - 48)) cs)

guard : {A : Type 0} (b : Bool) (o : Option A) (y : A) → cond b None o ≡ Some y → (b ≡ false) × (o ≡ Some y)
guard true o y e = absurd cc
guard false o y e = (refl, e)

is_some_of : {A : Type 0} (x y : A) → Some x ≡ Some y → x ≡ y
is_some_of x y e = cc

then_some : {A B : Type 0} (o : Option A) (f : A → Option B) (y : B) → option_and_then f o ≡ Some y → (x : A) × (o ≡ Some x) × (f x ≡ Some y)
then_some None f y e = absurd cc
then_some (Some x) f y e = (x, refl, e)

with_digit_found : (n b m : ℕ) → with_digit n b ≡ Some m → (is_ascii_digit b ≡ true) × (10 * n + (b - 48) ≡ m) × (m < 2 ^ 64)
with_digit_found n b m e =
    let c = cond_some (is_ascii_digit b && ltb (10 * n + (b - 48)) (2 ^ 64)) (10 * n + (b - 48)) m e in
    let t = and_parts (is_ascii_digit b) (ltb (10 * n + (b - 48)) (2 ^ 64)) c.0 in
    (t.0, c.1, subst (λ k. k < 2 ^ 64) c.1 (ltb-true _ _ t.1))

pub read_from_found : (n : ℕ) (bs : List ℕ) (m : ℕ) → n < 2 ^ 64 → read_from n bs ≡ Some m → (all_ascii_digits bs ≡ true) × (spelled n bs ≡ m) × (m < 2 ^ 64)
read_from_found n [] m h e = let k : n ≡ m = is_some_of n m e in (refl, k, subst (λ k. k < 2 ^ 64) k h)
read_from_found n (b ∷ bs) m h e =
    let t = then_some (with_digit n b) (λ k. read_from k bs) m e in
    let d = with_digit_found n b t.0 t.1 in
    let more = read_from_found t.0 bs m d.2 t.2 in
    (both_true d.0 more.0, ap (λ k. spelled k bs) d.1 ∙ more.1, more.2)

pub read_from_again : (n : ℕ) (bs : List ℕ) → all_ascii_digits bs ≡ true → spelled n bs < 2 ^ 64 → read_from n bs ≡ Some (spelled n bs)
read_from_again n [] d h = refl
read_from_again n (b ∷ bs) d h =
    let t = and_parts (is_ascii_digit b) (all_ascii_digits bs) d in
    let fits : 10 * n + (b - 48) < 2 ^ 64 = omega (arith, read_on-le (10 * n + (b - 48)) bs) in
    let e : ltb (10 * n + (b - 48)) (2 ^ 64) ≡ true = lt-ltb _ _ fits in
    rw (t.0, e) (read_from_again (10 * n + (b - 48)) bs t.1 h)

is_written : (text : List ℕ) → is_unwritten text ≡ false → (0 < length text) × (get_or text 0 0 ≡ 48 → length text ≡ 1)
is_written [] e = absurd cc
is_written (b ∷ []) e = (omega arith, λ _. refl)
is_written (b ∷ c ∷ bs) e = (omega arith, λ z. grind (arith, nat_tests))

pub number_found : (text : List ℕ) (n : ℕ) → number_in text ≡ Some n → (text ≡ decimal n) × (n < 2 ^ 64)
unfolding number_in
number_found text n e =
    let g = guard (is_unwritten text) (read_from 0 text) n e in
    let w = is_written text g.0 in
    let f = read_from_found 0 text n (omega arith) g.1 in
    let small : spelled 0 text < 2 ^ 64 = subst (λ k. k < 2 ^ 64) (sym f.1) f.2 in
    (sym (decimal-digits_value own text f.0 w.0 w.1 small) ∙ ap decimal f.1, f.2)

first_not_zero : (ds : List ℕ) → 0 < length ds → (get_or ds 0 0 ≡ 48 → length ds ≡ 1) → is_unwritten ds ≡ false
first_not_zero [] s h = absurd (omega arith)
first_not_zero (b ∷ []) s h = refl
first_not_zero (b ∷ c ∷ bs) s h = grind (arith, nat_tests)

decimal_written : (n : ℕ) → n < 2 ^ 64 → get_or (decimal n) 0 0 ≡ 48 → length (decimal n) ≡ 1
decimal_written zero h e = ap length (decimal_digit 0 (omega arith))
decimal_written (suc n) h e = absurd (omega (arith, first_decimal (suc n) (omega arith) h))

pub number_again : (n : ℕ) → n < 2 ^ 64 → number_in (decimal n) ≡ Some n
unfolding number_in
number_again n h =
    let v = digits_value-decimal own n h in
    rw (first_not_zero (decimal n) (decimal_nonempty n h) (decimal_written n h))
    (read_from_again 0 (decimal n) (digits_decimal own n h) (subst (λ k. k < 2 ^ 64) (sym v) h) ∙ ap Some v)

-- a number that is below 2 ^ 64, and one that is not
pub number_small : (text : List ℕ) → is_some (number_in text) ≡ true → spelled 0 text < 2 ^ 64
unfolding number_in
number_small text e = turn (number_in text) refl e
  where
    turn : (o : Option ℕ) → number_in text ≡ o → is_some o ≡ true → spelled 0 text < 2 ^ 64
    turn None k e = absurd cc
    turn (Some n) k e =
        let g = guard (is_unwritten text) (read_from 0 text) n k in
        let f = read_from_found 0 text n (omega arith) g.1 in
        subst (λ j. j < 2 ^ 64) (sym f.1) f.2

pub number_spelled : (text : List ℕ) → is_unwritten text ≡ false → all_ascii_digits text ≡ true → spelled 0 text < 2 ^ 64 → number_in text ≡ Some (spelled 0 text)
unfolding number_in
number_spelled text w d h = rw w (read_from_again 0 text d h)

pub number_wide : (text : List ℕ) → is_unwritten text ≡ false → all_ascii_digits text ≡ true → is_some (number_in text) ≡ false → 2 ^ 64 ≤ spelled 0 text
number_wide text w d e = elim (cases_lt (spelled 0 text) (2 ^ 64)) [ inl lt ↦ let k = number_spelled text w d lt in absurd cc | inr ge ↦ ge ]
