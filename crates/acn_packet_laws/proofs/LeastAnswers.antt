-- Whether a number of a set meets all that is asked, and the least that does.
use Rattle.std.proofs.Common.{◌≡◌, ℕ, zero, suc, ℤ, pos, ◌+ℤ◌, ◌-ℤ◌, nat_abs, Bool, true, false, not, List, [], ◌∷◌, refl, sym, ap, ◌∙◌, arith, inl, inr, ◌⊎◌, ◌&&◌, int_eq}
use Rattle.std.proofs.lemmas.Bool.{and_from, false_from_ne_true, and_parts, not-true}
use Rattle.std.specs.Prelude.{◌≤ℤ◌, int_le}
use Rattle.std.specs.List.{AllByRecursion, list_all}
use Rattle.std.proofs.lemmas.Int.{ints}
use Rattle.std.proofs.lemmas.Bool.Decides.{nat_tests}
use Rattle.acn_num.specs.Ranges.{has}
use Rattle.acn_grammar.specs.Asks.{Ask, Equal, Avoid}
use Rattle.acn_grammar.specs.AsksOn.{MeetsAsk, Answers, Meetable, LeastAnswer}
use Rattle.acn_packet_laws.proofs.Homes.{truth}
use Rattle.acn_packet_laws.proofs.Scoping.{not_true}
use Rattle.acn_grammar.proofs.WholeTests.{either, eq_fact, le_fact, eq_self}

-- The least number from a bound on that passes, if there is one within a distance.

record Least (p : ℤ → Bool) (low : ℤ) : Type 0 where
  number : ℤ
  passes : p number ≡ true
  least : (y : ℤ) → low ≤ℤ y → p y ≡ true → number ≤ℤ y

abbrev NoneTo : (ℤ → Bool) → ℤ → ℕ → Type 0
NoneTo p low n = (y : ℤ) → low ≤ℤ y → y ≤ℤ (low +ℤ pos n) → p y ≡ false

is_low : (low y : ℤ) → low ≤ℤ y → y ≤ℤ (low +ℤ pos 0) → low ≡ y
is_low low y h k = omega (arith, ints)

low_or_more : (low y : ℤ) → low ≤ℤ y → (low ≡ y) ⊎ ((low +ℤ pos 1) ≤ℤ y)
low_or_more low y h = truth {F = (low ≡ y) ⊎ ((low +ℤ pos 1) ≤ℤ y)} (int_eq low y) (λ e. inl (eq_fact low y e)) (λ e. inr (more low y h e))
  where
    more : (low y : ℤ) → low ≤ℤ y → int_eq low y ≡ false → (low +ℤ pos 1) ≤ℤ y
    more low y h e = grind (arith, ints, nat_tests)

as_far : (low y : ℤ) (n : ℕ) → y ≤ℤ (low +ℤ pos (suc n)) → y ≤ℤ ((low +ℤ pos 1) +ℤ pos n)
as_far low y n h = omega (arith, ints)

least_from : (p : ℤ → Bool) (n : ℕ) (low : ℤ) → Least p low ⊎ NoneTo p low n
least_from p zero low = truth {F = Least p low ⊎ NoneTo p low zero} (p low)
    (λ e. inl (record { number = low; passes = e; least = λ y h q. h }))
    (λ e. inr (λ y h k. ap p (sym (is_low low y h k)) ∙ e))
least_from p (suc n) low = truth {F = Least p low ⊎ NoneTo p low (suc n)} (p low)
    (λ e. inl (record { number = low; passes = e; least = λ y h q. h }))
    (λ e. later e (least_from p n (low +ℤ pos 1)))
  where
    later : p low ≡ false → Least p (low +ℤ pos 1) ⊎ NoneTo p (low +ℤ pos 1) n → Least p low ⊎ NoneTo p low (suc n)
    later e (inl l) = inl (record { number = l.number; passes = l.passes; least = λ y h q. up y q (low_or_more low y h) })
      where
        up : (y : ℤ) → p y ≡ true → (low ≡ y) ⊎ ((low +ℤ pos 1) ≤ℤ y) → l.number ≤ℤ y
        up y q (inl same) = (let no = sym (ap p same) ∙ e in cc)
        up y q (inr h) = l.least y h q
    later e (inr f) = inr (λ y h k. up y k (low_or_more low y h))
      where
        up : (y : ℤ) → y ≤ℤ (low +ℤ pos (suc n)) → (low ≡ y) ⊎ ((low +ℤ pos 1) ≤ℤ y) → p y ≡ false
        up y k (inl same) = ap p (sym same) ∙ e
        up y k (inr h) = f y h (as_far low y n k)

-- The numbers of a set lie between two.

record Ends (set : List (ℤ × ℤ)) : Type 0 where
  low : ℤ
  high : ℤ
  within : (y : ℤ) → has set y ≡ true → (low ≤ℤ y) × (y ≤ℤ high)

lower : (a b : ℤ) → (c : ℤ) × (c ≤ℤ a) × (c ≤ℤ b)
lower a b = truth {F = (c : ℤ) × (c ≤ℤ a) × (c ≤ℤ b)} (int_le a b) (λ e. (a, same a, le_fact a b e)) (λ e. (b, other a b e, same b))
  where
    same : (a : ℤ) → a ≤ℤ a
    same a = omega (arith, ints)

    other : (a b : ℤ) → int_le a b ≡ false → b ≤ℤ a
    other a b e = grind (arith, ints, nat_tests)

upper : (a b : ℤ) → (c : ℤ) × (a ≤ℤ c) × (b ≤ℤ c)
upper a b = truth {F = (c : ℤ) × (a ≤ℤ c) × (b ≤ℤ c)} (int_le a b) (λ e. (b, le_fact a b e, same b)) (λ e. (a, same a, other a b e))
  where
    same : (a : ℤ) → a ≤ℤ a
    same a = omega (arith, ints)

    other : (a b : ℤ) → int_le a b ≡ false → b ≤ℤ a
    other a b e = grind (arith, ints, nat_tests)

further : (a b c : ℤ) → a ≤ℤ b → b ≤ℤ c → a ≤ℤ c
further a b c h k = omega (arith, ints)

ends_of : (set : List (ℤ × ℤ)) → Ends set
ends_of [] = record { low = pos 0; high = pos 0; within = λ y h. cc }
ends_of (r ∷ rs) =
    let e = ends_of rs in
    let l = lower r.0 e.low in
    let u = upper r.1 e.high in
    record {
      low = l.0;
      high = u.0;
      within = λ y h. either {F = (l.0 ≤ℤ y) × (y ≤ℤ u.0)} (int_le r.0 y && int_le y r.1) (has rs y) h
          (λ q. let f = and_parts (int_le r.0 y) (int_le y r.1) q in (further l.0 r.0 y l.1 (le_fact r.0 y f.0), further y r.1 u.0 (le_fact y r.1 f.1) u.1))
          (λ q. let f = e.within y q in (further l.0 e.low y l.2 f.0, further y e.high u.0 f.1 u.2));
    }

-- Answers, as a test.

abbrev meets_ask : ℤ → Ask → Bool
meets_ask x (Equal n) = int_eq x n
meets_ask x (Avoid n) = not (int_eq x n)

abbrev answers : List (ℤ × ℤ) → List Ask → ℤ → Bool
answers set wanted x = has set x && list_all (meets_ask x) wanted

ask_is : (x : ℤ) (a : Ask) → meets_ask x a ≡ true → MeetsAsk x a
ask_is x (Equal n) h = eq_fact x n h
ask_is x (Avoid n) h = λ e. (let no = not-true (int_eq x n) h in let yes' = ap (int_eq x) (sym e) ∙ eq_self x in cc)

is_ask : (x : ℤ) (a : Ask) → MeetsAsk x a → meets_ask x a ≡ true
is_ask x (Equal n) h = ap (int_eq x) (sym h) ∙ eq_self x
is_ask x (Avoid n) h = not_true (int_eq x n) (false_from_ne_true (int_eq x n) (λ e. h (eq_fact x n e)))

asks_are : (x : ℤ) (wanted : List Ask) → list_all (meets_ask x) wanted ≡ true → AllByRecursion (MeetsAsk x) wanted
asks_are x [] h = tt
asks_are x (a ∷ wanted) h = let b = and_parts (meets_ask x a) (list_all (meets_ask x) wanted) h in (ask_is x a b.0, asks_are x wanted b.1)

are_asks : (x : ℤ) (wanted : List Ask) → AllByRecursion (MeetsAsk x) wanted → list_all (meets_ask x) wanted ≡ true
are_asks x [] h = refl
are_asks x (a ∷ wanted) h = and_from (meets_ask x a) (list_all (meets_ask x) wanted) (is_ask x a h.0) (are_asks x wanted h.1)

answers_are : (set : List (ℤ × ℤ)) (wanted : List Ask) (x : ℤ) → answers set wanted x ≡ true → Answers set wanted x
answers_are set wanted x h = let b = and_parts (has set x) (list_all (meets_ask x) wanted) h in record { permitted = b.0; meets = asks_are x wanted b.1 }

are_answers : (set : List (ℤ × ℤ)) (wanted : List Ask) (x : ℤ) → Answers set wanted x → answers set wanted x ≡ true
are_answers set wanted x a = and_from (has set x) (list_all (meets_ask x) wanted) a.permitted (are_asks x wanted a.meets)

high_is : (low y high : ℤ) → low ≤ℤ y → y ≤ℤ high → y ≤ℤ (low +ℤ pos (nat_abs (high -ℤ low)))
high_is low y high h k = omega (arith, ints)

-- there is a least answer, or none
pub least_or_none : (set : List (ℤ × ℤ)) (wanted : List Ask) → ((x : ℤ) × LeastAnswer set wanted x) ⊎ (Meetable set wanted → ⊥)
least_or_none set wanted = by (least_from (answers set wanted) (nat_abs (e.high -ℤ e.low)) e.low)
  where
    e : Ends set
    e = ends_of set

    by : Least (answers set wanted) e.low ⊎ NoneTo (answers set wanted) e.low (nat_abs (e.high -ℤ e.low)) → ((x : ℤ) × LeastAnswer set wanted x) ⊎ (Meetable set wanted → ⊥)
    by (inl l) = inl (
      l.number,
      record { answers = answers_are set wanted l.number l.passes; first = λ y a. l.least y (e.within y a.permitted).0 (are_answers set wanted y a) },
    )
    by (inr none) = inr (λ m.
        let a = m.1 in
        let w = e.within m.0 a.permitted in
        let no = none m.0 w.0 (high_is e.low m.0 e.high w.0 w.1) in
        let yes' = are_answers set wanted m.0 a in
        cc)

pub least_answer : (set : List (ℤ × ℤ)) (wanted : List Ask) → Meetable set wanted → (x : ℤ) × LeastAnswer set wanted x
least_answer set wanted m = by (least_or_none set wanted)
  where
    by : ((x : ℤ) × LeastAnswer set wanted x) ⊎ (Meetable set wanted → ⊥) → (x : ℤ) × LeastAnswer set wanted x
    by (inl l) = l
    by (inr n) = absurd (n m)
