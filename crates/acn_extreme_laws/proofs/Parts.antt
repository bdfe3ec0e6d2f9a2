-- Parts that can be chosen: conditions that can hold, texts without an end inside, the ends of ranges.
use Rattle.std.proofs.Common.{◌≡◌, ℕ, zero, suc, ◌+◌, ◌<◌, ◌≤◌, ℤ, Bool, true, false, not, ◌&&◌, ◌||◌, List, [], ◌∷◌, ◌++◌, length, take, drop, Option, Some, None, refl, sym, ap, ◌∙◌, arith, inl, inr, ◌⊎◌, nat_eq, subst}
use Rattle.std.proofs.lemmas.Bool.{and_parts, or_left, or_right, eqb-true}
use Rattle.std.proofs.lemmas.Bool.Decides.{nat_tests}
use Rattle.std.proofs.lemmas.Int.{ints}
use Rattle.std.specs.Prelude.{if◌then◌else◌, int_le, replicate}
use Rattle.std.specs.Int.{int_min, int_max}
use Rattle.std.specs.List.{AllByRecursion, flat_map, find, range_with_len}
use Rattle.std.specs.Ordering.{int_eq}
use Rattle.acn_num.specs.Ranges.{In, Ranges, has}
use Rattle.acn_grammar.specs.Asks.{Ask, Equal, same_name}
use Rattle.acn_grammar.specs.AsksOn.{Meetable, MeetsAsk, on, test_ask_on}
use Rattle.acn_grammar.specs.Images.{ends_from}
use Rattle.acn_grammar.specs.Meets.{first_end}
use Rattle.acn_grammar.specs.Slots.{domain_of}
use Rattle.acn_grammar.specs.declared.node.Test.{Test}
use Rattle.acn_grammar.specs.declared.node.Test.TheVariants.{Flag, Equals}
use Rattle.acn_grammar.proofs.Characters.{same_name-is, same_name-refl}
use Rattle.acn_grammar.proofs.WholeTests.{eq_fact, le_self, le_test}
use Rattle.acn_extreme_laws.specs.Laws.{TestsCanBeMet, RepeatedTextsHaveNoEnd, EndsAreMembers, Ordered}
use Rattle.acn_extreme_laws.specs.Reach.{tested_slot, tested_number, agrees, tests_can}

-- Conditions.

ask_is : (s : ℕ) (t : Test) → test_ask_on s true t ≡ on s (tested_slot t) (Equal (tested_number t))
ask_is s (Flag t) = refl
ask_is s (Equals t k) = refl

all_joined : (P : Ask → Type 0) (xs ys : List Ask) → AllByRecursion P xs → AllByRecursion P ys → AllByRecursion P (xs ++ ys)
all_joined P [] ys h k = k
all_joined P (x ∷ xs) ys h k = (h.0, all_joined P xs ys h.1 k)

on_meets : (s t : ℕ) (x k : ℤ) → (nat_eq t s ≡ true → x ≡ k) → AllByRecursion (MeetsAsk x) (on s t (Equal k))
on_meets s t x k f = by (nat_eq t s) f
  where
    by : (b : Bool) → (b ≡ true → x ≡ k) → AllByRecursion (MeetsAsk x) (if b then Equal k ∷ [] else [])
    by true g = (g refl, tt)
    by false g = tt

others_meet : (s : ℕ) (t : Test) (ts : List Test) → tested_slot t ≡ s → agrees t ts ≡ true → AllByRecursion (MeetsAsk (tested_number t)) (flat_map (test_ask_on s true) ts)
others_meet s t [] e a = tt
others_meet s t (u ∷ us) e a =
    let two = and_parts (not (nat_eq (tested_slot t) (tested_slot u)) || int_eq (tested_number t) (tested_number u)) (agrees t us) a in
    all_joined (MeetsAsk (tested_number t)) (test_ask_on s true u) (flat_map (test_ask_on s true) us)
    (subst (AllByRecursion (MeetsAsk (tested_number t))) (sym (ask_is s u)) (on_meets s (tested_slot u) (tested_number t) (tested_number u) (λ q. same q two.0)))
    (others_meet s t us e two.1)
  where
    last : (a b : Bool) → a ≡ true → (not a || b) ≡ true → b ≡ true
    last true b e h = h
    last false b e h = cc

    same : nat_eq (tested_slot u) s ≡ true → (not (nat_eq (tested_slot t) (tested_slot u)) || int_eq (tested_number t) (tested_number u)) ≡ true → tested_number t ≡ tested_number u
    same q h =
        let is = eqb-true (tested_slot u) s q in
        let one : nat_eq (tested_slot t) (tested_slot u) ≡ true = rw (e, is) (self s) in
        eq_fact (tested_number t) (tested_number u) (last (nat_eq (tested_slot t) (tested_slot u)) (int_eq (tested_number t) (tested_number u)) one h)
      where
        self : (n : ℕ) → nat_eq n n ≡ true
        self n = grind (arith, nat_tests)

pub tests_can_be_met : TestsCanBeMet
tests_can_be_met root [] s x h i = (x, record { permitted = i; meets = tt })
tests_can_be_met root (t ∷ ts) s x h i =
    let one = and_parts (has (domain_of root (tested_slot t)) (tested_number t)) (agrees t ts && tests_can root ts) h in
    let two = and_parts (agrees t ts) (tests_can root ts) one.1 in
    by (nat_eq (tested_slot t) s) refl one.0 two.0 (tests_can_be_met root ts s x two.1 i)
  where
    by : (b : Bool) → nat_eq (tested_slot t) s ≡ b → has (domain_of root (tested_slot t)) (tested_number t) ≡ true → agrees t ts ≡ true → Meetable (domain_of root s) (flat_map (test_ask_on s true) ts) → Meetable (domain_of root s) (test_ask_on s true t ++ flat_map (test_ask_on s true) ts)
    by true e h a rest =
        let is = eqb-true (tested_slot t) s e in (
          tested_number t,
          record {
            permitted = subst (λ n. In (domain_of root n) (tested_number t)) is h;
            meets = all_joined (MeetsAsk (tested_number t)) (test_ask_on s true t) (flat_map (test_ask_on s true) ts)
                (subst (AllByRecursion (MeetsAsk (tested_number t))) (sym (ask_is s t)) (on_meets s (tested_slot t) (tested_number t) (tested_number t) (λ q. refl))) (others_meet s t ts is a);
          },
        )
    by false e h a rest = subst (λ z. Meetable (domain_of root s) (z ++ flat_map (test_ask_on s true) ts)) (sym (ask_is s t ∙ ap (λ b. if b then Equal (tested_number t) ∷ [] else []) e)) rest

-- Texts.

find_none : (p : ℕ → Bool) (a n : ℕ) → ((i : ℕ) → a ≤ i → i < a + n → p i ≡ false) → find p (range_with_len a n) ≡ None
find_none p a zero f = refl
find_none p a (suc n) f = (let e = f a (omega arith) (omega arith) in rw e (find_none p (a + 1) n (λ i l m. f i (omega arith) (omega arith))))

begins : (c n i : ℕ) (end : List ℕ) → i < n → (rest : List ℕ) × (drop i (replicate n c ++ end) ≡ c ∷ rest)
begins c zero i end l = absurd (omega arith)
begins c (suc n) zero end l = (replicate n c ++ end, refl)
begins c (suc n) (suc i) end l = begins c n i end (omega arith)

long : (n c : ℕ) → length (replicate n c) ≡ n
long zero c = refl
long (suc n) c = ap suc (long n c)

pub repeated_texts_have_no_end : RepeatedTextsHaveNoEnd
repeated_texts_have_no_end c first n end differ =
    find_none (λ i. same_name (take (length (first ∷ end)) (drop i (replicate n c ++ (first ∷ end)))) (first ∷ end)) 0 (length (replicate n c)) (λ i l m. here i (omega (arith, m, long n c)))
  where
    other : (b : Bool) → nat_eq c first ≡ b → b ≡ false
    other true e = absurd (differ (eqb-true c first e))
    other false e = refl

    here : (i : ℕ) → i < n → same_name (take (length (first ∷ end)) (drop i (replicate n c ++ (first ∷ end)))) (first ∷ end) ≡ false
    here i l = (let b = begins c n i (first ∷ end) l in rw (b.1, other (nat_eq c first) refl) refl)

-- a front of a repeated character and a text that is the text is that character alone
repeated_before : (c m : ℕ) (e : List ℕ) → replicate m c ++ c ∷ e ≡ c ∷ (replicate m c ++ e)
repeated_before c zero e = refl
repeated_before c (suc m) e = ap (λ xs. c ∷ xs) (repeated_before c m e)

heads : (x y : ℕ) (xs ys : List ℕ) → x ∷ xs ≡ y ∷ ys → x ≡ y
heads x y xs ys e = cc

tails : (x y : ℕ) (xs ys : List ℕ) → x ∷ xs ≡ y ∷ ys → xs ≡ ys
tails x y xs ys e = cc

spread : (c m : ℕ) (e : List ℕ) → take (length e) (replicate (suc m) c ++ e) ≡ e → e ≡ replicate (length e) c
spread c m [] h = refl
spread c m (x ∷ e) h =
    let is = heads c x (take (length e) (replicate m c ++ x ∷ e)) e h in
    let more = tails c x (take (length e) (replicate m c ++ x ∷ e)) e h in
    let front : replicate m c ++ x ∷ e ≡ replicate (suc m) c ++ e = ap (λ y. replicate m c ++ y ∷ e) (sym is) ∙ repeated_before c m e in
    rw (← is) (ap (λ xs. c ∷ xs) (spread c m e (ap (take (length e)) (sym front) ∙ more)))

alone : (c n : ℕ) → take n (c ∷ replicate n c) ≡ replicate n c
alone c zero = refl
alone c (suc n) = ap (λ xs. c ∷ xs) (alone c n)

repeats : (c n i : ℕ) (end : List ℕ) → i < n → (m : ℕ) × (drop i (replicate n c ++ end) ≡ replicate (suc m) c ++ end)
repeats c zero i end l = absurd (omega arith)
repeats c (suc n) zero end l = (n, refl)
repeats c (suc n) (suc i) end l = repeats c n i end (omega arith)

-- where one such character can stand, more of them can
pub one_repeats : (c n : ℕ) (end : List ℕ) → first_end end (c ∷ []) ≡ None → first_end end (replicate n c) ≡ None
one_repeats c n end none =
    find_none (λ i. same_name (take (length end) (drop i (replicate n c ++ end))) end) 0 (length (replicate n c)) (λ i l m. by i (omega (arith, m, long n c)) (same_name (take (length end) (drop i (replicate n c ++ end))) end) refl)
  where
    found : (b : Bool) → b ≡ true → if◌then◌else◌ {A = Option ℕ} b (Some 0) None ≡ None → ⊥
    found true e q = cc
    found false e q = cc

    by : (i : ℕ) → i < n → (b : Bool) → same_name (take (length end) (drop i (replicate n c ++ end))) end ≡ b → b ≡ false
    by i l false e = refl
    by i l true e =
        let r = repeats c n i end l in
        let all = spread c r.0 end (ap (take (length end)) (sym r.1) ∙ same_name-is (take (length end) (drop i (replicate n c ++ end))) end e) in
        let one : take (length end) (c ∷ end) ≡ end = ap (λ xs. take (length end) (c ∷ xs)) all ∙ (alone c (length end) ∙ sym all) in
        absurd (found (same_name (take (length end) (c ∷ end)) end) (ap (λ xs. same_name xs end) one ∙ same_name-refl end) none)

-- Ranges.

ends_in : (rs all : Ranges) (e : ℤ × ℤ) → Ordered rs → ((x : ℤ) → has rs x ≡ true → has all x ≡ true) → has all e.0 ≡ true → has all e.1 ≡ true → (has all (ends_from e rs).0 ≡ true) × (has all (ends_from e rs).1 ≡ true)
ends_in [] all e o f a b = (a, b)
ends_in (r ∷ rs) all e o f a b =
    ends_in rs all (int_min e.0 r.0, int_max e.1 r.1) o.1 (λ x h. f x (or_right (int_le r.0 x && int_le x r.1) (has rs x) h))
    (pick_min e.0 r.0 a (f r.0 (or_left (int_le r.0 r.0 && int_le r.0 r.1) (has rs r.0) (rw (le_self r.0, le_test r.0 r.1 o.0) refl))))
    (pick_max e.1 r.1 b (f r.1 (or_left (int_le r.0 r.1 && int_le r.1 r.1) (has rs r.1) (rw (le_self r.1, le_test r.0 r.1 o.0) refl))))
  where
    picked_min : (x y : ℤ) → (int_min x y ≡ x) ⊎ (int_min x y ≡ y)
    picked_min x y = by (int_le x y) refl
      where
        by : (b : Bool) → int_le x y ≡ b → (int_min x y ≡ x) ⊎ (int_min x y ≡ y)
        by true e = inl (grind (arith, ints, nat_tests, e))
        by false e = inr (grind (arith, ints, nat_tests, e))

    picked_max : (x y : ℤ) → (int_max x y ≡ x) ⊎ (int_max x y ≡ y)
    picked_max x y = by (int_le x y) refl
      where
        by : (b : Bool) → int_le x y ≡ b → (int_max x y ≡ x) ⊎ (int_max x y ≡ y)
        by true e = inr (grind (arith, ints, nat_tests, e))
        by false e = inl (grind (arith, ints, nat_tests, e))

    pick : (x y z : ℤ) → (z ≡ x) ⊎ (z ≡ y) → has all x ≡ true → has all y ≡ true → has all z ≡ true
    pick x y z (inl e) h k = subst (λ w. has all w ≡ true) (sym e) h
    pick x y z (inr e) h k = subst (λ w. has all w ≡ true) (sym e) k

    pick_min : (x y : ℤ) → has all x ≡ true → has all y ≡ true → has all (int_min x y) ≡ true
    pick_min x y h k = pick x y (int_min x y) (picked_min x y) h k

    pick_max : (x y : ℤ) → has all x ≡ true → has all y ≡ true → has all (int_max x y) ≡ true
    pick_max x y h k = pick x y (int_max x y) (picked_max x y) h k

pub ends_are_members : EndsAreMembers
ends_are_members [] e o h = cc
ends_are_members (r ∷ rs) e o h =
    let t = ends_in rs (r ∷ rs) r o.1 (λ x k. or_right (int_le r.0 x && int_le x r.1) (has rs x) k) (or_left (int_le r.0 r.0 && int_le r.0 r.1) (has rs r.0) (rw (le_self r.0, le_test r.0 r.1 o.0) refl)) (or_left (int_le r.0 r.1 && int_le r.1 r.1) (has rs r.1) (rw (le_self r.1, le_test r.0 r.1 o.0) refl)) in
    let same : ends_from r rs ≡ e = cc in
    rw (← same) t
