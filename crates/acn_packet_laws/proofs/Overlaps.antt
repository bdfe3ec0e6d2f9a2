-- Without an overlap and a mixed choice no permitted numbers choose two alternatives.
use Rattle.std.proofs.Common.{◌≡◌, ℕ, zero, suc, ◌<◌, ◌≤◌, ℤ, pos, Bool, true, false, List, [], ◌∷◌, ◌++◌, length, map, Option, Some, refl, sym, ap, ◌∙◌, arith, nat_eq, ◌||◌}
use Rattle.std.proofs.lemmas.Bool.{or_left, or_right, ltb-true, eqb-false, eqb-true}
use Rattle.std.specs.Prelude.{slice_get, nat_lt, if◌then◌else◌, unwrap_or}
use Rattle.std.specs.List.{AllByRecursion, list_any}
use Rattle.std.proofs.lemmas.Bool.Decides.{nat_tests}
use native.Mathlib.Decide.{dec_lt}
use Rattle.acn_num.specs.Ranges.{In}
use Rattle.acn_grammar.specs.Check.{CheckFault, overlap, mixed_choice, one_without, Undecodable, test_slot, IsStrictly, NodeAt, IsChoice}
use Rattle.acn_grammar.specs.Env.{Env, at_slot, AllHold}
use Rattle.acn_grammar.specs.Fails.{count_of}
use Rattle.acn_grammar.specs.Grammar.{Grammar, Alternatives, no_alternatives, alternative}
use Rattle.acn_grammar.specs.Scoped.{tests_at, Permitted, NoOverlap}
use Rattle.acn_grammar.specs.Slots.{domain_of}
use Rattle.acn_grammar.specs.Tree.{holds, has_tests}
use Rattle.acn_grammar.specs.Walk.{Stand, conditions_of}
use Rattle.acn_grammar.specs.declared.node.ChoiceRule.TheVariants.{Tests}
use Rattle.acn_grammar.specs.declared.node.Test.{Test}
use Rattle.acn_grammar.specs.declared.node.Test.TheVariants.{Flag, Equals}
use Rattle.acn_grammar.proofs.WholeTests.{either}
use Rattle.acn_grammar.proofs.SlotLists.{same_eq, or_swap, or_twice, contains_holds, holds_contains}

-- Slots in ascending order, each once.

abbrev insert : ℕ → List ℕ → List ℕ
insert x [] = x ∷ []
insert x (y ∷ ys) = if nat_lt x y then x ∷ y ∷ ys else (if nat_eq x y then y ∷ ys else y ∷ insert x ys)

abbrev in_order : List ℕ → List ℕ
in_order [] = []
in_order (x ∷ xs) = insert x (in_order xs)

lt_not : (a b : ℕ) → nat_lt a b ≡ false → b ≤ a
lt_not a b h = grind (arith, nat_tests)

abbrev Strict : ℕ → List ℕ → Type 0
Strict b xs = IsStrictly (b ∷ xs)

insert_strict : (x b : ℕ) (ys : List ℕ) → b < x → Strict b ys → Strict b (insert x ys)
insert_strict x b [] h s = (h, tt)
insert_strict x b (y ∷ ys) h s = by (nat_lt x y) (nat_eq x y) (ltb-true x y) (lt_not x y) (eqb-false x y) (λ k. insert_strict x y ys k s.1)
  where
    by : (t u : Bool) → (t ≡ true → x < y) → (t ≡ false → y ≤ x) → (u ≡ false → x ≡ y → ⊥) → (y < x → Strict y (insert x ys)) → Strict b (if t then x ∷ y ∷ ys else (if u then y ∷ ys else y ∷ insert x ys))
    by true u f g d rest = (h, (f refl, s.1))
    by false true f g d rest = s
    by false false f g d rest = (s.0, rest (below x y (g refl) (d refl)))
      where
        below : (x y : ℕ) → y ≤ x → (x ≡ y → ⊥) → y < x
        below x y h k = grind arith

insert_first : (x : ℕ) (ys : List ℕ) → IsStrictly ys → IsStrictly (insert x ys)
insert_first x [] s = tt
insert_first x (y ∷ ys) s = by (nat_lt x y) (nat_eq x y) (ltb-true x y) (lt_not x y) (eqb-false x y) (λ k. insert_strict x y ys k s)
  where
    by : (t u : Bool) → (t ≡ true → x < y) → (t ≡ false → y ≤ x) → (u ≡ false → x ≡ y → ⊥) → (y < x → Strict y (insert x ys)) → IsStrictly (if t then x ∷ y ∷ ys else (if u then y ∷ ys else y ∷ insert x ys))
    by true u f g d rest = (f refl, s)
    by false true f g d rest = s
    by false false f g d rest = rest (below x y (g refl) (d refl))
      where
        below : (x y : ℕ) → y ≤ x → (x ≡ y → ⊥) → y < x
        below x y h k = grind arith

insert-holds : (x : ℕ) (ys : List ℕ) (s : ℕ) → holds (insert x ys) s ≡ (nat_eq x s || holds ys s)
insert-holds x [] s = refl
insert-holds x (y ∷ ys) s = by (nat_lt x y) (nat_eq x y) (eqb-true x y) (insert-holds x ys s)
  where
    by : (t u : Bool) → (u ≡ true → x ≡ y) → holds (insert x ys) s ≡ (nat_eq x s || holds ys s) → holds (if t then x ∷ y ∷ ys else (if u then y ∷ ys else y ∷ insert x ys)) s ≡ (nat_eq x s || (nat_eq y s || holds ys s))
    by true u f rest = refl
    by false true f rest = let e = f refl in rw e (or_twice (nat_eq y s) (holds ys s))
    by false false f rest = ap (λ b. nat_eq y s || b) rest ∙ or_swap (nat_eq x s) (nat_eq y s) (holds ys s)

order_strict : (xs : List ℕ) → IsStrictly (in_order xs)
order_strict [] = tt
order_strict (x ∷ xs) = insert_first x (in_order xs) (order_strict xs)

order-holds : (xs : List ℕ) (s : ℕ) → holds (in_order xs) s ≡ holds xs s
order-holds [] s = refl
order-holds (x ∷ xs) s = insert-holds x (in_order xs) s ∙ ap (λ b. nat_eq x s || b) (order-holds xs s)

-- The numbers that an env has for the slots of conditions that hold in it.

abbrev number_in : Env → ℕ → ℤ
number_in env s = unwrap_or (at_slot env s) (pos 0)

abbrev numbers_in : Env → List ℕ → Env
numbers_in env xs = map (λ s. (s, number_in env s)) xs

slots-are : (env : Env) (xs : List ℕ) → map (λ e. e.0) (numbers_in env xs) ≡ xs
slots-are env [] = refl
slots-are env (x ∷ xs) = ap (λ l. x ∷ l) (slots-are env xs)

by_slot : (env : Env) (x s : ℕ) (rest : Option ℤ) (t : Bool) → (t ≡ true → x ≡ s) → (t ≡ false → rest ≡ Some (number_in env s)) → (if t then Some (number_in env x) else rest) ≡ Some (number_in env s)
by_slot env x s rest true f g = ap (λ y. Some (number_in env y)) (f refl)
by_slot env x s rest false f g = g refl

or_rest : (a b : Bool) → (a || b) ≡ true → a ≡ false → b ≡ true
or_rest true b h e = cc
or_rest false b h e = h

at-numbers : (env : Env) (xs : List ℕ) (s : ℕ) → holds xs s ≡ true → at_slot (numbers_in env xs) s ≡ Some (number_in env s)
at-numbers env [] s h = cc
at-numbers env (x ∷ xs) s h = by_slot env x s (at_slot (numbers_in env xs) s) (nat_eq x s) (eqb-true x s) (λ n. at-numbers env xs s (or_rest (nat_eq x s) (holds xs s) h n))

-- conditions that hold in the env hold in its numbers for their slots
hold_in : (env : Env) (xs : List ℕ) (ts : List Test) → ((s : ℕ) → holds (map test_slot ts) s ≡ true → holds xs s ≡ true) → AllHold env ts → AllHold (numbers_in env xs) ts
hold_in env xs [] f h = tt
hold_in env xs (Flag s ∷ ts) f h =
    (at-numbers env xs s (f s (or_left (nat_eq s s) (holds (map test_slot ts) s) (same_eq s))) ∙ ap (λ o. Some (unwrap_or o (pos 0))) h.0, hold_in env xs ts (λ t q. f t (or_right (nat_eq s t) (holds (map test_slot ts) t) q)) h.1)
hold_in env xs (Equals s k ∷ ts) f h =
    (at-numbers env xs s (f s (or_left (nat_eq s s) (holds (map test_slot ts) s) (same_eq s))) ∙ ap (λ o. Some (unwrap_or o (pos 0))) h.0, hold_in env xs ts (λ t q. f t (or_right (nat_eq s t) (holds (map test_slot ts) t) q)) h.1)

all_hold-append : (env : Env) (ts us : List Test) → AllHold env ts → AllHold env us → AllHold env (ts ++ us)
all_hold-append env [] us h k = k
all_hold-append env (t ∷ ts) us h k = (h.0, all_hold-append env ts us h.1 k)

-- the slot of a condition that holds has a number
has_number : (env : Env) (ts : List Test) (s : ℕ) → AllHold env ts → holds (map test_slot ts) s ≡ true → (x : ℤ) × (at_slot env s ≡ Some x)
has_number env [] s h k = cc
has_number env (Flag t ∷ ts) s h k = either {F = (x : ℤ) × (at_slot env s ≡ Some x)} (nat_eq t s) (holds (map test_slot ts) s) k (λ q. (pos 1, ap (at_slot env) (sym (eqb-true t s q)) ∙ h.0)) (λ q. has_number env ts s h.1 q)
has_number env (Equals t n ∷ ts) s h k = either {F = (x : ℤ) × (at_slot env s ≡ Some x)} (nat_eq t s) (holds (map test_slot ts) s) k (λ q. (n, ap (at_slot env) (sym (eqb-true t s q)) ∙ h.0)) (λ q. has_number env ts s h.1 q)

-- Alternatives by their numbers.

case_at : (cases : Alternatives) (i : ℕ) → i < count_of cases → (name : List ℕ) × (slice_get (conditions_of cases) i ≡ Some (name, tests_at cases i))
case_at no_alternatives i h = absurd (omega arith)
case_at (alternative name g ts more) zero h = (name, refl)
case_at (alternative name g ts more) (suc i) h = case_at more i (omega arith)

some_tests : (cases : List (List ℕ × List Test)) → list_any has_tests cases ≡ true → (m : ℕ) × (one : List ℕ × List Test) × (slice_get cases m ≡ Some one) × (0 < length one.1)
some_tests [] h = cc
some_tests (c ∷ cases) h = either {F = (m : ℕ) × (one : List ℕ × List Test) × (slice_get (c ∷ cases) m ≡ Some one) × (0 < length one.1)} (has_tests c) (list_any has_tests cases) h
    (λ q. (zero, c, refl, ltb-true 0 (length c.1) q))
    (λ q. let r = some_tests cases q in (suc r.0, r.1, r.2, r.3))

module _ (root : Grammar) where
  permitted_at : (env : Env) (s : ℕ) (x : ℤ) → Permitted root env → at_slot env s ≡ Some x → In (domain_of root s) x
  permitted_at [] s x p e = cc
  permitted_at (e' ∷ env) s x p e = by (nat_eq e'.0 s) (eqb-true e'.0 s) e (λ q. permitted_at env s x p.1 q)
    where
      by : (t : Bool) → (t ≡ true → e'.0 ≡ s) → (if t then Some e'.1 else at_slot env s) ≡ Some x → (at_slot env s ≡ Some x → In (domain_of root s) x) → In (domain_of root s) x
      by true f e rest = let same = f refl in let value : e'.1 ≡ x = cc in rw (← same, ← value) p.0
      by false f e rest = rest e

  all_permitted : (env : Env) (ts : List Test) (xs : List ℕ) → Permitted root env → AllHold env ts → ((s : ℕ) → holds xs s ≡ true → holds (map test_slot ts) s ≡ true) → AllByRecursion (λ e. In (domain_of root e.0) e.1) (numbers_in env xs)
  all_permitted env ts [] p h f = tt
  all_permitted env ts (x ∷ xs) p h f =
      let n = has_number env ts x h (f x (or_left (nat_eq x x) (holds xs x) (same_eq x))) in
      let is : number_in env x ≡ n.0 = ap (λ o. unwrap_or o (pos 0)) n.1 in
      (rw is (permitted_at env x n.0 p n.1), all_permitted env ts xs p h (λ s q. f s (or_right (nat_eq x s) (holds xs s) q)))

  module _ (sound : (f : CheckFault) → Undecodable root f → ⊥) (k : ℕ) (at : Stand) (cases : Alternatives) (is_at : NodeAt root k at) (is_choice : IsChoice root at.form cases Tests) (some : list_any has_tests (conditions_of cases) ≡ true) where
    -- every alternative has conditions
    all_tests : (i : ℕ) → i < count_of cases → 0 < length (tests_at cases i)
    all_tests i h = by (tests_at cases i) (case_at cases i h)
      where
        by : (ts : List Test) → (name : List ℕ) × (slice_get (conditions_of cases) i ≡ Some (name, ts)) → 0 < length ts
        by [] c =
            let m = some_tests (conditions_of cases) some in
            absurd (sound (mixed_choice at.path) (record {
              node = k;
              use_here = 0;
              holds = record { cases = cases; rule = Tests; choice_is = record { at = at; is_at = is_at; path_is = refl; form_is = is_choice }; first = m.0; one = m.1; is_one = m.2; some_one = m.3; beside = one_without i (c.0, []) c.1 refl };
            }))
        by (t ∷ ts) c = omega arith

    in_turn : (env : Env) → Permitted root env → (i j : ℕ) → i < j → j < count_of cases → AllHold env (tests_at cases i) → AllHold env (tests_at cases j) → ⊥
    in_turn env p i j less below one two =
        let here : i < count_of cases = omega arith in
        let a = case_at cases i here in
        let b = case_at cases j below in
        let ts = tests_at cases i ++ tests_at cases j in
        let xs = in_order (map test_slot (tests_at cases i ++ tests_at cases j)) in
        let both = all_hold-append env (tests_at cases i) (tests_at cases j) one two in
        sound (overlap at.path i j (numbers_in env xs)) (record {
          node = k;
          use_here = 0;
          holds = record {
            cases = cases;
            choice_is = record { at = at; is_at = is_at; path_is = refl; form_is = is_choice };
            overlaps = record {
              in_order = less;
              one = (a.0, tests_at cases i);
              other = (b.0, tests_at cases j);
              is_one = a.1;
              is_other = b.1;
              some_one = all_tests i here;
              some_other = all_tests j below;
              slots = λ s c. holds_contains (map test_slot ts) s (sym (order-holds (map test_slot ts) s) ∙ (ap (λ l. holds l s) (sym (slots-are env xs)) ∙ contains_holds (map (λ e. e.0) (numbers_in env xs)) s c));
              all_slots = λ s c. holds_contains (map (λ e. e.0) (numbers_in env xs)) s (ap (λ l. holds l s) (slots-are env xs) ∙ (order-holds (map test_slot ts) s ∙ contains_holds (map test_slot ts) s c));
              ascending = rw (slots-are env xs) (order_strict (map test_slot ts));
              permitted = all_permitted env ts xs p both (λ s q. sym (order-holds (map test_slot ts) s) ∙ q);
              holds = hold_in env xs ts (λ s q. order-holds (map test_slot ts) s ∙ q) both;
            };
          };
        })

    pub no_overlap : NoOverlap root cases
    no_overlap env p i j a b one two = elim (dec_lt i j) [
      | yes h ↦ absurd (in_turn env p i j h b one two)
      | no h ↦ elim (dec_lt j i) [
        | yes g ↦ absurd (in_turn env p j i g a two one)
        | no g ↦ omega arith
      ]
    ]
