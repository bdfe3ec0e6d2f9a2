-- A home as the list of the slots that pass a test.
use Rattle.std.proofs.Common.{◌≡◌, ℕ, zero, suc, ◌+◌, ◌<◌, ◌≤◌, Bool, true, false, List, [], ◌∷◌, nat_eq, nat_lt, nat_le, ◌||◌, cond, refl, sym, ap, ◌∙◌, arith}
use Rattle.std.specs.Prelude.{filter}
use Rattle.std.specs.List.{range_with_len}
use Rattle.std.proofs.lemmas.Bool.Decides.{nat_tests}
use Rattle.acn_well_formed.specs.Kept.{all_below, rises_from}
use Rattle.acn_grammar.specs.Tree.{holds, same_numbers}
use Rattle.std.proofs.lemmas.Bool.{and_parts}

pub same_is : (xs ys : List ℕ) → same_numbers xs ys ≡ true → xs ≡ ys
same_is [] [] h = refl
same_is [] (y ∷ ys) h = cc
same_is (x ∷ xs) [] h = cc
same_is (x ∷ xs) (y ∷ ys) h =
    let p = and_parts (nat_eq x y) (same_numbers xs ys) h in
    let e : x ≡ y = grind (arith, nat_tests) in
    let f = same_is xs ys p.1 in
    rw (e, f) refl

pub same_refl : (xs : List ℕ) → same_numbers xs xs ≡ true
same_refl [] = refl
same_refl (x ∷ xs) = (let e : nat_eq x x ≡ true = grind (arith, nat_tests) in rw e (same_refl xs))

later : (a b : ℕ) (xs : List ℕ) → a ≤ b → rises_from b xs ≡ true → rises_from a xs ≡ true
later a b [] le h = refl
later a b (x ∷ xs) le h =
    let p = and_parts (nat_le b x) (rises_from (x + 1) xs) h in
    let e : nat_le a x ≡ true = grind (arith, nat_tests) in
    rw e p.1

above_not : (xs : List ℕ) (a : ℕ) → rises_from (a + 1) xs ≡ true → holds xs a ≡ false
above_not [] a h = refl
above_not (x ∷ xs) a h =
    let q = and_parts (nat_le (a + 1) x) (rises_from (x + 1) xs) h in
    let e : nat_eq x a ≡ false = not_same x a q.0 in
    let g : a + 1 ≤ x + 1 = at_most x a q.0 in
    rw e (above_not xs a (later (a + 1) (x + 1) xs g q.1))
  where
    not_same : (x a : ℕ) → nat_le (a + 1) x ≡ true → nat_eq x a ≡ false
    not_same x a h = grind (arith, nat_tests)

    at_most : (x a : ℕ) → nat_le (a + 1) x ≡ true → a + 1 ≤ x + 1
    at_most x a h = grind (arith, nat_tests)

rise_on : (a : ℕ) (xs : List ℕ) → rises_from a xs ≡ true → holds xs a ≡ false → rises_from (a + 1) xs ≡ true
rise_on a [] h g = refl
rise_on a (x ∷ xs) h g =
    let q = and_parts (nat_le a x) (rises_from (x + 1) xs) h in
    let e : nat_le (a + 1) x ≡ true = next_up a x (holds xs a) q.0 g in
    rw e q.1
  where
    next_up : (a x : ℕ) (b : Bool) → nat_le a x ≡ true → (nat_eq x a || b) ≡ false → nat_le (a + 1) x ≡ true
    next_up a x b h g = grind (arith, nat_tests)

is_first : (a x : ℕ) (ys : List ℕ) → nat_le a x ≡ true → rises_from (x + 1) ys ≡ true → holds (x ∷ ys) a ≡ true → x ≡ a
is_first a x ys h g t = first_case (nat_eq x a) refl
  where
    not_below : (a x : ℕ) → nat_le a x ≡ true → a + 1 ≤ x + 1
    not_below a x h = grind (arith, nat_tests)

    equal : (a x : ℕ) → true ≡ nat_eq x a → x ≡ a
    equal a x h = grind (arith, nat_tests)

    first_case : (b : Bool) → b ≡ nat_eq x a → x ≡ a
    first_case true e = equal a x e
    first_case false e =
        let n : holds ys a ≡ false = above_not ys a (later (a + 1) (x + 1) ys (not_below a x h) g) in
        let z : (nat_eq x a || holds ys a) ≡ false = rw (← e, n) refl in
        cc

behind_first : (a x s : ℕ) (ys : List ℕ) → x ≡ a → a + 1 ≤ s → holds ys s ≡ holds (x ∷ ys) s
behind_first a x s ys e low = (let f : nat_eq x s ≡ false = apart a x s e low in rw f refl)
  where
    apart : (a x s : ℕ) → x ≡ a → a + 1 ≤ s → nat_eq x s ≡ false
    apart a x s e low = grind (arith, nat_tests)

module _ (p : ℕ → Bool) where
  pub chosen : (a k : ℕ) → List ℕ
  chosen a k = filter p (range_with_len a k)

  -- what passes rises, from a on and below a + k
  pub chosen_rise : (a k : ℕ) → rises_from a (filter p (range_with_len a k)) ≡ true
  chosen_rise a zero = refl
  chosen_rise a (suc k) = rise_step (p a) a (filter p (range_with_len (a + 1) k)) (chosen_rise (a + 1) k)
    where
      rise_step : (b : Bool) (a : ℕ) (xs : List ℕ) → rises_from (a + 1) xs ≡ true → rises_from a (cond b (a ∷ xs) xs) ≡ true
      rise_step true a xs h = (let e : nat_le a a ≡ true = grind (arith, nat_tests) in rw e h)
      rise_step false a xs h = later a (a + 1) xs (omega arith) h

  pub chosen_below : (a k n : ℕ) → a + k ≤ n → all_below n (filter p (range_with_len a k)) ≡ true
  chosen_below a zero n h = refl
  chosen_below a (suc k) n h = below_step (p a) a n (filter p (range_with_len (a + 1) k)) (omega arith) (chosen_below (a + 1) k n (omega arith))
    where
      below_step : (b : Bool) (a n : ℕ) (xs : List ℕ) → a < n → all_below n xs ≡ true → all_below n (cond b (a ∷ xs) xs) ≡ true
      below_step true a n xs l h = (let e : nat_lt a n ≡ true = grind (arith, nat_tests) in rw e h)
      below_step false a n xs l h = h

  not_before : (a k s : ℕ) → s < a → holds (filter p (range_with_len a k)) s ≡ false
  not_before a zero s h = refl
  not_before a (suc k) s h = before_step (p a) a s (filter p (range_with_len (a + 1) k)) h (not_before (a + 1) k s (omega arith))
    where
      before_step : (b : Bool) (a s : ℕ) (xs : List ℕ) → s < a → holds xs s ≡ false → holds (cond b (a ∷ xs) xs) s ≡ false
      before_step true a s xs l h = (let e : nat_eq a s ≡ false = grind (arith, nat_tests) in rw e h)
      before_step false a s xs l h = h

  differ_above : (a s : ℕ) → a ≤ s → nat_eq a s ≡ false → a + 1 ≤ s
  differ_above a s low e = grind (arith, nat_tests)

  at_first : (a s : ℕ) → nat_eq a s ≡ true → a ≡ s
  at_first a s e = grind (arith, nat_tests)

  first_below : (a s : ℕ) → nat_eq a s ≡ true → s < a + 1
  first_below a s e = grind (arith, nat_tests)

  hold_step : (b q : Bool) (a s : ℕ) (xs : List ℕ) → b ≡ p a → q ≡ nat_eq a s → (nat_eq a s ≡ true → holds xs s ≡ false) → (nat_eq a s ≡ false → holds xs s ≡ p s) → holds (cond b (a ∷ xs) xs) s ≡ p s
  hold_step true true a s xs e f g h = (let k = at_first a s (sym f) in rw (← f) (e ∙ ap p k))
  hold_step true false a s xs e f g h = rw (← f) (h (sym f))
  hold_step false true a s xs e f g h = (let k = at_first a s (sym f) in g (sym f) ∙ (e ∙ ap p k))
  hold_step false false a s xs e f g h = h (sym f)

  -- a number of the range is there exactly where it passes
  pub chosen_holds : (a k s : ℕ) → a ≤ s → s < a + k → holds (filter p (range_with_len a k)) s ≡ p s
  chosen_holds a zero s low high = absurd (omega arith)
  chosen_holds a (suc k) s low high = hold_step (p a) (nat_eq a s) a s (filter p (range_with_len (a + 1) k)) refl refl (λ e. not_before (a + 1) k s (first_below a s e)) (λ e. chosen_holds (a + 1) k s (differ_above a s low e) (omega arith))

  -- the first number of the range, and the list behind it
  listed_step : (b : Bool) (a k : ℕ) (xs : List ℕ) → p a ≡ b → rises_from a xs ≡ true → all_below (a + suc k) xs ≡ true → ((s : ℕ) → a ≤ s → s < a + suc k → holds xs s ≡ p s)
      → ((ys : List ℕ) → rises_from (a + 1) ys ≡ true → all_below ((a + 1) + k) ys ≡ true → ((s : ℕ) → a + 1 ≤ s → s < (a + 1) + k → holds ys s ≡ p s) → ys ≡ filter p (range_with_len (a + 1) k))
      → xs ≡ cond b (a ∷ filter p (range_with_len (a + 1) k)) (filter p (range_with_len (a + 1) k))
  listed_step false a k xs e h b same ih =
      let away : holds xs a ≡ false = same a (omega arith) (omega arith) ∙ e in
      let m : a + suc k ≡ (a + 1) + k = omega arith in
      ih xs (rise_on a xs h away) (rw m at b) (λ s low high. same s (omega arith) (omega arith))
  listed_step true a k xs e h b same ih = there a k xs h b (same a (omega arith) (omega arith) ∙ e) same ih
    where
      there : (a k : ℕ) (xs : List ℕ) → rises_from a xs ≡ true → all_below (a + suc k) xs ≡ true → holds xs a ≡ true → ((s : ℕ) → a ≤ s → s < a + suc k → holds xs s ≡ p s)
          → ((ys : List ℕ) → rises_from (a + 1) ys ≡ true → all_below ((a + 1) + k) ys ≡ true → ((s : ℕ) → a + 1 ≤ s → s < (a + 1) + k → holds ys s ≡ p s) → ys ≡ filter p (range_with_len (a + 1) k))
          → xs ≡ a ∷ filter p (range_with_len (a + 1) k)
      there a k [] h b t same ih = cc
      there a k (x ∷ ys) h b t same ih =
          let q = and_parts (nat_le a x) (rises_from (x + 1) ys) h in
          let r = and_parts (nat_lt x (a + suc k)) (all_below (a + suc k) ys) b in
          let m : a + suc k ≡ (a + 1) + k = omega arith in
          let e : x ≡ a = is_first a x ys q.0 q.1 t in
          let f = ih ys (rw e at q.1) (rw m at r.1) (λ s low high. behind_first a x s ys e low ∙ same s (omega arith) (omega arith)) in
          rw (e, f) refl

  -- a list that rises and has the numbers below a + k that pass is the list of these
  pub listed : (a k : ℕ) (xs : List ℕ) → rises_from a xs ≡ true → all_below (a + k) xs ≡ true → ((s : ℕ) → a ≤ s → s < a + k → holds xs s ≡ p s) → xs ≡ filter p (range_with_len a k)
  listed a zero [] h b same = refl
  listed a zero (x ∷ xs) h b same =
      let q = and_parts (nat_le a x) (rises_from (x + 1) xs) h in
      let r = and_parts (nat_lt x (a + 0)) (all_below (a + 0) xs) b in
      absurd (no_room a x q.0 r.0)
    where
      no_room : (a x : ℕ) → nat_le a x ≡ true → nat_lt x (a + 0) ≡ true → ⊥
      no_room a x h k = grind (arith, nat_tests)
  listed a (suc k) xs h b same = listed_step (p a) a k xs refl h b same (λ ys g c t. listed (a + 1) k ys g c t)
