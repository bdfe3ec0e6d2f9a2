-- The first place at which a test passes.
use Rattle.std.proofs.Common.{◌≡◌, ℕ, zero, suc, ◌+◌, ◌<◌, ◌≤◌, Bool, true, false, Option, Some, None, refl, sym, ap, ◌∙◌, arith, inl, inr}
use Rattle.std.specs.Prelude.{cond, ◌⊎◌}
use Rattle.std.specs.List.{find, range_with_len}

pub less_or_not : (a b : ℕ) → (a < b) ⊎ (b ≤ a)
less_or_not a zero = inr (omega arith)
less_or_not zero (suc b) = inl (omega arith)
less_or_not (suc a) (suc b) = elim (less_or_not a b) [ inl g ↦ inl (omega arith) | inr g ↦ inr (omega arith) ]

cond_true : (t : Bool) (a : ℕ) (rest : Option ℕ) → t ≡ true → cond t (Some a) rest ≡ Some a
cond_true true a rest e = refl
cond_true false a rest e = cc

cond_false : (t : Bool) (a : ℕ) (rest : Option ℕ) → t ≡ false → cond t (Some a) rest ≡ rest
cond_false true a rest e = cc
cond_false false a rest e = refl

find_from : (p : ℕ → Bool) (a n k : ℕ) → k < n → p (a + k) ≡ true → ((j : ℕ) → a ≤ j → j < a + k → p j ≡ false) → find p (range_with_len a n) ≡ Some (a + k)
find_from p a zero k l h none = absurd (omega arith)
find_from p a (suc n) zero l h none = let e : a ≡ a + zero = omega arith in cond_true (p a) a (find p (range_with_len (a + 1) n)) (ap p e ∙ h) ∙ ap Some e
find_from p a (suc n) (suc k) l h none =
    let e : (a + 1) + k ≡ a + suc k = omega arith in
    cond_false (p a) a (find p (range_with_len (a + 1) n)) (none a (omega arith) (omega arith)) ∙ (find_from p (a + 1) n k (omega arith) (ap p e ∙ h) (λ j u v. none j (omega arith) (omega arith)) ∙ ap Some e)

pub find_first : (p : ℕ → Bool) (n k : ℕ) → k < n → p k ≡ true → ((j : ℕ) → j < k → p j ≡ false) → find p (range_with_len 0 n) ≡ Some k
find_first p n k l h none =
    let e : 0 + k ≡ k = omega arith in
    find_from p 0 n k l (ap p e ∙ h) (λ j u v. none j (omega arith)) ∙ ap Some e

pub none_from : (p : ℕ → Bool) (a n : ℕ) → ((j : ℕ) → a ≤ j → j < a + n → p j ≡ false) → find p (range_with_len a n) ≡ None
none_from p a zero none = refl
none_from p a (suc n) none = cond_false (p a) a (find p (range_with_len (a + 1) n)) (none a (omega arith) (omega arith)) ∙ none_from p (a + 1) n (λ j u v. none j (omega arith) (omega arith))

pub find_none : (p : ℕ → Bool) (n : ℕ) → ((j : ℕ) → j < n → p j ≡ false) → find p (range_with_len 0 n) ≡ None
find_none p n none = none_from p 0 n (λ j u v. none j (omega arith))

-- where nothing was found, nothing passes
passes_not : (p : ℕ → Bool) (a n j : ℕ) → find p (range_with_len a n) ≡ None → a ≤ j → j < a + n → p j ≡ true → ⊥
passes_not p a zero j e u v h = omega arith
passes_not p a (suc n) j e u v h = by (p a) refl e (λ f g. passes_not p (a + 1) n j f g (omega arith) h)
  where
    order : (x y : ℕ) → x ≤ y → (x ≡ y) ⊎ (x + 1 ≤ y)
    order zero zero h = inl refl
    order zero (suc y) h = inr (omega arith)
    order (suc x) zero h = absurd (omega arith)
    order (suc x) (suc y) h = elim (order x y (omega arith)) [ inl g ↦ inl (ap suc g) | inr g ↦ inr (omega arith) ]

    by : (t : Bool) → p a ≡ t → cond t (Some a) (find p (range_with_len (a + 1) n)) ≡ None → (find p (range_with_len (a + 1) n) ≡ None → a + 1 ≤ j → ⊥) → ⊥
    by true is f more = cc
    by false is f more = elim (order a j u) [ inl g ↦ (let z = ap p g in cc) | inr g ↦ more f g ]

pub none_passes : (p : ℕ → Bool) (n j : ℕ) → find p (range_with_len 0 n) ≡ None → j < n → p j ≡ true → ⊥
none_passes p n j e l h = passes_not p 0 n j e (omega arith) (omega arith) h

-- where a search ends
pub record Found (p : ℕ → Bool) (a n i : ℕ) : Type 0 where
  pub from : a ≤ i
  pub inside : i < a + n
  pub passes : p i ≡ true
  pub first : (j : ℕ) → a ≤ j → j < i → p j ≡ false

pub find_back : (p : ℕ → Bool) (a n i : ℕ) → find p (range_with_len a n) ≡ Some i → Found p a n i
find_back p a zero i h = cc
find_back p a (suc n) i h = by (p a) refl h (λ g. find_back p (a + 1) n i g)
  where
    by : (t : Bool) → p a ≡ t → cond t (Some a) (find p (range_with_len (a + 1) n)) ≡ Some i → (find p (range_with_len (a + 1) n) ≡ Some i → Found p (a + 1) n i) → Found p a (suc n) i
    by true e h f =
        let same : a ≡ i = cc in
        record { from = omega (arith, same); inside = omega (arith, same); passes = ap p (sym same) ∙ e; first = λ j u v. absurd (omega (arith, same)) }
    by false e h f =
        let r = f h in
        record { from = omega (arith, r.from); inside = omega (arith, r.inside); passes = r.passes; first = λ j u v. at j u v r (less_or_not a j) }
      where
        at : (j : ℕ) → a ≤ j → j < i → Found p (a + 1) n i → (a < j) ⊎ (j ≤ a) → p j ≡ false
        at j u v r (inl k) = r.first j (omega arith) v
        at j u v r (inr k) = (let same : a ≡ j = omega arith in ap p (sym same) ∙ e)
