-- Paths that go on from others.
use Rattle.std.proofs.Common.{◌≡◌, ◌⊎◌, inl, inr, ℕ, ◌<◌, ◌≤◌, nat_eq, Bool, true, false, true≢false, ◌&&◌, [], ◌∷◌, ◌++◌, length, append_assoc, append-nil, refl, sym, ap, ◌∙◌, arith}
use Rattle.std.proofs.lemmas.Bool.Decides.{nat_tests}
use Rattle.std.specs.Cmp.Lexicographic.{bytes_decides}
use Rattle.acn_homes.specs.Homes.{Path, same, above}
use Rattle.acn_homes.specs.Laws.{Begins}
use Rattle.acn_home_laws.specs.Laws.{goes_on}

pub is_equal : (a b : ℕ) → nat_eq a b ≡ true → a ≡ b
is_equal a b h = grind (arith, nat_tests)

pub itself_equal : (a : ℕ) → nat_eq a a ≡ true
itself_equal a = grind (arith, nat_tests)

pub same_is : (p q : Path) → same p q ≡ true → p ≡ q
same_is p q h = (bytes_decides p q).0 h

pub is_same : (p q : Path) → p ≡ q → same p q ≡ true
is_same p q h = (bytes_decides p q).1 h

pub both_true : (a b : Bool) → (a && b) ≡ true → (a ≡ true) × (b ≡ true)
both_true true b h = (refl, h)
both_true false b h = absurd (true≢false (sym h))

pub true_both : (a b : Bool) → a ≡ true → b ≡ true → (a && b) ≡ true
true_both a b h k = ap (λ (t : Bool). t && b) h ∙ k

begins_more : (a b : ℕ) (p q : Path) → a ≡ b → Begins p q → Begins (a ∷ p) (b ∷ q)
begins_more a b p q e h = (h.0, ap (λ (c : ℕ). c ∷ q) (sym e) ∙ ap (λ (z : Path). a ∷ z) h.1)

-- what goes on from a path begins with it, and is longer
pub begins_on : (p q : Path) → goes_on p q ≡ true → Begins p q
begins_on [] q h = (q, refl)
begins_on (a ∷ p) [] h = absurd (true≢false (sym h))
begins_on (a ∷ p) (b ∷ q) h = (let s = both_true (nat_eq a b) (goes_on p q) h in begins_more a b p q (is_equal a b s.0) (begins_on p q s.1))

pub longer_on : (p q : Path) → goes_on p q ≡ true → length p < length q
longer_on [] [] h = absurd (true≢false (sym h))
longer_on [] (b ∷ q) h = omega arith
longer_on (a ∷ p) [] h = absurd (true≢false (sym h))
longer_on (a ∷ p) (b ∷ q) h = (let r = longer_on p q (both_true (nat_eq a b) (goes_on p q) h).1 in omega (arith, r))

pub no_shorter : (p q : Path) → Begins p q → length p ≤ length q
no_shorter [] q h = omega arith
no_shorter (a ∷ p) q h = (let e = ap (λ (z : Path). length z) h.1 in let r = no_shorter p (p ++ h.0) (h.0, refl) in omega (arith, e, r))

pub on_by : (p : Path) (b : ℕ) (r : Path) → goes_on p (p ++ b ∷ r) ≡ true
on_by [] b r = refl
on_by (a ∷ p) b r = true_both (nat_eq a a) (goes_on p (p ++ b ∷ r)) (itself_equal a) (on_by p b r)

-- a path that begins with another is it, or goes on from it
pub begins_either : (p q : Path) → Begins p q → (p ≡ q) ⊎ (goes_on p q ≡ true)
begins_either p q h = by h.0 h.1
  where
    by : (r : Path) → q ≡ p ++ r → (p ≡ q) ⊎ (goes_on p q ≡ true)
    by [] e = inl (sym (append-nil p) ∙ sym e)
    by (b ∷ r) e = inr (ap (goes_on p) e ∙ on_by p b r)

pub begins_through : (p q r : Path) → Begins p q → Begins q r → Begins p r
begins_through p q r h k = (h.0 ++ k.0, k.1 ∙ (ap (λ (z : Path). z ++ k.0) h.1 ∙ append_assoc p h.0 k.0))

pub begins_itself : (p : Path) → Begins p p
begins_itself p = ([], sym (append-nil p))

-- begins, then goes on
pub on_through : (p q r : Path) → Begins p q → goes_on q r ≡ true → goes_on p r ≡ true
on_through p q r h k = by (begins_either p r (begins_through p q r h (begins_on q r k)))
  where
    by : (p ≡ r) ⊎ (goes_on p r ≡ true) → goes_on p r ≡ true
    by (inl e) = (let a = no_shorter p q h in let b = longer_on q r k in let l = ap (λ (z : Path). length z) e in absurd (omega (arith, a, b, l)))
    by (inr g) = g

pub not_back : (p q : Path) → goes_on p q ≡ true → Begins q p → ⊥
not_back p q h k = (let a = longer_on p q h in let b = no_shorter q p k in omega (arith, a, b))

abbrev first_step : Path → ℕ
first_step [] = 0
first_step (a ∷ p) = a

abbrev later_steps : Path → Path
later_steps [] = []
later_steps (a ∷ p) = p

-- of two fronts of a path one begins with the other
pub fronts : (p q r : Path) → Begins p r → Begins q r → Begins p q ⊎ Begins q p
fronts [] q r h k = inl (q, refl)
fronts (a ∷ p) [] r h k = inr (a ∷ p, refl)
fronts (a ∷ p) (b ∷ q) [] h k = (let e = ap (λ (z : Path). length z) h.1 in absurd (omega (arith, e)))
fronts (a ∷ p) (b ∷ q) (c ∷ r) h k = by (fronts p q r (h.0, ap later_steps h.1) (k.0, ap later_steps k.1))
  where
    ab : a ≡ b
    ab = sym (ap first_step h.1) ∙ ap first_step k.1

    by : Begins p q ⊎ Begins q p → Begins (a ∷ p) (b ∷ q) ⊎ Begins (b ∷ q) (a ∷ p)
    by (inl g) = inl (begins_more a b p q ab g)
    by (inr g) = inr (begins_more b a q p (sym ab) g)

-- ---- the path above

above_more : (b c : ℕ) (p q : Path) → Begins p (above (c ∷ q)) → Begins (b ∷ p) (above (b ∷ c ∷ q))
above_more b c p q h = begins_more b b p (above (c ∷ q)) refl h

pub begins_above : (p q : Path) → goes_on p q ≡ true → Begins p (above q)
begins_above [] q h = (above q, refl)
begins_above (a ∷ p) [] h = absurd (true≢false (sym h))
begins_above (a ∷ []) (b ∷ []) h = absurd (true≢false (sym (both_true (nat_eq a b) (goes_on [] []) h).1))
begins_above (a ∷ d ∷ p) (b ∷ []) h = absurd (true≢false (sym (both_true (nat_eq a b) (goes_on (d ∷ p) []) h).1))
begins_above (a ∷ p) (b ∷ c ∷ q) h = (let s = both_true (nat_eq a b) (goes_on p (c ∷ q)) h in begins_more a b p (above (c ∷ q)) (is_equal a b s.0) (begins_above p (c ∷ q) s.1))

pub above_on : (q : Path) → goes_on [] q ≡ true → goes_on (above q) q ≡ true
above_on [] h = absurd (true≢false (sym h))
above_on (b ∷ []) h = refl
above_on (b ∷ c ∷ q) h = true_both (nat_eq b b) (goes_on (above (c ∷ q)) (c ∷ q)) (itself_equal b) (above_on (c ∷ q) refl)

pub on_above : (p q : Path) → goes_on [] q ≡ true → Begins p (above q) → goes_on p q ≡ true
on_above p q h k = on_through p (above q) q k (above_on q h)

pub not_root : (p q : Path) → goes_on p q ≡ true → goes_on [] q ≡ true
not_root p q h = on_through [] p q (p, refl) h

pub above_step : (p : Path) (k : ℕ) → above (p ++ k ∷ []) ≡ p
above_step [] k = refl
above_step (b ∷ []) k = refl
above_step (b ∷ c ∷ p) k = ap (λ (z : Path). b ∷ z) (above_step (c ∷ p) k)
