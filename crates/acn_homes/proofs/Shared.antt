-- The ends of walks along two paths.
use Rattle.std.proofs.Common.{◌≡◌, ℕ, zero, suc, ◌<◌, ◌≤◌, nat_eq, Bool, true, false, if◌then◌else◌, [], ◌∷◌, ◌++◌, length, take, drop, get_or, drop_of_length-le, append-nil, refl, sym, ap, ◌∙◌, arith}
use Rattle.std.proofs.lemmas.List.{take_all}
use Rattle.acn_homes.specs.Homes.{Path, above, shared}

pub above_pushed : (p : Path) (a : ℕ) → above (p ++ a ∷ []) ≡ p
above_pushed [] a = refl
above_pushed (b ∷ []) a = refl
above_pushed (b ∷ c ∷ p) a = ap (λ (z : Path). b ∷ z) (above_pushed (c ∷ p) a)

shared_nothing : (p : Path) → shared p [] ≡ []
shared_nothing [] = refl
shared_nothing (a ∷ p) = refl

-- the other ends
pub other_ends : (p q : Path) (i : ℕ) → length q ≤ i → shared p q ≡ take i p ++ shared (drop i p) (drop i q) → take i p ≡ shared p q
other_ends p q i h k =
    let nothing : shared (drop i p) (drop i q) ≡ [] = ap (shared (drop i p)) (drop_of_length-le q h) ∙ shared_nothing (drop i p) in
    sym (k ∙ (ap (λ (z : Path). take i p ++ z) nothing ∙ append-nil (take i p)))

apart : (a b : ℕ) (p q : Path) → nat_eq a b ≡ false → shared (a ∷ p) (b ∷ q) ≡ []
apart a b p q e = ap (λ (t : Bool). if t then a ∷ shared p q else []) e

together : (a b : ℕ) (p q : Path) → nat_eq a b ≡ true → shared (a ∷ p) (b ∷ q) ≡ a ∷ shared p q
together a b p q e = ap (λ (t : Bool). if t then a ∷ shared p q else []) e

differ_at : (p q : Path) (i : ℕ) (d e : ℕ) → i < length p → i < length q → nat_eq (get_or p i d) (get_or q i e) ≡ false → shared (drop i p) (drop i q) ≡ []
differ_at [] q i d e h k n = absurd (omega (arith, h))
differ_at (a ∷ p) [] i d e h k n = absurd (omega (arith, k))
differ_at (a ∷ p) (b ∷ q) zero d e h k n = apart a b p q n
differ_at (a ∷ p) (b ∷ q) (suc i) d e h k n = differ_at p q i d e (omega (arith, h)) (omega (arith, k)) n

-- two steps differ
pub steps_differ : (p q : Path) (i : ℕ) (d e : ℕ) → i < length p → i < length q → nat_eq (get_or p i d) (get_or q i e) ≡ false → shared p q ≡ take i p ++ shared (drop i p) (drop i q) → take i p ≡ shared p q
steps_differ p q i d e h k n s = sym (s ∙ (ap (λ (z : Path). take i p ++ z) (differ_at p q i d e h k n) ∙ append-nil (take i p)))

-- two steps are the same
pub same_step : (p q : Path) (i : ℕ) (d e : ℕ) → i < length p → i < length q → nat_eq (get_or p i d) (get_or q i e) ≡ true → take i p ++ shared (drop i p) (drop i q) ≡ take (suc i) p ++ shared (drop (suc i) p) (drop (suc i) q)
same_step [] q i d e h k n = absurd (omega (arith, h))
same_step (a ∷ p) [] i d e h k n = absurd (omega (arith, k))
same_step (a ∷ p) (b ∷ q) zero d e h k n = together a b p q n
same_step (a ∷ p) (b ∷ q) (suc i) d e h k n = ap (λ (z : Path). a ∷ z) (same_step p q i d e (omega (arith, h)) (omega (arith, k)) n)

-- the first ends
pub first_ends : (p q : Path) (i : ℕ) → length p ≤ i → shared p q ≡ take i p ++ shared (drop i p) (drop i q) → p ≡ shared p q
first_ends p q i h k =
    let nothing : shared (drop i p) (drop i q) ≡ [] = ap (λ (z : Path). shared z (drop i q)) (drop_of_length-le p h) in
    sym (k ∙ (ap (λ (z : Path). take i p ++ z) nothing ∙ (append-nil (take i p) ∙ take_all i p h)))
