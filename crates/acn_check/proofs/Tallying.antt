-- What uses say of slots, one use after the other.
use Rattle.std.proofs.Common.{◌≡◌, ℕ, zero, suc, ◌+◌, ◌<◌, List, [], ◌∷◌, ◌++◌, length, drop, map, get_or, Some, refl, sym, ap, ◌∙◌, arith, add-one, false}
use Rattle.std.specs.Prelude.{slice_get, slice_set}
use Rattle.std.specs.List.{flat_map}
use Rattle.std.proofs.lemmas.List.{drop_more}
use Rattle.acn_grammar.specs.Walk.{Use, slot_of}
use Rattle.acn_check.specs.Facts.{Facts}
use Rattle.acn_check.specs.First.{Tally, no_tallies, raised, tallied_at, tallied_one, tallied, uses_of}

map-set : {A B : Type 0} (f : A → B) (xs : List A) (i : ℕ) (x : A) → map f (slice_set xs i x) ≡ slice_set (map f xs) i (f x)
map-set f [] i x = refl
map-set f (y ∷ xs) zero x = refl
map-set f (y ∷ xs) (suc i) x = ap (λ l. f y ∷ l) (map-set f xs i x)

get-map : {A B : Type 0} (f : A → B) (xs : List A) (i : ℕ) (x : A) → i < length xs → x ≡ get_or xs i x → slice_get (map f xs) i ≡ Some (f x)
get-map f [] i x l e = absurd (omega arith)
get-map f (y ∷ xs) zero x l e = ap (λ z. Some (f z)) (sym e)
get-map f (y ∷ xs) (suc i) x l e = get-map f xs i x (omega arith) e

-- a use of a slot of the table
pub noted : {A : Type 0} (f : A → Tally) (ts : List A) (u : Use) (s : ℕ) (x y : A) → s ≡ slot_of u → s < length ts → x ≡ get_or ts s x → f y ≡ raised u (f x) → map f (slice_set ts s y) ≡ tallied_one (map f ts) u
noted f ts u s x y same l e r =
    map-set f ts s y ∙ (ap (slice_set (map f ts) s) r ∙ (ap (λ k. slice_set (map f ts) k (raised u (f x))) same ∙ sym (ap (tallied_at (map f ts) u) (ap (slice_get (map f ts)) (sym same) ∙ get-map f ts s x l e))))

pub tallied-append : (ts : List Tally) (us vs : List Use) → tallied ts (us ++ vs) ≡ tallied (tallied ts us) vs
tallied-append ts [] vs = refl
tallied-append ts (u ∷ us) vs = tallied-append (tallied_one ts u) us vs

pub tallied_form : (ts ts' ts'' : List Tally) (us vs : List Use) (u : Use) → ts' ≡ tallied ts us → u ∷ [] ≡ vs → ts'' ≡ tallied_one ts' u → ts'' ≡ tallied ts (us ++ vs)
tallied_form ts ts' ts'' us vs u e f g = g ∙ (ap (λ t. tallied t (u ∷ [])) e ∙ (ap (tallied (tallied ts us)) f ∙ sym (tallied-append ts us vs)))

-- the uses of the next line
pub tallied_next : {A : Type 0} (f : A → Facts) (xs : List A) (i : ℕ) (x : A) (ts ts' whole : List Tally) → i < length xs → x ≡ get_or xs i x → tallied ts (flat_map uses_of (map f (drop i xs))) ≡ whole → ts' ≡ tallied ts (uses_of (f x)) → tallied ts' (flat_map uses_of (map f (drop (i + 1) xs))) ≡ whole
tallied_next f xs i x ts ts' whole l is e t =
    let s : drop i xs ≡ x ∷ drop (i + 1) xs = drop_more xs i x l ∙ ap (λ y. y ∷ drop (i + 1) xs) (sym is) in
    ap (λ u. tallied u (flat_map uses_of (map f (drop (i + 1) xs)))) t ∙ (sym (tallied-append ts (uses_of (f x)) (flat_map uses_of (map f (drop (i + 1) xs)))) ∙ (sym (ap (λ l'. tallied ts (flat_map uses_of (map f l'))) s) ∙ e))

map-push : {A B : Type 0} (f : A → B) (xs : List A) (x : A) → map f (xs ++ x ∷ []) ≡ map f xs ++ f x ∷ []
map-push f [] x = refl
map-push f (y ∷ xs) x = ap (λ l. f y ∷ l) (map-push f xs x)

one_more : (n : ℕ) → no_tallies n ++ record { used = false; equals = 0 } ∷ [] ≡ no_tallies (suc n)
one_more zero = refl
one_more (suc n) = ap (λ l. record { used = false; equals = 0 } ∷ l) (one_more n)

-- one slot more without a use
pub blank_more : {A : Type 0} (f : A → Tally) (xs ys : List A) (x : A) (n : ℕ) → map f xs ≡ no_tallies n → ys ≡ xs ++ x ∷ [] → f x ≡ record { used = false; equals = 0 } → map f ys ≡ no_tallies (n + 1)
blank_more f xs ys x n e p h = ap (map f) p ∙ (map-push f xs x ∙ (ap (λ l. l ++ f x ∷ []) e ∙ (ap (λ t. no_tallies n ++ t ∷ []) h ∙ (one_more n ∙ ap no_tallies (sym (add-one n))))))
