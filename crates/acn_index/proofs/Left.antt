-- What is left of a list without one of its items, and the places of a world as such a list.
use Rattle.std.proofs.Common.{◌≡◌, ℕ, zero, suc, ◌+◌, ◌<◌, List, [], ◌∷◌, ◌++◌, length, map, Option, Some, None, refl, sym, ap, subst, ◌∙◌, arith, inl, inr, ◌⊎◌, length-append}
use Rattle.std.specs.Prelude.{slice_get, flat_map, option_and_then}
use Rattle.std.specs.List.{enumerate_from}
use Rattle.acn_asn_syntax.specs.Mirror.{AsnModule, Assign}
use Rattle.acn_index.specs.World.{World, place, assignment, module_places, places, count}
use Rattle.acn_graph.specs.Graph.{Among, here, there}
use Rattle.acn_index.specs.declared.sources.TypeId.{TypeId}

kept : {A : Type 0} {x z y : A} {xs ys : List A} → ((u : A) → Among u xs → (u ≡ x) ⊎ Among u ys) → Among y (z ∷ xs) → (y ≡ x) ⊎ Among y (z ∷ ys)
kept f here = inr here
kept f (there {x = y} i) = elim (f y i) [ inl e ↦ inl e | inr j ↦ inr (there j) ]

first_or_later : {A : Type 0} {y z : A} {xs : List A} → Among y (z ∷ xs) → (y ≡ z) ⊎ Among y xs
first_or_later here = inl refl
first_or_later (there i) = inr i

pub without : {A : Type 0} {x : A} (xs : List A) → Among x xs → (ys : List A) × (length xs ≡ suc (length ys)) × ((y : A) → Among y xs → (y ≡ x) ⊎ Among y ys)
without [] i = absurd (elim i [ ])
without (z ∷ xs) here = (xs, refl, λ y j. first_or_later j)
without (z ∷ xs) (there i) = let h = without xs i in (z ∷ h.0, ap suc h.1, λ y j. kept h.2 j)

-- ---- the numbers below a count

abbrev pub below : ℕ → List ℕ
below zero = []
below (suc n) = n ∷ below n

pub below_count : (n : ℕ) → length (below n) ≡ n
below_count zero = refl
below_count (suc n) = ap suc (below_count n)

last_or_lower : (n k : ℕ) → k < suc n → (k ≡ n) ⊎ (k < n)
last_or_lower zero zero lt = inl refl
last_or_lower zero (suc k) lt = absurd (omega arith)
last_or_lower (suc n) zero lt = inr (omega arith)
last_or_lower (suc n) (suc k) lt = elim (last_or_lower n k (omega arith)) [ inl e ↦ inl (ap suc e) | inr l ↦ inr (omega (arith, l)) ]

pub is_below : (n k : ℕ) → k < n → Among k (below n)
is_below zero k lt = absurd (omega arith)
is_below (suc n) k lt = elim (last_or_lower n k lt) [ inl e ↦ subst (λ (z : ℕ). Among z (n ∷ below n)) (sym e) here | inr l ↦ there (is_below n k l) ]

-- ---- places

pub in_front : {A : Type 0} {x : A} {xs : List A} (ys : List A) → Among x xs → Among x (xs ++ ys)
in_front ys here = here
in_front ys (there i) = there (in_front ys i)

pub in_back : {A : Type 0} {y : A} {ys : List A} (xs : List A) → Among y ys → Among y (xs ++ ys)
in_back [] i = i
in_back (x ∷ xs) i = there (in_back xs i)

pub mapped_in : {A B : Type 0} (f : A → B) {x : A} {xs : List A} → Among x xs → Among (f x) (map f xs)
mapped_in f here = here
mapped_in f (there i) = there (mapped_in f i)

item_in : (j i : ℕ) (items : List Assign) (n : ℕ) (a : Assign) → slice_get items n ≡ Some a → Among (place j (i + n)) (map (λ (a : ℕ × Assign). place j a.0) (enumerate_from i items))
item_in j i [] n a e = absurd (cc e)
item_in j i (x ∷ items) zero a e = let same : i ≡ i + zero = omega arith in subst (λ (n : ℕ). Among (place j n) (place j i ∷ map (λ (a : ℕ × Assign). place j a.0) (enumerate_from (i + 1) items))) same here
item_in j i (x ∷ items) (suc n) a e =
    let same : (i + 1) + n ≡ i + suc n = omega arith in
    subst (λ (m : ℕ). Among (place j m) (place j i ∷ map (λ (a : ℕ × Assign). place j a.0) (enumerate_from (i + 1) items))) same (there (item_in j (i + 1) items n a e))

module_in : (ms : List AsnModule) (j k i : ℕ) (m : AsnModule) (a : Assign) → slice_get ms k ≡ Some m → slice_get m.items i ≡ Some a → Among (place (j + k) i) (flat_map module_places (enumerate_from j ms))
module_in [] j k i m a e f = absurd (cc e)
module_in (x ∷ ms) j zero i m a e f =
    let same : m ≡ x = cc (sym e) in
    let at : j ≡ j + zero = omega arith in
    let inside = item_in j 0 x.items i a (ap (λ (y : AsnModule). slice_get y.items i) (sym same) ∙ f) in
    let nth : 0 + i ≡ i = omega arith in
    subst (λ (n : ℕ). Among (place n i) (module_places (j, x) ++ flat_map module_places (enumerate_from (j + 1) ms))) at
    (subst (λ (n : ℕ). Among (place j n) (module_places (j, x) ++ flat_map module_places (enumerate_from (j + 1) ms))) nth (in_front (flat_map module_places (enumerate_from (j + 1) ms)) inside))
module_in (x ∷ ms) j (suc k) i m a e f =
    let same : (j + 1) + k ≡ j + suc k = omega arith in
    subst (λ (n : ℕ). Among (place n i) (module_places (j, x) ++ flat_map module_places (enumerate_from (j + 1) ms))) same (in_back (module_places (j, x)) (module_in ms (j + 1) k i m a e f))

in_some : (p : TypeId) (a : Assign) (ms : List AsnModule) (o : Option AsnModule) → slice_get ms p.module ≡ o → option_and_then (λ (m : AsnModule). slice_get m.items p.item) o ≡ Some a → Among p (flat_map module_places (enumerate_from 0 ms))
in_some p a ms None e f = absurd (cc f)
in_some p a ms (Some m) e f =
    let same : 0 + p.module ≡ p.module = omega arith in
    subst (λ (n : ℕ). Among (place n p.item) (flat_map module_places (enumerate_from 0 ms))) same (module_in ms 0 p.module p.item m a e f)

pub is_placed : (w : World) (p : TypeId) (a : Assign) → assignment w p ≡ Some a → Among p (places w)
unfolding assignment places
is_placed w p a e = in_some p a w.modules (slice_get w.modules p.module) refl e

item_count : (j i : ℕ) (items : List Assign) → length (map (λ (a : ℕ × Assign). place j a.0) (enumerate_from i items)) ≡ length items
item_count j i [] = refl
item_count j i (a ∷ items) = ap suc (item_count j (i + 1) items)

place_count : (j : ℕ) (ms : List AsnModule) → length (flat_map module_places (enumerate_from j ms)) ≡ length (flat_map (λ (m : AsnModule). m.items) ms)
place_count j [] = refl
place_count j (m ∷ ms) =
    let front = length-append (module_places (j, m)) (flat_map module_places (enumerate_from (j + 1) ms)) in
    let whole = length-append m.items (flat_map (λ (x : AsnModule). x.items) ms) in
    let own = item_count j 0 m.items in
    let rest = place_count (j + 1) ms in
    omega arith

-- as many as there are assignments
pub every_place : (w : World) → length (places w) ≡ count w
unfolding places count
every_place w = place_count 0 w.modules
