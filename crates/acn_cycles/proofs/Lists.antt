-- Lists by places.
use Rattle.std.proofs.Common.{◌≡◌, ℕ, zero, suc, ◌+◌, ◌<◌, Bool, true, false, List, [], ◌∷◌, ◌++◌, length, get_or, take, drop, map, refl, ap, arith, inl, inr, ◌⊎◌}
use Rattle.std.specs.Prelude.{Option, Some, None, slice_get, filter_map, cond}
use Rattle.std.specs.List.{position_from, cons_option}
use Rattle.acn_graph.specs.Graph.{Among, here, there}
use Rattle.acn_graph.specs.Graph as graph

pub nothing_within : {A : Type 0} {x : A} → Among x [] → ⊥
nothing_within inside = elim inside [ ]

pub got_left : {A : Type 0} (xs ys : List A) (n : ℕ) (x : A) → slice_get xs n ≡ Some x → slice_get (xs ++ ys) n ≡ Some x
got_left [] ys n x e = absurd (cc e)
got_left (z ∷ xs) ys zero x e = e
got_left (z ∷ xs) ys (suc n) x e = got_left xs ys n x e

pub got_right : {A : Type 0} (xs ys : List A) (n m : ℕ) → m ≡ length xs + n → slice_get (xs ++ ys) m ≡ slice_get ys n
got_right [] ys n m e = let same : m ≡ n = omega arith in ap (slice_get ys) same
got_right (z ∷ xs) ys n zero e = absurd (omega arith)
got_right (z ∷ xs) ys n (suc m) e = got_right xs ys n m (omega arith)

-- what an append has stands left, or right by so many fewer
pub got_either : {A : Type 0} (xs ys : List A) (n : ℕ) (x : A) → slice_get (xs ++ ys) n ≡ Some x
    → (slice_get xs n ≡ Some x) ⊎ ((r : ℕ) × (n ≡ length xs + r) × (slice_get ys r ≡ Some x))
got_either [] ys n x e = inr (n, omega arith, e)
got_either (z ∷ xs) ys zero x e = inl e
got_either (z ∷ xs) ys (suc n) x e = elim (got_either xs ys n x e) [
  | inl h ↦ inl h
  | inr h ↦ inr (h.0, (let a = h.1 in omega arith), h.2)
]

pub got_row : {A : Type 0} (f : A → List ℕ) (xs : List A) (n : ℕ) (x : A) → slice_get xs n ≡ Some x → get_or (map f xs) n [] ≡ f x
got_row f [] n x e = absurd (cc e)
got_row f (z ∷ xs) zero x e = let same : z ≡ x = cc e in ap f same
got_row f (z ∷ xs) (suc n) x e = got_row f xs n x e

-- what leads anywhere stands for an item
pub row_got : {A : Type 0} (f : A → List ℕ) (xs : List A) (n : ℕ) {t : ℕ} → graph.Among t (get_or (map f xs) n []) → (x : A) × (slice_get xs n ≡ Some x)
row_got f [] n i = absurd (elim i [ ])
row_got f (z ∷ xs) zero i = (z, refl)
row_got f (z ∷ xs) (suc n) i = row_got f xs n i

pub got_within : {A : Type 0} (xs : List A) (n : ℕ) → n < length xs → (x : A) × (slice_get xs n ≡ Some x)
got_within [] n lt = absurd (omega arith)
got_within (z ∷ xs) zero lt = (z, refl)
got_within (z ∷ xs) (suc n) lt = got_within xs n (omega arith)

pub map_among : {A : Type 0} (f : A → ℕ) (xs : List A) {n : ℕ} → graph.Among n (map f xs) → (x : A) × Among x xs × (f x ≡ n)
map_among f [] i = absurd (elim i [ ])
map_among f (x ∷ xs) graph.here = (x, here, refl)
map_among f (x ∷ xs) (graph.there i) = let h = map_among f xs i in (h.0, there h.1, h.2)

-- ---- parts

pub split_at : {A : Type 0} (xs : List A) (n : ℕ) (x : A) → slice_get xs n ≡ Some x → xs ≡ take n xs ++ x ∷ drop (suc n) xs
split_at [] n x e = absurd (cc e)
split_at (z ∷ xs) zero x e = let same : z ≡ x = cc e in ap (λ (y : _). y ∷ xs) same
split_at (z ∷ xs) (suc n) x e = ap (λ (ys : List _). z ∷ ys) (split_at xs n x e)

pub within_front : {A : Type 0} (xs : List A) (n : ℕ) {x : A} → Among x (take n xs) → (k : ℕ) × (k < n) × (slice_get xs k ≡ Some x)
within_front [] zero i = absurd (nothing_within i)
within_front [] (suc n) i = absurd (nothing_within i)
within_front (z ∷ xs) zero i = absurd (nothing_within i)
within_front (z ∷ xs) (suc n) here = (zero, omega arith, refl)
within_front (z ∷ xs) (suc n) (there i) = let h = within_front xs n i in (suc h.0, (let a = h.1 in omega arith), h.2)

-- ---- searches

chosen_or_rest : {B : Type 0} (o : Option B) (ys : List B) {y : B} → Among y (cons_option o ys) → (o ≡ Some y) ⊎ Among y ys
chosen_or_rest None ys i = inr i
chosen_or_rest (Some z) ys here = inl refl
chosen_or_rest (Some z) ys (there i) = inr i

pub chosen : {A B : Type 0} (h : A → Option B) (xs : List A) {y : B} → Among y (filter_map h xs) → (x : A) × (h x ≡ Some y)
chosen h [] i = absurd (nothing_within i)
chosen h (x ∷ xs) i = elim (chosen_or_rest (h x) (filter_map h xs) i) [ inl e ↦ (x, e) | inr j ↦ chosen h xs j ]

now_or_later : (b : Bool) (s i : ℕ) (o : Option ℕ) → cond b (Some s) o ≡ Some i → (i ≡ s) ⊎ (o ≡ Some i)
now_or_later true s i o e = inl (cc e)
now_or_later false s i o e = inr e

pub position_within : {A : Type 0} (test : A → Bool) (s : ℕ) (xs : List A) (i : ℕ) → position_from test s xs ≡ Some i → (r : ℕ) × (i ≡ s + r) × (r < length xs)
position_within test s [] i e = absurd (cc e)
position_within test s (x ∷ xs) i e = elim (now_or_later (test x) s i (position_from test (s + 1) xs) e) [
  | inl h ↦ (zero, omega arith, omega arith)
  | inr t ↦ let h = position_within test (s + 1) xs i t in (suc h.0, (let a = h.1 in omega arith), (let b = h.2 in omega arith))
]
