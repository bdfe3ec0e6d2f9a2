-- Lists of nodes and of flags.
use Rattle.std.proofs.Common.{◌≡◌, ℕ, zero, suc, ◌<◌, ◌≤◌, Bool, true, false, List, [], ◌∷◌, ◌++◌, length, get_or, refl, ap, subst, arith, nat_eq, nat_lt, inl, inr, ◌⊎◌, set, replicate, ◌||◌, ◌&&◌}
use Rattle.std.proofs.lemmas.Bool.{eqb-true, eq-eqb, ltb-true, or_right, and_parts}
use Rattle.std.specs.List.{list_any}
use Rattle.acn_graph.specs.Graph.{Among, here, there, are_below}

pub none_in_nothing : {A : Type 0} {x : A} → Among x [] → ⊥
none_in_nothing inside = elim inside [ ]

pub among_left : {A : Type 0} {x : A} {xs : List A} (ys : List A) → Among x xs → Among x (xs ++ ys)
among_left ys here = here
among_left ys (there i) = there (among_left ys i)

pub among_right : {A : Type 0} {y : A} {ys : List A} (xs : List A) → Among y ys → Among y (xs ++ ys)
among_right [] i = i
among_right (x ∷ xs) i = there (among_right xs i)

pub among_at : (xs : List ℕ) (k : ℕ) → k < length xs → Among (get_or xs k 0) xs
among_at [] k lt = absurd (omega arith)
among_at (x ∷ xs) zero lt = here
among_at (x ∷ xs) (suc k) lt = there (among_at xs k (omega arith))

pub place_of : {x : ℕ} {xs : List ℕ} → Among x xs → (k : ℕ) × (k < length xs) × (get_or xs k 0 ≡ x)
place_of here = (zero, omega arith, refl)
place_of (there i) = let p = place_of i in (suc p.0, omega (arith, p.1), p.2)

-- a node of a row of one node
pub among_one : {x y : ℕ} → Among x (y ∷ []) → x ≡ y
among_one here = refl
among_one (there i) = absurd (none_in_nothing i)

pub among_first_or_rest : {x y : ℕ} {ys : List ℕ} → Among x (y ∷ ys) → (x ≡ y) ⊎ Among x ys
among_first_or_rest here = inl refl
among_first_or_rest (there i) = inr i

-- ---- tests

or_case : (b c : Bool) → (b || c) ≡ true → (b ≡ true) ⊎ (c ≡ true)
or_case true c e = inl refl
or_case false c e = inr e

pub any_among : (x : ℕ) (xs : List ℕ) → list_any (nat_eq x) xs ≡ true → Among x xs
any_among x [] e = absurd (cc e)
any_among x (y ∷ xs) e = elim (or_case (nat_eq x y) (list_any (nat_eq x) xs) e) [ inl h ↦ subst (λ (z : ℕ). Among x (z ∷ xs)) (eqb-true x y h) here | inr t ↦ there (any_among x xs t) ]

pub among_any : {x : ℕ} {xs : List ℕ} → Among x xs → list_any (nat_eq x) xs ≡ true
among_any (here {x} {xs}) = ap (λ (b : Bool). b || list_any (nat_eq x) xs) (eq-eqb x x refl)
among_any (there {x} {y} {xs} i) = or_right (nat_eq x y) (list_any (nat_eq x) xs) (among_any i)

pub none_among : {x : ℕ} {xs : List ℕ} → list_any (nat_eq x) xs ≡ false → Among x xs → ⊥
none_among e i = let h = among_any i in absurd (cc (e, h))

pub each_below : (ranks : List ℕ) (rank : ℕ) {t : ℕ} {nodes : List ℕ} → are_below ranks rank nodes ≡ true → Among t nodes → get_or ranks t 0 < rank
each_below ranks rank e (here {x} {xs}) = ltb-true (get_or ranks x 0) rank (and_parts (nat_lt (get_or ranks x 0) rank) (are_below ranks rank xs) e).0
each_below ranks rank e (there {x} {y} {xs} i) = each_below ranks rank (and_parts (nat_lt (get_or ranks y 0) rank) (are_below ranks rank xs) e).1 i

pub both_true : (b c : Bool) → (b && c) ≡ true → (b ≡ true) × (c ≡ true)
both_true = and_parts

-- ---- one item more

pub below_or_at : (k n : ℕ) → k < suc n → (k < n) ⊎ (k ≡ n)
below_or_at zero zero lt = inr refl
below_or_at zero (suc n) lt = inl (omega arith)
below_or_at (suc k) zero lt = absurd (omega arith)
below_or_at (suc k) (suc n) lt = elim (below_or_at k n (omega arith)) [ inl h ↦ inl (omega arith) | inr e ↦ inr (omega arith) ]

-- ---- flags

pub marked : List Bool → ℕ
marked [] = 0
marked (true ∷ bs) = suc (marked bs)
marked (false ∷ bs) = marked bs

pub marked-le : (bs : List Bool) → marked bs ≤ length bs
unfolding marked
marked-le [] = omega arith
marked-le (true ∷ bs) = let h = marked-le bs in omega arith
marked-le (false ∷ bs) = let h = marked-le bs in omega arith

pub marked-set : (bs : List Bool) (k : ℕ) → get_or bs k true ≡ false → marked (set bs k true) ≡ suc (marked bs)
unfolding marked
marked-set [] k e = absurd (cc e)
marked-set (true ∷ bs) zero e = absurd (cc e)
marked-set (false ∷ bs) zero e = refl
marked-set (true ∷ bs) (suc k) e = ap suc (marked-set bs k e)
marked-set (false ∷ bs) (suc k) e = marked-set bs k e

pub marked-none : (n : ℕ) → marked (replicate n false) ≡ 0
unfolding marked
marked-none zero = refl
marked-none (suc n) = marked-none n

pub unmarked : (n t : ℕ) → t < n → get_or (replicate n false) t true ≡ false
unmarked zero t lt = absurd (omega arith)
unmarked (suc n) zero lt = refl
unmarked (suc n) (suc t) lt = unmarked n t (omega arith)

pub flag_within : (bs : List Bool) (k : ℕ) → get_or bs k true ≡ false → k < length bs
flag_within [] k e = absurd (cc e)
flag_within (b ∷ bs) zero e = omega arith
flag_within (b ∷ bs) (suc k) e = let h = flag_within bs k e in omega arith

-- a flag that stands was set now or stood before
pub set_or_stood : (bs : List Bool) (k t : ℕ) → get_or (set bs k true) t true ≡ true → (t ≡ k) ⊎ (get_or bs t true ≡ true)
set_or_stood [] k t e = inr e
set_or_stood (b ∷ bs) zero zero e = inl refl
set_or_stood (b ∷ bs) zero (suc t) e = inr e
set_or_stood (b ∷ bs) (suc k) zero e = inr e
set_or_stood (b ∷ bs) (suc k) (suc t) e = elim (set_or_stood bs k t e) [ inl h ↦ inl (ap suc h) | inr h ↦ inr h ]
