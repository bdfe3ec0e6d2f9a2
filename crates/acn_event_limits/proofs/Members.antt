-- Items of lists; and a list with no item twice is no longer than one that has all its items.
use Rattle.std.proofs.Common.{◌≡◌, ℕ, zero, suc, ◌≤◌, ℤ, Bool, true, false, ◌&&◌, List, [], ◌∷◌, ◌++◌, length, map, Some, nat_eq, refl, sym, ap, ◌∙◌, subst, arith, inl, inr, ◌⊎◌}
use Rattle.std.specs.Prelude.{int_le, slice_get}
use Rattle.std.specs.List.{AllByRecursion, flat_map}
use Rattle.std.proofs.lemmas.Bool.{or_left, or_right, eqb-true}
use Rattle.acn_num.specs.Ranges.{among}
use Rattle.acn_fill.specs.Table.{NoneTwice, NoSlotTwice}
use Rattle.acn_grammar.specs.Tree.{holds}
use Rattle.acn_grammar.proofs.SlotLists.{same_eq}
use Rattle.acn_grammar.proofs.WholeTests.{either, le_self}

abbrev pub Member : {A : Type 0} → A → List A → Type 0
Member x [] = ⊥
Member x (y ∷ ys) = (y ≡ x) ⊎ Member x ys

pub member_left : {A : Type 0} (x : A) (xs ys : List A) → Member x xs → Member x (xs ++ ys)
member_left x [] ys h = absurd h
member_left x (y ∷ xs) ys (inl e) = inl e
member_left x (y ∷ xs) ys (inr h) = inr (member_left x xs ys h)

pub member_right : {A : Type 0} (x : A) (xs ys : List A) → Member x ys → Member x (xs ++ ys)
member_right x [] ys h = h
member_right x (y ∷ xs) ys h = inr (member_right x xs ys h)

pub member_map : {A B : Type 0} (f : A → B) (x : A) (xs : List A) → Member x xs → Member (f x) (map f xs)
member_map f x [] h = absurd h
member_map f x (y ∷ xs) (inl e) = inl (ap f e)
member_map f x (y ∷ xs) (inr h) = inr (member_map f x xs h)

pub member_flat : {A B : Type 0} (f : A → List B) (x : A) (y : B) (xs : List A) → Member x xs → Member y (f x) → Member y (flat_map f xs)
member_flat f x y [] m h = absurd m
member_flat f x y (z ∷ xs) (inl e) h = member_left y (f z) (flat_map f xs) (subst (λ w. Member y (f w)) (sym e) h)
member_flat f x y (z ∷ xs) (inr m) h = member_right y (f z) (flat_map f xs) (member_flat f x y xs m h)

pub place_of : {A : Type 0} (x : A) (xs : List A) → Member x xs → (k : ℕ) × (slice_get xs k ≡ Some x)
place_of x [] h = absurd h
place_of x (y ∷ ys) (inl e) = (zero, ap Some e)
place_of x (y ∷ ys) (inr h) = let r = place_of x ys h in (suc r.0, r.1)

-- what holds of each item of two lists
pub each_of_both : {A : Type 0} (P : A → Type 0) (xs ys : List A) → AllByRecursion P xs → AllByRecursion P ys → AllByRecursion P (xs ++ ys)
each_of_both P [] ys f g = g
each_of_both P (x ∷ xs) ys f g = (f.0, each_of_both P xs ys f.1 g)

-- Lists with no item twice.

abbrev pub Differ : {A : Type 0} → List A → Type 0
Differ [] = Unit {0}
Differ (x ∷ xs) = (Member x xs → ⊥) × Differ xs

-- a list without one of its items
record Without {A : Type 0} (x : A) (ys : List A) : Type 0 where
  pub rest : List A
  pub shorter : suc (length rest) ≡ length ys
  pub others : (z : A) → (x ≡ z → ⊥) → Member z ys → Member z rest

without : {A : Type 0} (x : A) (ys : List A) → Member x ys → Without x ys
without {A} x [] h = absurd h
without {A} x (y ∷ ys) (inl e) = record { rest = ys; shorter = refl; others = others }
  where
    others : (z : A) → (x ≡ z → ⊥) → Member z (y ∷ ys) → Member z ys
    others z n (inl q) = absurd (n (sym e ∙ q))
    others z n (inr q) = q
without {A} x (y ∷ ys) (inr h) = record { rest = y ∷ (without x ys h).rest; shorter = ap suc (without x ys h).shorter; others = others (without x ys h) }
  where
    others : (w : Without x ys) (z : A) → (x ≡ z → ⊥) → Member z (y ∷ ys) → Member z (y ∷ w.rest)
    others w z n (inl q) = inl q
    others w z n (inr q) = inr (w.others z n q)

pub no_longer : {A : Type 0} (xs ys : List A) → Differ xs → ((x : A) → Member x xs → Member x ys) → length xs ≤ length ys
no_longer [] ys d h = omega arith
no_longer (x ∷ xs) ys d h =
    let w = without x ys (h x (inl refl)) in
    let s = w.shorter in
    let r = no_longer xs w.rest d.1 (λ z m. w.others z (λ e. d.0 (subst (λ u. Member u xs) (sym e) m)) (h z (inr m))) in
    omega (arith, r, s)

-- Slots and numbers.

pub never : (b : Bool) → b ≡ true → b ≡ false → ⊥
never true e f = cc
never false e f = cc

pub holds_member : (ss : List ℕ) (s : ℕ) → holds ss s ≡ true → Member s ss
holds_member [] s h = cc
holds_member (t ∷ ss) s h = either {F = Member s (t ∷ ss)} (nat_eq t s) (holds ss s) h (λ e. inl (eqb-true t s e)) (λ e. inr (holds_member ss s e))

pub member_holds : (ss : List ℕ) (s : ℕ) → Member s ss → holds ss s ≡ true
member_holds [] s h = absurd h
member_holds (t ∷ ss) s (inl e) = or_left (nat_eq t s) (holds ss s) (subst (λ z. nat_eq t z ≡ true) e (same_eq t))
member_holds (t ∷ ss) s (inr h) = or_right (nat_eq t s) (holds ss s) (member_holds ss s h)

pub member_among : (xs : List ℤ) (x : ℤ) → Member x xs → among xs x ≡ true
member_among [] x h = absurd h
member_among (y ∷ xs) x (inl e) = or_left (int_le y x && int_le x y) (among xs x) (subst (λ z. (int_le y z && int_le z y) ≡ true) e (same y))
  where
    same : (z : ℤ) → (int_le z z && int_le z z) ≡ true
    same z = let e = le_self z in cc
member_among (y ∷ xs) x (inr h) = or_right (int_le y x && int_le x y) (among xs x) (member_among xs x h)

pub slots_differ : (ss : List ℕ) → NoSlotTwice ss → Differ ss
slots_differ [] h = tt
slots_differ (s ∷ ss) h = (λ m. never (holds ss s) (member_holds ss s m) h.0, slots_differ ss h.1)

pub numbers_differ : (xs : List ℤ) → NoneTwice xs → Differ xs
numbers_differ [] h = tt
numbers_differ (x ∷ xs) h = (λ m. never (among xs x) (member_among xs x m) h.0, numbers_differ xs h.1)
