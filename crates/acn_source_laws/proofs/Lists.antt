-- Parts of a list, and the tests of what is joined.
use Rattle.std.proofs.Common.{◌≡◌, ℕ, zero, suc, ◌≤◌, Bool, true, false, ◌&&◌, List, [], ◌∷◌, ◌++◌, length, Some, refl, subst, ◌⊎◌, inl, inr, arith}
use Rattle.std.specs.Prelude.{slice_get}
use Rattle.acn_graph.specs.Graph.{Among, here, there}

pub and_left : (a b : Bool) → a && b ≡ true → a ≡ true
and_left true b h = refl
and_left false b h = h

pub and_right : (a b : Bool) → a && b ≡ true → b ≡ true
and_right true b h = h
and_right false b h = absurd cc

pub either_part : {A : Type 0} {x : A} (xs : List A) {ys : List A} → Among x (xs ++ ys) → Among x xs ⊎ Among x ys
either_part [] i = inr i
either_part (z ∷ xs) here = inl here
either_part (z ∷ xs) (there i) = elim (either_part xs i) [ inl j ↦ inl (there j) | inr j ↦ inr j ]

module _ {A : Type 0} where
  -- a front, an end and what stands behind one item are no longer than the whole
  pub in_front : (n : ℕ) (xs ys : List A) → n ≤ length xs → n ≤ length (xs ++ ys)
  in_front n [] ys h = omega arith
  in_front zero (x ∷ xs) ys h = omega arith
  in_front (suc n) (x ∷ xs) ys h = let e = in_front n xs ys (omega arith) in omega arith

  pub in_back : (n : ℕ) (xs ys : List A) → n ≤ length ys → n ≤ length (xs ++ ys)
  in_back n [] ys h = h
  in_back n (x ∷ xs) ys h = let e = in_back n xs ys h in omega arith

  pub behind_one : (n : ℕ) (x : A) (xs : List A) → n ≤ length xs → n ≤ length (x ∷ xs)
  behind_one n x xs h = omega arith

pub among_at : {A : Type 0} {x : A} (xs : List A) (k : ℕ) → slice_get xs k ≡ Some x → Among x xs
among_at [] k h = absurd cc
among_at {x = x} (y ∷ xs) zero h = let e : y ≡ x = cc in subst (λ z. Among z (y ∷ xs)) e here
among_at (y ∷ xs) (suc k) h = there (among_at xs k h)
