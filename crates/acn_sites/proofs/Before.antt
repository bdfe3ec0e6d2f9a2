-- The end of a comparison of places.
use Rattle.std.proofs.Common.{◌≡◌, ℕ, zero, suc, ◌≤◌, nat_lt, false, [], ◌∷◌, length, drop, drop_of_length-le, refl, sym, ap, ◌∙◌, arith}
use Rattle.std.proofs.lemmas.Bool.Decides.{nat_tests}
use Rattle.acn_sites.specs.Places.{Place, is_before}

before_nothing : (p : Place) → false ≡ is_before p []
before_nothing [] = refl
before_nothing (a ∷ p) = refl

-- the second ends first
pub second_ends : (a b : Place) (i : ℕ) → length b ≤ i → false ≡ is_before (drop i a) (drop i b)
second_ends a b i h = before_nothing (drop i a) ∙ ap (is_before (drop i a)) (sym (drop_of_length-le b h))

longer : (n : ℕ) (b : Place) → nat_lt n (length b) ≡ is_before [] (drop n b)
longer zero [] = refl
longer (suc n) [] = grind (arith, nat_tests)
longer zero (x ∷ b) = grind (arith, nat_tests)
longer (suc n) (x ∷ b) = step n (length b) ∙ longer n b
  where
    step : (n m : ℕ) → nat_lt (suc n) (suc m) ≡ nat_lt n m
    step n m = grind (arith, nat_tests)

-- the first ends
pub first_ends : (a b : Place) (i : ℕ) → length a ≤ i → i ≤ length a → nat_lt (length a) (length b) ≡ is_before (drop i a) (drop i b)
first_ends a b i h k =
    longer (length a) b ∙ (ap (λ n. is_before [] (drop n b)) (omega arith) ∙ ap (λ p. is_before p (drop i b)) (sym (drop_of_length-le a h)))
