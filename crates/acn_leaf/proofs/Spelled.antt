-- Names are the same where their bytes are.
use Rattle.std.proofs.Common.{◌≡◌, ℕ, List, [], ◌∷◌, nat_eq, ◌&&◌, refl, ap}
use Rattle.std.specs.Cmp.Lexicographic.{pointwise}
use Rattle.acn_grammar.specs.Asks.{same_name}

pub same_by_byte : (xs ys : List ℕ) → pointwise nat_eq xs ys ≡ same_name xs ys
same_by_byte [] [] = refl
same_by_byte [] (y ∷ ys) = refl
same_by_byte (x ∷ xs) [] = refl
same_by_byte (x ∷ xs) (y ∷ ys) = ap (λ b. nat_eq x y && b) (same_by_byte xs ys)
