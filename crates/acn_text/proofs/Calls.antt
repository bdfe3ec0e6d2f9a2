-- Calls one behind the other.
use Rattle.std.proofs.Common.{List, [], ◌∷◌, ◌++◌, sym, subst}
use Rattle.std.specs.List.{FoldsTo}

pub folds_append : {P A : Type 0} (R : P → A → P → Type 0) (p : P) (xs : List A) (q : P) (ys : List A) (r : P) → FoldsTo R p xs q → FoldsTo R q ys r → FoldsTo R p (xs ++ ys) r
folds_append {P} R p [] q ys r f g = subst (λ (s : P). FoldsTo R s ys r) (sym f) g
folds_append R p (x ∷ xs) q ys r f g = (f.0, f.1, folds_append R f.0 xs q ys r f.2 g)
