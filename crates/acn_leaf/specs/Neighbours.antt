-- Neighbours in a list that don't pass a test of sameness. (This profile's own.)
use Rattle.std.specs.Prelude.{Bool, true, false, not, ◌&&◌, List, [], ◌∷◌}

-- the first of the list is the same
abbrev pub is_next : {A : Type 0} → (A → A → Bool) → A → List A → Bool
is_next same x [] = false
is_next same x (y ∷ ys) = same x y

abbrev pub neighbours_differ : {A : Type 0} → (A → A → Bool) → List A → Bool
neighbours_differ same [] = true
neighbours_differ same (x ∷ xs) = not (is_next same x xs) && neighbours_differ same xs
