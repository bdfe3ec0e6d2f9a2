-- The entries of a map as names with numbers.
use Rattle.std.proofs.Common.{◌≡◌, ℤ, Bool, true, false, cond, List, [], ◌∷◌, ◌++◌, Option, Some, None, refl, ap}
use Rattle.std.specs.Prelude.{map, option_map, find}
use Rattle.std.specs.Borrow.{Bor}
use Rattle.std.specs.Map.{lookup}
use Rattle.std.specs.Ordering.{int_eq}
use Rattle.acn_num.specs.Names.{Name}
use Rattle.acn_written.specs.Items.{Numbered}
use Rattle.acn_enum_values.specs.EnumValues.{with_number}
use Rattle.acn_enum_values.specs.Keyed.{keyed_view}

there : (b : Bool) (e : ℤ × Bor Name) (o : Option (Bor Name)) (f : Option Numbered) → option_map (λ (n : Bor Name). n.now) o ≡ option_map (λ (i : Numbered). i.0) f → option_map (λ (n : Bor Name). n.now) (cond b (Some e.1) o) ≡ option_map (λ (i : Numbered). i.0) (cond b (Some (keyed_view e)) f)
there true e o f h = refl
there false e o f h = h

pub looked_up : (x : ℤ) (es : List (ℤ × Bor Name)) → option_map (λ (n : Bor Name). n.now) (lookup (int_eq x) es) ≡ with_number (map keyed_view es) x
looked_up x [] = refl
looked_up x (e ∷ es) = there (int_eq x e.0) e (lookup (int_eq x) es) (find (λ (i : Numbered). int_eq x i.1) (map keyed_view es)) (looked_up x es)

pub one_more : (es : List (ℤ × Bor Name)) (x : ℤ) (n : Bor Name) → map keyed_view (es ++ (x, n) ∷ []) ≡ map keyed_view es ++ (n.now, x) ∷ []
one_more [] x n = refl
one_more (e ∷ es) x n = ap (λ (z : List Numbered). keyed_view e ∷ z) (one_more es x n)

pub none : {A B : Type 0} (f : A → B) (o : Option A) → option_map f o ≡ None → o ≡ None
none f None h = refl
none f (Some x) h = absurd (cc h)
