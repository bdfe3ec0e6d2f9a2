-- The first of a list, found part by part.
use Rattle.std.proofs.Common.{◌≡◌, true, false, List, [], ◌∷◌, ◌++◌, Option, Some, None, is_some, refl}
use Rattle.std.specs.Prelude.{map, option_map}
use Rattle.std.specs.Option.{option_or}
use Rattle.acn_world.specs.Faults.{first}

pub first_append : {A : Type 0} (xs ys : List A) → first (xs ++ ys) ≡ option_or (first xs) (first ys)
first_append [] ys = refl
first_append (x ∷ xs) ys = refl

pub first_mapped : {A B : Type 0} (f : A → B) (xs : List A) → first (map f xs) ≡ option_map f (first xs)
first_mapped f [] = refl
first_mapped f (x ∷ xs) = refl

-- what a call found, before what is found behind it
pub mapped_some : {A B : Type 0} (f : A → B) (o : Option A) (p : Option B) → is_some o ≡ true → option_or (option_map f o) p ≡ option_map f o
mapped_some f None p h = absurd cc
mapped_some f (Some x) p h = refl

pub mapped_none : {A B : Type 0} (f : A → B) (o : Option A) (p : Option B) → is_some o ≡ false → option_or (option_map f o) p ≡ p
mapped_none f None p h = refl
mapped_none f (Some x) p h = absurd cc
