-- What it takes that something is there.
use Rattle.std.proofs.Common.{◌≡◌, inl, inr, Bool, true, false, cond, List, [], ◌∷◌, filter_map, find, Option, Some, None, option_map, option_and_then, refl, sym, ap, ◌∙◌}
use Rattle.std.specs.List.{cons_option}
use Rattle.acn_home_laws.proofs.Members.{In}

pub same_some : {A : Type 0} (a b : A) → Some a ≡ Some b → a ≡ b
same_some a b h = cc h

pub then_some : {A B : Type 0} (f : A → Option B) (o : Option A) (y : B) → option_and_then f o ≡ Some y → (x : A) × (o ≡ Some x) × (f x ≡ Some y)
then_some f None y h = absurd (cc h)
then_some f (Some x) y h = (x, refl, h)

pub map_some : {A B : Type 0} (f : A → B) (o : Option A) (y : B) → option_map f o ≡ Some y → (x : A) × (o ≡ Some x) × (f x ≡ y)
map_some f None y h = absurd (cc h)
map_some f (Some x) y h = (x, refl, same_some (f x) y h)

pub found_in : {X : Type 0} (test : X → Bool) (xs : List X) (x : X) → find test xs ≡ Some x → In x xs
found_in test [] x h = absurd (cc h)
found_in {X} test (y ∷ ys) x h = by (test y) h (found_in test ys x)
  where
    by : (b : Bool) → cond b (Some y) (find test ys) ≡ Some x → (find test ys ≡ Some x → In x ys) → In x (y ∷ ys)
    by true g rest = inl (sym (same_some y x g))
    by false g rest = inr (rest g)

pub is_given : {X Y : Type 0} (f : X → Option Y) (xs : List X) (x : X) (y : Y) → In x xs → f x ≡ Some y → In y (filter_map f xs)
is_given f [] x y m h = absurd m
is_given {X} {Y} f (z ∷ xs) x y (inl e) h = by (f z) (ap f (sym e) ∙ h)
  where
    by : (o : Option Y) → o ≡ Some y → In y (cons_option o (filter_map f xs))
    by None g = absurd (cc g)
    by (Some v) g = inl (sym (same_some v y g))
is_given {X} {Y} f (z ∷ xs) x y (inr m) h = by (f z) (is_given f xs x y m h)
  where
    by : (o : Option Y) → In y (filter_map f xs) → In y (cons_option o (filter_map f xs))
    by None k = k
    by (Some v) k = inr k
