-- What is one of a list.
use Rattle.std.proofs.Common.{◌≡◌, ◌⊎◌, inl, inr, ℕ, zero, suc, ◌+◌, ◌<◌, ◌≤◌, Bool, true, false, true≢false, ◌||◌, ◌&&◌, cond, List, [], ◌∷◌, ◌++◌, map, filter, filter_map, count_by, Option, Some, None, refl, sym, ap, subst, ◌∙◌, eq-or-lt_of_le, arith}
use Rattle.std.specs.List.{AllByRecursion, list_any, list_all, range_with_len, cons_option}
use Rattle.std.proofs.lemmas.List.Sums.{sum_by-cons}

abbrev pub In : {X : Type 0} → X → List X → Type 0
In x [] = ⊥
In x (y ∷ ys) = (x ≡ y) ⊎ In x ys

pub each_has : {X : Type 0} (P : X → Type 0) (xs : List X) → AllByRecursion P xs → (x : X) → In x xs → P x
each_has P [] h x m = absurd m
each_has P (y ∷ ys) h x (inl e) = subst P (sym e) h.0
each_has P (y ∷ ys) h x (inr m) = each_has P ys h.1 x m

pub all_have : {X : Type 0} (P : X → Type 0) (xs : List X) → ((x : X) → In x xs → P x) → AllByRecursion P xs
all_have P [] f = tt
all_have P (y ∷ ys) f = (f y (inl refl), all_have P ys (λ x m. f x (inr m)))

-- ---- tests

pub some_passes : {X : Type 0} (test : X → Bool) (xs : List X) → list_any test xs ≡ true → (x : X) × In x xs × (test x ≡ true)
some_passes test [] h = absurd (true≢false (sym h))
some_passes {X} test (y ∷ ys) h = by (test y) refl h (some_passes test ys)
  where
    by : (b : Bool) → test y ≡ b → (b || list_any test ys) ≡ true → (list_any test ys ≡ true → (x : X) × In x ys × (test x ≡ true)) → (x : X) × In x (y ∷ ys) × (test x ≡ true)
    by true e g rest = (y, inl refl, e)
    by false e g rest = (let r = rest g in (r.0, inr r.1, r.2))

pub passes : {X : Type 0} (test : X → Bool) (xs : List X) (x : X) → In x xs → test x ≡ true → list_any test xs ≡ true
passes test [] x m h = absurd m
passes test (y ∷ ys) x (inl e) h = ap (λ (b : Bool). b || list_any test ys) (ap test (sym e) ∙ h)
passes test (y ∷ ys) x (inr m) h = by (test y) (passes test ys x m h)
  where
    by : (b : Bool) → list_any test ys ≡ true → (b || list_any test ys) ≡ true
    by true g = refl
    by false g = g

pub none_passes : {X : Type 0} (test : X → Bool) (xs : List X) → ((x : X) → In x xs → test x ≡ true → ⊥) → list_any test xs ≡ false
none_passes test xs f = by (list_any test xs) refl
  where
    by : (b : Bool) → list_any test xs ≡ b → b ≡ false
    by true e = (let r = some_passes test xs e in absurd (f r.0 r.1 r.2))
    by false e = refl

pub all_pass : {X : Type 0} (test : X → Bool) (xs : List X) → ((x : X) → In x xs → test x ≡ true) → list_all test xs ≡ true
all_pass test [] f = refl
all_pass test (y ∷ ys) f = ap (λ (b : Bool). b && list_all test ys) (f y (inl refl)) ∙ all_pass test ys (λ x m. f x (inr m))

pub each_passes : {X : Type 0} (test : X → Bool) (xs : List X) → list_all test xs ≡ true → (x : X) → In x xs → test x ≡ true
each_passes test [] h x m = absurd m
each_passes test (y ∷ ys) h x m = by (test y) refl h m (λ g. each_passes test ys g x)
  where
    by : (b : Bool) → test y ≡ b → (b && list_all test ys) ≡ true → (x ≡ y) ⊎ In x ys → (list_all test ys ≡ true → In x ys → test x ≡ true) → test x ≡ true
    by true e g (inl s) rest = ap test s ∙ e
    by true e g (inr k) rest = rest g k
    by false e g k rest = absurd (true≢false (sym g))

-- ---- lists made of lists

pub in_front : {X : Type 0} (xs ys : List X) (x : X) → In x xs → In x (xs ++ ys)
in_front [] ys x m = absurd m
in_front (z ∷ xs) ys x (inl e) = inl e
in_front (z ∷ xs) ys x (inr m) = inr (in_front xs ys x m)

pub in_back : {X : Type 0} (xs ys : List X) (x : X) → In x ys → In x (xs ++ ys)
in_back [] ys x m = m
in_back (z ∷ xs) ys x m = inr (in_back xs ys x m)

in_either : {X : Type 0} (xs ys : List X) (x : X) → In x (xs ++ ys) → In x xs ⊎ In x ys
in_either [] ys x m = inr m
in_either (z ∷ xs) ys x (inl e) = inl (inl e)
in_either {X} (z ∷ xs) ys x (inr m) = by (in_either xs ys x m)
  where
    by : In x xs ⊎ In x ys → In x (z ∷ xs) ⊎ In x ys
    by (inl k) = inl (inr k)
    by (inr k) = inr k

-- of two lists one behind the other it is in the first or in the second
pub split_in : {X : Type 0} {P : Type 0} (xs ys : List X) (x : X) → In x (xs ++ ys) → (In x xs → P) → (In x ys → P) → P
split_in {X} {P} xs ys x m f g = by (in_either xs ys x m)
  where
    by : In x xs ⊎ In x ys → P
    by (inl k) = f k
    by (inr k) = g k

-- the only one of a list
pub first_is : {X : Type 0} {P : Type 0} (y x : X) → In x (y ∷ []) → (x ≡ y → P) → P
first_is y x (inl e) f = f e
first_is y x (inr m) f = absurd m

pub is_kept : {X : Type 0} (test : X → Bool) (xs : List X) (x : X) → In x xs → test x ≡ true → In x (filter test xs)
is_kept test [] x m h = absurd m
is_kept {X} test (y ∷ ys) x (inl e) h = subst (λ (b : Bool). In x (cond b (y ∷ filter test ys) (filter test ys))) (sym h ∙ ap test e) (inl e)
is_kept {X} test (y ∷ ys) x (inr m) h = by (test y) (is_kept test ys x m h)
  where
    by : (b : Bool) → In x (filter test ys) → In x (cond b (y ∷ filter test ys) (filter test ys))
    by true k = inr k
    by false k = k

pub was_kept : {X : Type 0} (test : X → Bool) (xs : List X) (x : X) → In x (filter test xs) → In x xs × (test x ≡ true)
was_kept test [] x m = absurd m
was_kept {X} test (y ∷ ys) x m = by (test y) refl m (was_kept test ys x)
  where
    by : (b : Bool) → test y ≡ b → In x (cond b (y ∷ filter test ys) (filter test ys)) → (In x (filter test ys) → In x ys × (test x ≡ true)) → In x (y ∷ ys) × (test x ≡ true)
    by true e (inl s) rest = (inl s, ap test s ∙ e)
    by true e (inr k) rest = (let r = rest k in (inr r.0, r.1))
    by false e k rest = (let r = rest k in (inr r.0, r.1))

pub was_mapped : {X Y : Type 0} (f : X → Y) (xs : List X) (y : Y) → In y (map f xs) → (x : X) × In x xs × (y ≡ f x)
was_mapped f [] y m = absurd m
was_mapped f (x ∷ xs) y (inl e) = (x, inl refl, e)
was_mapped f (x ∷ xs) y (inr m) = (let r = was_mapped f xs y m in (r.0, inr r.1, r.2))

pub is_mapped : {X Y : Type 0} (f : X → Y) (xs : List X) (x : X) → In x xs → In (f x) (map f xs)
is_mapped f [] x m = absurd m
is_mapped f (y ∷ xs) x (inl e) = inl (ap f e)
is_mapped f (y ∷ xs) x (inr m) = inr (is_mapped f xs x m)

-- what is given by an item
pub was_given : {X Y : Type 0} (f : X → Option Y) (xs : List X) (y : Y) → In y (filter_map f xs) → (x : X) × In x xs × (f x ≡ Some y)
was_given f [] y m = absurd m
was_given {X} {Y} f (x ∷ xs) y m = by (f x) refl m (was_given f xs y)
  where
    by : (o : Option Y) → f x ≡ o → In y (cons_option o (filter_map f xs)) → (In y (filter_map f xs) → (z : X) × In z xs × (f z ≡ Some y)) → (z : X) × In z (x ∷ xs) × (f z ≡ Some y)
    by None e k rest = (let r = rest k in (r.0, inr r.1, r.2))
    by (Some w) e (inl s) rest = (x, inl refl, e ∙ ap (λ (v : Y). Some v) (sym s))
    by (Some w) e (inr k) rest = (let r = rest k in (r.0, inr r.1, r.2))

pub in_range : (a n k : ℕ) → a ≤ k → k < a + n → In k (range_with_len a n)
in_range a zero k l h = absurd (omega (arith, l, h))
in_range a (suc n) k l h = by (eq-or-lt_of_le l) (λ g. in_range (a + 1) n k (omega (arith, g)) (omega (arith, h)))
  where
    by : (a ≡ k) ⊎ (a < k) → (a < k → In k (range_with_len (a + 1) n)) → In k (range_with_len a (suc n))
    by (inl e) rest = inl (sym e)
    by (inr g) rest = inr (rest g)

-- ---- counts

pub count_cons : {X : Type 0} (test : X → Bool) (x : X) (xs : List X) → count_by test (x ∷ xs) ≡ cond (test x) 1 0 + count_by test xs
count_cons test x xs = sum_by-cons (λ x. cond (test x) 1 0) x xs

one_counted : {X : Type 0} (test : X → Bool) (xs : List X) (x : X) → In x xs → test x ≡ true → 0 < count_by test xs
one_counted test [] x m h = absurd m
one_counted test (y ∷ ys) x (inl e) h = (let c = count_cons test y ys in let s = ap {B = ℕ} (λ (b : Bool). cond b 1 0) (ap test (sym e) ∙ h) in omega (arith, c, s))
one_counted test (y ∷ ys) x (inr m) h = (let c = count_cons test y ys in let r = one_counted test ys x m h in omega (arith, c, r))

pub two_counted : {X : Type 0} (test : X → Bool) (xs : List X) (x z : X) → In x xs → In z xs → (x ≡ z → ⊥) → test x ≡ true → test z ≡ true → 1 < count_by test xs
two_counted test [] x z m k d h g = absurd m
two_counted test (y ∷ ys) x z (inl e) (inl s) d h g = absurd (d (e ∙ sym s))
two_counted test (y ∷ ys) x z (inl e) (inr k) d h g = (let c = count_cons test y ys in let s = ap {B = ℕ} (λ (b : Bool). cond b 1 0) (ap test (sym e) ∙ h) in let r = one_counted test ys z k g in omega (arith, c, s, r))
two_counted test (y ∷ ys) x z (inr m) (inl e) d h g = (let c = count_cons test y ys in let s = ap {B = ℕ} (λ (b : Bool). cond b 1 0) (ap test (sym e) ∙ g) in let r = one_counted test ys x m h in omega (arith, c, s, r))
two_counted test (y ∷ ys) x z (inr m) (inr k) d h g = (let c = count_cons test y ys in let r = two_counted test ys x z m k d h g in omega (arith, c, r))
