-- What holds of each item of a list.
use Rattle.std.proofs.Common.{◌≡◌, ℕ, ◌+◌, Bool, true, false, cond, List, [], ◌∷◌, ◌++◌, map, filter_map, reverse, find, Option, Some, None, refl, sym, subst}
use Rattle.std.specs.Prelude.{option_map, option_and_then, option_to_list}
use Rattle.std.specs.List.{AllByRecursion, flat_map, enumerate_from, cons_option}
use Rattle.std.proofs.lemmas.List.{reverse-append}
use Rattle.acn_graph.specs.Graph.{Among, here, there}

pub append_left : {A : Type 0} (xs ys : List A) → xs ++ ys ≡ [] → xs ≡ []
append_left [] ys h = refl
append_left (x ∷ xs) ys h = cc

pub append_right : {A : Type 0} (xs ys : List A) → xs ++ ys ≡ [] → ys ≡ []
append_right [] ys h = h
append_right (x ∷ xs) ys h = cc

pub map_empty : {A B : Type 0} (f : A → B) (xs : List A) → map f xs ≡ [] → xs ≡ []
map_empty f [] h = refl
map_empty f (x ∷ xs) h = cc

pub chosen : {A B : Type 0} (f : A → Option B) (o : Option A) (y : B) → option_and_then f o ≡ Some y → (x : A) × (f x ≡ Some y)
chosen f None y h = cc
chosen f (Some x) y h = (x, h)

pub mapped : {A B : Type 0} (f : A → B) (o : Option A) (y : B) → option_map f o ≡ Some y → (x : A) × (o ≡ Some x) × (f x ≡ y)
mapped f None y h = cc
mapped f (Some x) y h = (x, refl, cc)

module _ {A : Type 0} (P : A → Type 0) where
  pub all_among : (xs : List A) → ((x : A) → Among x xs → P x) → AllByRecursion P xs
  all_among [] f = tt
  all_among (x ∷ xs) f = (f x here, all_among xs (λ y a. f y (there a)))

  pub among_all : {x : A} {xs : List A} → Among x xs → AllByRecursion P xs → P x
  among_all here h = h.0
  among_all (there a) h = among_all a h.1

  pub all_append : (xs ys : List A) → AllByRecursion P xs → AllByRecursion P ys → AllByRecursion P (xs ++ ys)
  all_append [] ys h k = k
  all_append (x ∷ xs) ys h k = (h.0, all_append xs ys h.1 k)

  pub all_left : (xs ys : List A) → AllByRecursion P (xs ++ ys) → AllByRecursion P xs
  all_left [] ys h = tt
  all_left (x ∷ xs) ys h = (h.0, all_left xs ys h.1)

  pub all_right : (xs ys : List A) → AllByRecursion P (xs ++ ys) → AllByRecursion P ys
  all_right [] ys h = h
  all_right (x ∷ xs) ys h = all_right xs ys h.1

  pub all_reverse : (xs : List A) → AllByRecursion P xs → AllByRecursion P (reverse xs)
  all_reverse [] h = tt
  all_reverse (x ∷ xs) h = subst (AllByRecursion P) (sym (reverse-append (x ∷ []) xs)) (all_append (reverse xs) (x ∷ []) (all_reverse xs h.1) (h.0, tt))

  pub all_flat_map : {B : Type 0} (f : B → List A) (xs : List B) → AllByRecursion (λ x. AllByRecursion P (f x)) xs → AllByRecursion P (flat_map f xs)
  all_flat_map f [] h = tt
  all_flat_map f (x ∷ xs) h = all_append (f x) (flat_map f xs) h.0 (all_flat_map f xs h.1)

  pub each_flat_map : {B : Type 0} (f : B → List A) (xs : List B) → AllByRecursion P (flat_map f xs) → AllByRecursion (λ x. AllByRecursion P (f x)) xs
  each_flat_map f [] h = tt
  each_flat_map f (x ∷ xs) h = (all_left (f x) (flat_map f xs) h, each_flat_map f xs (all_right (f x) (flat_map f xs) h))

  pub all_found : (p : A → Bool) (xs : List A) (x : A) → AllByRecursion P xs → find p xs ≡ Some x → P x
  all_found p [] x h e = cc
  all_found p (y ∷ xs) x h e = by (p y) e (all_found p xs x h.1)
    where
      by : (t : Bool) → cond t (Some y) (find p xs) ≡ Some x → (find p xs ≡ Some x → P x) → P x
      by true f rest = (let i : y ≡ x = cc in subst P i h.0)
      by false f rest = rest f

  pub all_numbered : (n : ℕ) (xs : List A) → AllByRecursion P xs → AllByRecursion (λ (q : ℕ × A). P q.1) (enumerate_from n xs)
  all_numbered n [] h = tt
  all_numbered n (x ∷ xs) h = (h.0, all_numbered (n + 1) xs h.1)

  pub all_listed : (o : Option A) → ((x : A) → o ≡ Some x → P x) → AllByRecursion P (option_to_list o)
  all_listed None f = tt
  all_listed (Some x) f = (f x refl, tt)

module _ {A B : Type 0} (P : A → Type 0) (Q : B → Type 0) where
  pub all_map : (f : A → B) (xs : List A) → ((x : A) → P x → Q (f x)) → AllByRecursion P xs → AllByRecursion Q (map f xs)
  all_map f [] g h = tt
  all_map f (x ∷ xs) g h = (g x h.0, all_map f xs g h.1)

  pub each_map : (f : A → B) (xs : List A) → ((x : A) → Q (f x) → P x) → AllByRecursion Q (map f xs) → AllByRecursion P xs
  each_map f [] g h = tt
  each_map f (x ∷ xs) g h = (g x h.0, each_map f xs g h.1)

  pub all_filter_map : (f : A → Option B) (xs : List A) → ((x : A) (y : B) → f x ≡ Some y → Q y) → AllByRecursion Q (filter_map f xs)
  all_filter_map f [] g = tt
  all_filter_map f (x ∷ xs) g = by (f x) refl (all_filter_map f xs g)
    where
      by : (o : Option B) → f x ≡ o → AllByRecursion Q (filter_map f xs) → AllByRecursion Q (cons_option o (filter_map f xs))
      by None e rest = rest
      by (Some y) e rest = (g x y e, rest)
