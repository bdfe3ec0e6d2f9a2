-- Words that are routes, as lists of strings.
use Rattle.std.proofs.Common.{◌≡◌, ℕ, zero, suc, ◌-◌, ◌<◌, ◌≤◌, Bool, true, false, ◌&&◌, List, [], ◌∷◌, length, map, take, drop, get_or, Option, Some, None, if◌then◌else◌, refl, sym, ap, ◌∙◌, subst, arith, take_all, length-drop}
use Rattle.std.specs.Prelude.{slice_get, MatchOption}
use Rattle.std.specs.List.{list_all}
use Rattle.acn_words.specs.Faults.{repeated, unless_repeated, routes_fault, route_word}
use Rattle.acn_words.specs.Requests as requests
use Rattle.acn_words.specs.Routes.{Route, are_routes, is_route, route_of, count_routes, apids_differ}

and_is : (a b : Bool) → (a && b) ≡ true → (a ≡ true) × (b ≡ true)
and_is true b e = (refl, e)
and_is false b e = cc

all_routes : (words : List (List ℕ)) → are_routes words ≡ true → list_all is_route words ≡ true
all_routes [] e = cc
all_routes (word ∷ words) e = (and_is (list_all is_route (word ∷ words)) (apids_differ (word ∷ words)) e).0

if_true : {A : Type 0} (b : Bool) (x y : A) → b ≡ true → (if b then x else y) ≡ x
if_true true x y e = refl
if_true false x y e = cc

module _ {A : Type 0} (bytes : A → List ℕ) where
  there : (xs : List A) (k : ℕ) (d : A) → k < length xs → list_all is_route (map bytes xs) ≡ true → is_route (bytes (get_or xs k d)) ≡ true
  there [] k d h all = absurd (omega arith)
  there (y ∷ xs) zero d h all = (and_is (is_route (bytes y)) (list_all is_route (map bytes xs)) all).0
  there (y ∷ xs) (suc k) d h all = there xs k d (omega arith) (and_is (is_route (bytes y)) (list_all is_route (map bytes xs)) all).1

  -- each of words that are routes is one
  pub route_there : (xs : List A) (k : ℕ) (d : A) → k < length xs → are_routes (map bytes xs) ≡ true → is_route (bytes (get_or xs k d)) ≡ true
  route_there xs k d h are = there xs k d h (all_routes (map bytes xs) are)

  taken : (n : ℕ) (xs : List A) → map bytes (take n xs) ≡ take n (map bytes xs)
  taken zero xs = refl
  taken (suc n) [] = refl
  taken (suc n) (x ∷ xs) = ap (λ more. bytes x ∷ more) (taken n xs)

  dropped : (n : ℕ) (xs : List A) → map bytes (drop n xs) ≡ drop n (map bytes xs)
  dropped zero xs = refl
  dropped (suc n) [] = refl
  dropped (suc n) (x ∷ xs) = dropped n xs

  pub whole : (n : ℕ) (xs : List A) → take (length xs - n) (drop n xs) ≡ drop n xs
  whole n xs =
      let left = length-drop n xs in
      take_all (length xs - n) (drop n xs) (omega (arith, left))

  -- routes in front and what stands behind them
  module _ (xs fronts names : List A) (n : ℕ) (count : n ≡ count_routes (map bytes xs)) (front : fronts ≡ take n xs) (back : names ≡ drop n xs) where
    front_is : map bytes fronts ≡ take (count_routes (map bytes xs)) (map bytes xs)
    front_is = ap (map bytes) front ∙ (taken n xs ∙ ap (λ k. take k (map bytes xs)) count)

    back_is : map bytes names ≡ drop (count_routes (map bytes xs)) (map bytes xs)
    back_is = ap (map bytes) back ∙ (dropped n xs ∙ ap (λ k. drop k (map bytes xs)) count)

    pub parted : requests.routed (map bytes fronts) (map bytes names) ≡ requests.with_routes (map bytes xs)
    parted = ap (λ fs. requests.routed fs (map bytes names)) front_is ∙ ap (λ ns. requests.routed (take (count_routes (map bytes xs)) (map bytes xs)) ns) back_is

    parted_fault : unless_repeated (repeated (map bytes fronts)) (map bytes names) ≡ unless_repeated (repeated (take (count_routes (map bytes xs)) (map bytes xs))) (drop (count_routes (map bytes xs)) (map bytes xs))
    parted_fault = ap (λ fs. unless_repeated (repeated fs) (map bytes names)) front_is ∙ ap (λ ns. unless_repeated (repeated (take (count_routes (map bytes xs)) (map bytes xs))) ns) back_is

    pub fault_behind : (first : A) → 1 ≤ length xs → first ≡ get_or xs 0 first → is_route (bytes first) ≡ true → unless_repeated (repeated (map bytes fronts)) (map bytes names) ≡ routes_fault (map bytes xs)
    fault_behind first some is route = parted_fault ∙ by xs some is
      where
        by : (ys : List A) → 1 ≤ length ys → first ≡ get_or ys 0 first → unless_repeated (repeated (take (count_routes (map bytes ys)) (map bytes ys))) (drop (count_routes (map bytes ys)) (map bytes ys)) ≡ routes_fault (map bytes ys)
        by [] some is = absurd (omega arith)
        by (y ∷ ys) some is = sym (if_true (is_route (bytes y)) _ (Some (route_word (bytes y))) (subst (λ z. is_route (bytes z) ≡ true) is route))

  mapped : {B C : Type 0} (f : B → C) (ys : List B) (i : ℕ) (y : B) → slice_get ys i ≡ Some y → slice_get (map f ys) i ≡ Some (f y)
  mapped f [] i y e = cc
  mapped f (z ∷ ys) zero y e = let same : z ≡ y = cc e in ap (λ w. Some (f w)) same
  mapped f (z ∷ ys) (suc i) y e = mapped f ys i y e

  -- the route of one of the words
  pub route_here : (xs : List A) (i : ℕ) (x : A) (route : Route) → slice_get xs i ≡ Some x → route ≡ route_of (bytes x) → slice_get (map route_of (map bytes xs)) i ≡ Some route
  route_here xs i x route e same = mapped route_of (map bytes xs) i (bytes x) (mapped bytes xs i x e) ∙ ap Some (sym same)
