-- What is sorted differs where no two neighbours are the same.
use Rattle.std.proofs.Common.{◌≡◌, ℕ, ℤ, Bool, true, false, not, List, [], ◌∷◌, map, cond, refl, sym, ap, subst, ◌∙◌, arith, Ordering, Less}
use Rattle.std.specs.List.{list_any, dedup, dedup_from, AllByRecursion}
use Rattle.std.specs.List.Sorted.{IsSorted, IsStrictlySortedBy, IsPermutation}
use Rattle.std.specs.Cmp.{IsTotalOrder, both_ways}
use Rattle.std.specs.Cmp.Lexicographic.{slice_cmp}
use Rattle.std.specs.Ordering.{int_cmp, int_eq, nat_cmp, is_eq}
use Rattle.std.proofs.lemmas.Bool.{and_parts, and_from, or_parts, or_from, not-true, not_from_false}
use Rattle.std.proofs.lemmas.Bool.Decides.{nat_tests}
use Rattle.std.proofs.lemmas.Cmp.{int_cmp_total, on_total, nat_list_cmp_total, same_from_slice_cmp, eq_by_cmp_equiv}
use Rattle.std.proofs.lemmas.Int.{ints}
use Rattle.std.proofs.lemmas.List.Kept.{IsStrictlySortedBy-dedup}
use Rattle.std.proofs.lemmas.List.Sorted.{IsPermutation-map}
use Rattle.acn_grammar.specs.Asks.{same_name}
use Rattle.acn_grammar.specs.Leaves.{all_differ}
use Rattle.acn_leaf.specs.Neighbours.{neighbours_differ}
use Rattle.acn_leaf.proofs.Pairs.{in_any_order}

-- Names are told apart by the order of their octets.

pub same_by_order : (xs ys : List ℕ) → same_name xs ys ≡ is_eq (slice_cmp nat_cmp xs ys)
same_by_order xs ys = sym (same_from_slice_cmp nat_cmp is_eq same_name refl (λ y ys. refl) (λ x xs. refl) (λ x y xs ys o h. grind (arith, nat_tests)) xs ys _ refl)

-- A total order that tells what is the same.

pub record Tells {K : Type 0} (R : K → K → Ordering) (same : K → K → Bool) : Type 0 where
  pub total : IsTotalOrder R
  pub ties : (x y : K) → same x y ≡ is_eq (R x y)

-- Numbers are told apart by their order.

pub by_numbers : Tells int_cmp int_eq
by_numbers = record { total = int_cmp_total; ties = λ x y. tied x y }
  where
    tied : (x y : ℤ) → int_eq x y ≡ is_eq (int_cmp x y)
    tied x y = grind (arith, ints)

pub by_octets : Tells (slice_cmp nat_cmp) same_name
by_octets = record { total = nat_list_cmp_total; ties = same_by_order }

module _ {K : Type 0} (R : K → K → Ordering) (same : K → K → Bool) (tells : Tells R same) where
  same_symm : (x y : K) → same x y ≡ same y x
  same_symm x y = tells.ties x y ∙ ((eq_by_cmp_equiv tells.total).symm x y ∙ sym (tells.ties y x))

  -- Neighbours.

  neighbours_from : (ns : List K) → all_differ same ns ≡ true → neighbours_differ same ns ≡ true
  neighbours_from [] h = refl
  neighbours_from (n ∷ []) h = refl
  neighbours_from (n ∷ m ∷ ns) h =
      let f = and_parts (not (list_any (same n) (m ∷ ns))) (all_differ same (m ∷ ns)) h in
      let g = or_parts (same n m) (list_any (same n) ns) (not-true _ f.0) in
      and_from (not (same n m)) (neighbours_differ same (m ∷ ns)) (not_from_false _ g.0) (neighbours_from (m ∷ ns) f.1)

  module _ {X : Type 0} (key : X → K) where
    abbrev order : X → X → Ordering
    order a b = R (key a) (key b)

    abbrev alike : X → X → Bool
    alike a b = same (key a) (key b)

    all_kept : (x : X) (xs : List X) → neighbours_differ same (map key (x ∷ xs)) ≡ true → dedup_from alike x xs ≡ x ∷ xs
    all_kept x [] h = refl
    all_kept x (y ∷ ys) h =
        let f = and_parts (not (same (key x) (key y))) (neighbours_differ same (map key (y ∷ ys))) h in
        let other : alike y x ≡ false = same_symm (key y) (key x) ∙ not-true _ f.0 in
        ap (λ b. cond b (dedup_from alike x ys) (x ∷ dedup_from alike y ys)) other ∙ ap (λ l. x ∷ l) (all_kept y ys f.1)

    kept : (xs : List X) → neighbours_differ same (map key xs) ≡ true → dedup alike xs ≡ xs
    kept [] h = refl
    kept (x ∷ xs) h = all_kept x xs h

    less_differs : (x : X) (xs : List X) → AllByRecursion (λ y. order x y ≡ Less) xs → list_any (same (key x)) (map key xs) ≡ false
    less_differs x [] a = refl
    less_differs x (y ∷ ys) a =
        or_from (same (key x) (key y)) (list_any (same (key x)) (map key ys)) (tells.ties (key x) (key y) ∙ ap is_eq a.0) (less_differs x ys a.1)

    rising_differ : (xs : List X) → IsStrictlySortedBy order xs → all_differ same (map key xs) ≡ true
    unfolding IsStrictlySortedBy
    rising_differ [] s = refl
    rising_differ (x ∷ xs) s =
        and_from (not (list_any (same (key x)) (map key xs))) (all_differ same (map key xs)) (not_from_false _ (less_differs x xs s.0)) (rising_differ xs s.1)

    sorted_differ : (xs : List X) → IsSorted order xs → neighbours_differ same (map key xs) ≡ true → all_differ same (map key xs) ≡ true
    sorted_differ xs sorted h =
        rising_differ xs (subst (IsStrictlySortedBy order) (kept xs h) (IsStrictlySortedBy-dedup (on_total key tells.total) (λ x y. tells.ties (key x) (key y)) xs sorted))

    -- what the neighbours of a sorted list say of the list as it stood
    pub neighbours_say : (xs ys : List X) → IsPermutation xs ys → IsSorted order ys → neighbours_differ same (map key ys) ≡ all_differ same (map key xs)
    neighbours_say xs ys p sorted =
        both_ways (neighbours_differ same (map key ys)) (all_differ same (map key ys)) (sorted_differ ys sorted) (neighbours_from (map key ys))
        ∙ in_any_order same same_symm (map key xs) (map key ys) (IsPermutation-map key xs ys p)
