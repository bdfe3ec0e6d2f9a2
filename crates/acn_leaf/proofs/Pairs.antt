-- Pairs of a list that pass a test: how many there are, which no order of the list changes where the test is symmetric.
use Rattle.std.proofs.Common.{◌++◌, ◌≡◌, ◌⊎◌, ℕ, ◌+◌, Bool, true, false, not, ◌&&◌, ◌||◌, List, [], ◌∷◌, cond, refl, sym, ap, ◌∙◌, arith, inl, inr}
use Rattle.std.specs.List.{list_any, list_all, sum_by}
use Rattle.std.specs.List.Sorted.{IsPermutation}
use Rattle.std.specs.Cmp.{both_ways}
use Rattle.std.proofs.lemmas.Bool.{and_parts, and_from, or_parts, or_from, not-true, not_from_false, cases_Bool}
use Rattle.std.proofs.lemmas.List.Folds.{list_any-append}
use Rattle.std.proofs.lemmas.List.Sorted.{sum_by-IsPermutation}
use Rattle.std.proofs.lemmas.List.Sums.{sum_by-cons}
use Rattle.acn_grammar.specs.Leaves.{all_differ}

module _ {A : Type 0} (same : A → A → Bool) where
  -- How often a thing passes the test with those of a list.

  abbrev one_if : A → A → ℕ
  one_if x y = cond (same x y) 1 0

  abbrev times : A → List A → ℕ
  times x ys = sum_by (one_if x) ys

  times_same : (x y : A) (ys : List A) → same x y ≡ true → times x (y ∷ ys) ≡ 1 + times x ys
  times_same x y ys h = (let c = sum_by-cons (one_if x) y ys in let e : one_if x y ≡ 1 = ap (λ b. cond b 1 0) h in omega (arith, c, e))

  times_other : (x y : A) (ys : List A) → same x y ≡ false → times x (y ∷ ys) ≡ times x ys
  times_other x y ys h = (let c = sum_by-cons (one_if x) y ys in let e : one_if x y ≡ 0 = ap (λ b. cond b 1 0) h in omega (arith, c, e))

  not_there : (x : A) (ys : List A) → list_any (same x) ys ≡ false → times x ys ≡ 0
  not_there x [] h = refl
  not_there x (y ∷ ys) h =
      let f = or_parts (same x y) (list_any (same x) ys) h in
      times_other x y ys f.0 ∙ not_there x ys f.1

  never : (x : A) (ys : List A) → times x ys ≡ 0 → list_any (same x) ys ≡ false
  never x [] h = refl
  never x (y ∷ ys) h = by (cases_Bool (same x y)) (λ z. never x ys z)
    where
      by : (same x y ≡ true) ⊎ (same x y ≡ false) → (times x ys ≡ 0 → list_any (same x) ys ≡ false) → list_any (same x) (y ∷ ys) ≡ false
      by (inl s) rest = (let e = times_same x y ys s in absurd (omega (arith, e, h)))
      by (inr s) rest = or_from (same x y) (list_any (same x) ys) s (rest (sym (times_other x y ys s) ∙ h))

  -- Pairs, each of one thing and one behind it.

  abbrev pairs : List A → ℕ
  pairs [] = 0
  pairs (x ∷ xs) = times x xs + pairs xs

  no_pairs : (xs : List A) → all_differ same xs ≡ true → pairs xs ≡ 0
  no_pairs [] h = refl
  no_pairs (x ∷ xs) h =
      let f = and_parts (not (list_any (same x) xs)) (all_differ same xs) h in
      let a = not_there x xs (not-true _ f.0) in
      let b = no_pairs xs f.1 in
      omega (arith, a, b)

  differ_by : (xs : List A) → pairs xs ≡ 0 → all_differ same xs ≡ true
  differ_by [] h = refl
  differ_by (x ∷ xs) h =
      and_from (not (list_any (same x) xs)) (all_differ same xs) (not_from_false _ (never x xs (omega (arith, h)))) (differ_by xs (omega (arith, h)))

  -- Two lists one behind the other.

  abbrev pub apart : List A → List A → Bool
  apart [] ys = true
  apart (x ∷ xs) ys = not (list_any (same x) ys) && apart xs ys

  pub apart_none : (xs : List A) → apart xs [] ≡ true
  apart_none [] = refl
  apart_none (x ∷ xs) = apart_none xs

  pub differ_append : (xs ys : List A) → all_differ same (xs ++ ys) ≡ (all_differ same xs && (apart xs ys && all_differ same ys))
  differ_append [] ys = refl
  differ_append (x ∷ xs) ys = rw (list_any-append (same x) xs ys, differ_append xs ys) (parted (list_any (same x) xs) (list_any (same x) ys) (all_differ same xs) (apart xs ys) (all_differ same ys))
    where
      parted : (a b c d e : Bool) → (not (a || b) && (c && (d && e))) ≡ ((not a && c) && ((not b && d) && e))
      parted true b c d e = refl
      parted false true true d e = refl
      parted false true false d e = refl
      parted false false true d e = refl
      parted false false false d e = refl

  pub apart_append : (xs ys zs : List A) → apart xs (ys ++ zs) ≡ (apart xs ys && apart xs zs)
  apart_append [] ys zs = refl
  apart_append (x ∷ xs) ys zs = rw (list_any-append (same x) ys zs, apart_append xs ys zs) (parted (list_any (same x) ys) (list_any (same x) zs) (apart xs ys) (apart xs zs))
    where
      parted : (a b c d : Bool) → (not (a || b) && (c && d)) ≡ ((not a && c) && (not b && d))
      parted true b c d = refl
      parted false true true d = refl
      parted false true false d = refl
      parted false false true d = refl
      parted false false false d = refl

  module _ (symm : (x y : A) → same x y ≡ same y x) where
    -- Each thing with each of the others and with itself.

    abbrev total : List A → List A → ℕ
    total xs ys = sum_by (λ x. times x ys) xs

    one_more : (y : A) (ys xs : List A) → total xs (y ∷ ys) ≡ times y xs + total xs ys
    one_more y ys [] = refl
    one_more y ys (x ∷ xs) =
        let a = sum_by-cons (λ z. times z (y ∷ ys)) x xs in
        let b = sum_by-cons (λ z. times z ys) x xs in
        let c = sum_by-cons (one_if x) y ys in
        let d = sum_by-cons (one_if y) x xs in
        let e : one_if x y ≡ one_if y x = ap (λ t. cond t 1 0) (symm x y) in
        let f = one_more y ys xs in
        omega (arith, a, b, c, d, e, f)

    twice : (xs : List A) → total xs xs ≡ sum_by (λ x. one_if x x) xs + (pairs xs + pairs xs)
    twice [] = refl
    twice (x ∷ xs) =
        let a = sum_by-cons (λ z. times z (x ∷ xs)) x xs in
        let b = sum_by-cons (one_if x) x xs in
        let c = one_more x xs xs in
        let d = sum_by-cons (λ z. one_if z z) x xs in
        let e = twice xs in
        omega (arith, a, b, c, d, e)

    others_kept : (zs xs ys : List A) → IsPermutation xs ys → total zs ys ≡ total zs xs
    others_kept [] xs ys p = refl
    others_kept (z ∷ zs) xs ys p =
        let a = sum_by-cons (λ x. times x ys) z zs in
        let b = sum_by-cons (λ x. times x xs) z zs in
        let c = sum_by-IsPermutation (one_if z) xs ys p in
        let d = others_kept zs xs ys p in
        omega (arith, a, b, c, d)

    pairs_kept : (xs ys : List A) → IsPermutation xs ys → pairs ys ≡ pairs xs
    pairs_kept xs ys p =
        let a = sum_by-IsPermutation (λ x. times x ys) xs ys p in
        let b = others_kept xs xs ys p in
        let c = sum_by-IsPermutation (λ x. one_if x x) xs ys p in
        let d = twice xs in
        let e = twice ys in
        omega (arith, a, b, c, d, e)

    pub in_any_order : (xs ys : List A) → IsPermutation xs ys → all_differ same ys ≡ all_differ same xs
    in_any_order xs ys p = both_ways (all_differ same ys) (all_differ same xs)
        (λ h. differ_by xs (sym (pairs_kept xs ys p) ∙ no_pairs ys h))
        (λ h. differ_by ys (pairs_kept xs ys p ∙ no_pairs xs h))

    -- The second list, thing by thing.

    apart_one : (xs : List A) (y : A) (ys : List A) → apart xs (y ∷ ys) ≡ (not (list_any (same y) xs) && apart xs ys)
    apart_one [] y ys = refl
    apart_one (x ∷ xs) y ys = rw (symm x y, apart_one xs y ys) (turned (same y x) (list_any (same x) ys) (list_any (same y) xs) (apart xs ys))
      where
        turned : (a b c d : Bool) → (not (a || b) && (not c && d)) ≡ (not (a || c) && (not b && d))
        turned true b c d = refl
        turned false true true d = refl
        turned false true false d = refl
        turned false false true d = refl
        turned false false false d = refl

    pub apart_turned : (xs ys : List A) → apart xs ys ≡ list_all (λ y. not (list_any (same y) xs)) ys
    apart_turned xs [] = apart_none xs
    apart_turned xs (y ∷ ys) = apart_one xs y ys ∙ ap (λ b. not (list_any (same y) xs) && b) (apart_turned xs ys)
