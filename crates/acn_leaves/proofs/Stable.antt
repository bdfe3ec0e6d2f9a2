-- A stable sort by numbers puts elements in ascending order.
use Rattle.std.proofs.Common.{◌≡◌, ℕ, zero, suc, ◌+◌, ◌<◌, ◌≤◌, ℤ, Bool, true, false, cond, List, [], ◌∷◌, length, get_or, map, filter, is_lt, refl, sym, ap, ◌∙◌, arith, inl, inr, suc-le-suc, zero-le}
use Rattle.std.specs.Prelude.{int_le, ◌≤ℤ◌}
use Rattle.std.specs.Ordering.{int_cmp}
use Rattle.std.proofs.lemmas.Bool.{cond-true, cond-false, cases_Bool}
use Rattle.std.proofs.lemmas.Bool.Decides.{nat_tests}
use Rattle.std.proofs.lemmas.Int.{ints}
use Rattle.std.proofs.lemmas.List.Sorted.{sorted_far}
use Rattle.std.specs.Cmp.{IsStrictWeakOrder}
use Rattle.std.specs.List.Sorted.{ties, IsSortedByKey, IsStableByKey}
use Rattle.acn_leaves.specs.Ordered.{put, ascending}

tied : (m n : ℤ) → ties (λ x y. is_lt (int_cmp x y)) m n ≡ true → m ≡ n
tied m n h = grind (arith, ints, nat_tests)

ties_same : (m n : ℤ) → m ≡ n → ties (λ x y. is_lt (int_cmp x y)) m n ≡ true
ties_same m n h = grind (arith, ints, nat_tests)

at_most : (m n : ℤ) → is_lt (int_cmp n m) ≡ false → m ≤ℤ n
at_most m n h = grind (arith, ints, nat_tests)

one_way : (x y : ℤ) → is_lt (int_cmp x y) ≡ true → is_lt (int_cmp y x) ≡ false
one_way x y h = grind (arith, ints, nat_tests)

chain : (x y z : ℤ) → is_lt (int_cmp x y) ≡ false → is_lt (int_cmp y z) ≡ false → is_lt (int_cmp x z) ≡ false
chain x y z h g = grind (arith, ints, nat_tests)

le_is : (m n : ℤ) → int_le m n ≡ true → m ≤ℤ n
le_is m n h = grind (arith, ints, nat_tests)

gt_is : (m n : ℤ) → int_le m n ≡ false → n ≤ℤ m
gt_is m n h = grind (arith, ints, nat_tests)

differ : (m n : ℤ) → int_le m n ≡ false → m ≡ n → false ≡ true
differ m n h e = grind (arith, ints, nat_tests)

le_trans : (l m n : ℤ) → l ≤ℤ m → m ≤ℤ n → l ≤ℤ n
le_trans l m n h g = grind (arith, ints)

le_both : (m n : ℤ) → m ≤ℤ n → n ≤ℤ m → m ≡ n
le_both m n h g = grind (arith, ints)

le_same : (m n : ℤ) → m ≡ n → n ≤ℤ m
le_same m n h = grind (arith, ints)

module _ {X : Type 0} (key : X → ℤ) where
  abbrev alike : X → X → Bool
  alike = ties (λ x y. is_lt (int_cmp (key x) (key y)))

  alike-true : (x y : X) → alike x y ≡ true → key x ≡ key y
  alike-true x y h = tied (key x) (key y) h

  alike_from : (x y : X) → key x ≡ key y → alike x y ≡ true
  alike_from x y e = ties_same (key x) (key y) e

  kept : (p : X → Bool) (y : X) (ys : List X) → p y ≡ true → filter p (y ∷ ys) ≡ y ∷ filter p ys
  kept p y ys h = cond-true _ _ _ h

  dropped : (p : X → Bool) (y : X) (ys : List X) → p y ≡ false → filter p (y ∷ ys) ≡ filter p ys
  dropped p y ys h = cond-false _ _ _ h

  filter-put : (x i : X) (js : List X) → filter (alike x) (put key i js) ≡ filter (alike x) (i ∷ js)
  filter-put x i [] = refl
  filter-put x i (j ∷ js) =
      let p = alike x in
      elim (cases_Bool (int_le (key i) (key j))) [
        | inl stays ↦ ap (filter p) (cond-true _ _ _ stays)
        | inr past ↦
            ap (filter p) (cond-false _ _ _ past)
            ∙ elim (cases_Bool (p j)) [
              | inr without ↦ dropped p j (put key i js) without ∙ filter-put x i js ∙ ap (λ l. cond (p i) (i ∷ l) l) (sym (dropped p j js without))
              | inl with ↦
                  elim (cases_Bool (p i)) [
                    | inl both ↦ let clash = differ (key i) (key j) past (sym (alike-true x i both) ∙ alike-true x j with) in cc
                    | inr only ↦ kept p j (put key i js) with ∙ ap (λ l. j ∷ l) (filter-put x i js ∙ dropped p i js only) ∙ sym (dropped p i (j ∷ js) only ∙ kept p j js with)
                  ]
            ]
      ]

  filter-ascending : (x : X) (is : List X) → filter (alike x) (ascending key is) ≡ filter (alike x) is
  filter-ascending x [] = refl
  filter-ascending x (i ∷ is) = filter-put x i (ascending key is) ∙ ap (λ l. cond (alike x i) (i ∷ l) l) (filter-ascending x is)

  abbrev AreAtLeast : ℤ → List X → Type 0
  AreAtLeast n [] = Unit {0}
  AreAtLeast n (y ∷ ys) = (n ≤ℤ key y) × AreAtLeast n ys

  abbrev Rises : List X → Type 0
  Rises [] = Unit {0}
  Rises (y ∷ ys) = AreAtLeast (key y) ys × Rises ys

  lower : (n m : ℤ) (ys : List X) → n ≤ℤ m → AreAtLeast m ys → AreAtLeast n ys
  lower n m [] le h = tt
  lower n m (y ∷ ys) le h = (le_trans n m (key y) le h.0, lower n m ys le h.1)

  at_least_put : (n : ℤ) (i : X) (js : List X) → n ≤ℤ key i → AreAtLeast n js → AreAtLeast n (put key i js)
  at_least_put n i [] first h = (first, tt)
  at_least_put n i (j ∷ js) first h = by (int_le (key i) (key j)) (at_least_put n i js first h.1)
    where
      by : (b : Bool) → AreAtLeast n (put key i js) → AreAtLeast n (cond b (i ∷ j ∷ js) (j ∷ put key i js))
      by true rest = (first, h)
      by false rest = (h.0, rest)

  rises_put : (i : X) (js : List X) → Rises js → Rises (put key i js)
  rises_put i [] h = (tt, tt)
  rises_put i (j ∷ js) h = by (int_le (key i) (key j)) refl (rises_put i js h.1)
    where
      by : (b : Bool) → int_le (key i) (key j) ≡ b → Rises (put key i js) → Rises (cond b (i ∷ j ∷ js) (j ∷ put key i js))
      by true e rest = ((le_is (key i) (key j) e, lower (key i) (key j) js (le_is (key i) (key j) e) h.0), h)
      by false e rest = (at_least_put (key j) i js (gt_is (key i) (key j) e) h.0, rest)

  rises_ascending : (is : List X) → Rises (ascending key is)
  rises_ascending [] = tt
  rises_ascending (i ∷ is) = rises_put i (ascending key is) (rises_ascending is)

  order : IsStrictWeakOrder (λ x y. is_lt (int_cmp (key x) (key y)))
  order = record { one_way = λ x y. one_way (key x) (key y); chain = λ x y z. chain (key x) (key y) (key z) }

  abbrev Far : List X → Type 0
  Far ys = (i j : ℕ) (d : X) → i ≤ j → j < length ys → key (get_or ys i d) ≤ℤ key (get_or ys j d)

  at_least_at : (n : ℤ) (ys : List X) → ((j : ℕ) (d : X) → j < length ys → n ≤ℤ key (get_or ys j d)) → AreAtLeast n ys
  at_least_at n [] h = tt
  at_least_at n (y ∷ ys) h = (h zero y (suc-le-suc zero-le), at_least_at n ys (λ j d lt. h (suc j) d (suc-le-suc lt)))

  rises_far : (ys : List X) → Far ys → Rises ys
  rises_far [] h = tt
  rises_far (y ∷ ys) h = (at_least_at (key y) ys (λ j d lt. h zero (suc j) d zero-le (suc-le-suc lt)), rises_far ys (λ i j d le lt. h (suc i) (suc j) d (suc-le-suc le) (suc-le-suc lt)))

  -- the number of x is that of one of them
  found : (n : ℤ) (x : X) (ys : List X) (w : X) (ws : List X) → AreAtLeast n ys → filter (alike x) ys ≡ w ∷ ws → n ≤ℤ key x
  found n x [] w ws h e = cc
  found n x (y ∷ ys) w ws h e =
      elim (cases_Bool (alike x y)) [
        | inl with ↦ le_trans n (key y) (key x) h.0 (le_same (key x) (key y) (alike-true x y with))
        | inr without ↦ found n x ys w ws h.1 (sym (dropped (alike x) y ys without) ∙ e)
      ]

  same_from_ties : (ys zs : List X) → Rises ys → Rises zs → ((x : X) → filter (alike x) ys ≡ filter (alike x) zs) → ys ≡ zs
  same_from_ties [] [] left right same = refl
  same_from_ties [] (z ∷ zs) left right same = let clash = same z ∙ kept (alike z) z zs (alike_from z z refl) in cc
  same_from_ties (y ∷ ys) [] left right same = let clash = sym (same y) ∙ kept (alike y) y ys (alike_from y y refl) in cc
  same_from_ties (y ∷ ys) (z ∷ zs) left right same =
      let at_y = kept (alike y) y ys (alike_from y y refl) in
      let at_z = kept (alike z) z zs (alike_from z z refl) in
      let up = found (key z) y (z ∷ zs) y _ (le_same (key z) (key z) refl, right.0) (sym (same y) ∙ at_y) in
      let down = found (key y) z (y ∷ ys) z _ (le_same (key y) (key y) refl, left.0) (same z ∙ at_z) in
      let heads = sym at_y ∙ same y ∙ kept (alike y) z zs (alike_from y z (le_both (key y) (key z) down up)) in
      let head : y ≡ z = cc in
      let tails : (x : X) → filter (alike x) ys ≡ filter (alike x) zs =
      λ x. elim (cases_Bool (alike x y)) [
        | inl with ↦ let both = sym (kept (alike x) y ys with) ∙ same x ∙ kept (alike x) z zs (ap (alike x) (sym head) ∙ with) in cc
        | inr without ↦ sym (dropped (alike x) y ys without) ∙ same x ∙ dropped (alike x) z zs (ap (alike x) (sym head) ∙ without)
      ] in
      ap (λ w. w ∷ ys) head ∙ ap (λ l. z ∷ l) (same_from_ties ys zs left.1 right.1 tails)

  pub is_ascending : (xs ys : List X) → IsSortedByKey key int_cmp ys → IsStableByKey key int_cmp xs ys → ys ≡ ascending key xs
  is_ascending xs ys sorted stable =
      same_from_ties ys (ascending key xs)
      (rises_far ys (λ i j d le lt. at_most (key (get_or ys i d)) (key (get_or ys j d)) (sorted_far (λ x y. is_lt (int_cmp (key x) (key y))) order ys sorted i j d le lt)))
      (rises_ascending xs)
      (λ x. stable x ∙ sym (filter-ascending x xs))

-- views of elements, by whose numbers they are put in order
module _ {X Y : Type 0} (key : Y → ℤ) (view : X → Y) where
  map-put : (i : X) (js : List X) → map view (put (λ x. key (view x)) i js) ≡ put key (view i) (map view js)
  map-put i [] = refl
  map-put i (j ∷ js) = by (int_le (key (view i)) (key (view j))) (map-put i js)
    where
      by : (b : Bool) → map view (put (λ x. key (view x)) i js) ≡ put key (view i) (map view js) → map view (cond b (i ∷ j ∷ js) (j ∷ put (λ x. key (view x)) i js)) ≡ cond b (view i ∷ view j ∷ map view js) (view j ∷ put key (view i) (map view js))
      by true rest = refl
      by false rest = ap (λ l. view j ∷ l) rest

  pub map-ascending : (xs : List X) → map view (ascending (λ x. key (view x)) xs) ≡ ascending key (map view xs)
  map-ascending [] = refl
  map-ascending (x ∷ xs) = map-put x (ascending (λ x. key (view x)) xs) ∙ ap (put key (view x)) (map-ascending xs)
