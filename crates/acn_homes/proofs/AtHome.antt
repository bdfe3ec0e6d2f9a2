-- The numbers of the slots at home at a path.
use Rattle.std.proofs.Common.{◌≡◌, ℕ, zero, suc, ◌<◌, ◌+◌, Bool, true, false, cond, nat_eq, nat_lt, List, [], ◌∷◌, ◌++◌, map, filter, length, get_or, take, length-take, nat_cmp, refl, sym, ap, ◌∙◌, arith, Less, Equal, Greater}
use Rattle.std.proofs.lemmas.Bool.{or_from}
use Rattle.std.proofs.lemmas.Bool.Decides.{nat_tests}
use Rattle.std.proofs.lemmas.List.{map_more, length-map}
use Rattle.std.specs.List.{enumerate_from, list_any, range_with_len, AllByRecursion}
use Rattle.std.specs.List.Sorted.{IsStrictlySortedBy}
use Rattle.acn_homes.specs.Homes.{Path, same, Slot}
use Rattle.acn_homes.specs.View.{slot_view, slots_view}
use Rattle.acn_homes.specs.declared.slots.Slot as program
use Rattle.acn_homes.proofs.Order.{first_there, no_first}

module _ (q : Path) where
  abbrev here : ℕ → List Slot → List ℕ
  here n all = map (λ (s : ℕ × Slot). s.0) (filter (λ (s : ℕ × Slot). same q s.1.home) (enumerate_from n all))

  -- ---- one slot more

  here_more : (n : ℕ) (all : List Slot) (x : Slot) → here n (all ++ x ∷ []) ≡ here n all ++ cond (same q x.home) ((n + length all) ∷ []) []
  here_more n [] x = by (same q x.home) ∙ ap (λ (k : ℕ). cond (same q x.home) (k ∷ []) []) (omega arith)
    where
      by : (t : Bool) → map (λ (s : ℕ × Slot). s.0) (cond t ((n, x) ∷ []) []) ≡ cond t (n ∷ []) []
      by true = refl
      by false = refl
  here_more n (y ∷ all) x = by (same q y.home) (here_more (n + 1) all x ∙ ap (λ (k : ℕ). here (n + 1) all ++ cond (same q x.home) (k ∷ []) []) (omega arith))
    where
      front : List (ℕ × Slot)
      front = filter (λ (s : ℕ × Slot). same q s.1.home) (enumerate_from (n + 1) (all ++ x ∷ []))

      old : List (ℕ × Slot)
      old = filter (λ (s : ℕ × Slot). same q s.1.home) (enumerate_from (n + 1) all)

      by : (t : Bool) → map (λ (s : ℕ × Slot). s.0) front ≡ map (λ (s : ℕ × Slot). s.0) old ++ cond (same q x.home) ((n + length (y ∷ all)) ∷ []) []
          → map (λ (s : ℕ × Slot). s.0) (cond t ((n, y) ∷ front) front) ≡ map (λ (s : ℕ × Slot). s.0) (cond t ((n, y) ∷ old) old) ++ cond (same q x.home) ((n + length (y ∷ all)) ∷ []) []
      by true h = ap (λ (z : List ℕ). n ∷ z) h
      by false h = h

  pub slot_more_here : (xs : List program.Slot) (i : ℕ) (d : program.Slot) → i < length xs → here 0 (slots_view (take i xs)) ++ cond (same q (get_or xs i d).home.now) (i ∷ []) [] ≡ here 0 (slots_view (take (i + 1) xs))
  slot_more_here xs i d l =
      let cut = length-take i xs in
      let long : 0 + length (slots_view (take i xs)) ≡ i = (let e = length-map (take i xs) slot_view in omega (arith, cut, e)) in
      ap (λ (k : ℕ). here 0 (slots_view (take i xs)) ++ cond (same q (get_or xs i d).home.now) (k ∷ []) []) (sym long)
      ∙ (sym (here_more 0 (slots_view (take i xs)) (slot_view (get_or xs i d)))
      ∙ ap (here 0) (sym (map_more slot_view xs i d l)))

  pub found_more : (m n : List ℕ) (xs : List program.Slot) (i : ℕ) (d : program.Slot) → i < length xs → m ≡ here 0 (slots_view (take i xs)) → n ≡ m ++ cond (same q (get_or xs i d).home.now) (i ∷ []) [] → n ≡ here 0 (slots_view (take (i + 1) xs))
  found_more m n xs i d l before added =
      added ∙ (ap (λ (z : List ℕ). z ++ cond (same q (get_or xs i d).home.now) (i ∷ []) []) before ∙ slot_more_here xs i d l)

  -- ---- by a test of numbers

  pub by_test : (test : ℕ → Bool) (n : ℕ) (all : List Slot) → ((k : ℕ) (d : Slot) → k < length all → test (n + k) ≡ same q (get_or all k d).home) → here n all ≡ filter test (range_with_len n (length all))
  by_test test n [] h = refl
  by_test test n (s ∷ all) h = by (same q s.home) (sym (ap test (omega arith)) ∙ h 0 s (omega arith)) (by_test test (n + 1) all (λ k d l. ap test (omega arith) ∙ h (suc k) d (omega (arith, l))))
    where
      old : List (ℕ × Slot)
      old = filter (λ (x : ℕ × Slot). same q x.1.home) (enumerate_from (n + 1) all)

      by : (t : Bool) → test n ≡ t → map (λ (x : ℕ × Slot). x.0) old ≡ filter test (range_with_len (n + 1) (length all))
          → map (λ (x : ℕ × Slot). x.0) (cond t ((n, s) ∷ old) old) ≡ cond (test n) (n ∷ filter test (range_with_len (n + 1) (length all))) (filter test (range_with_len (n + 1) (length all)))
      by true e g = ap (λ (z : List ℕ). n ∷ z) g ∙ ap (λ (t : Bool). cond t (n ∷ filter test (range_with_len (n + 1) (length all))) (filter test (range_with_len (n + 1) (length all)))) (sym e)
      by false e g = g ∙ ap (λ (t : Bool). cond t (n ∷ filter test (range_with_len (n + 1) (length all))) (filter test (range_with_len (n + 1) (length all)))) (sym e)

  -- ---- each at one path

  other_number : (a b : ℕ) → a < b → nat_eq a b ≡ false
  other_number a b h = grind (arith, nat_tests)

  other_back : (a b : ℕ) → a < b → nat_eq b a ≡ false
  other_back a b h = grind (arith, nat_tests)

  same_number : (a : ℕ) → nat_eq a a ≡ true
  same_number a = grind (arith, nat_tests)

  not_before : (m n : ℕ) (all : List Slot) → m < n → list_any (nat_eq m) (here n all) ≡ false
  not_before m n [] h = refl
  not_before m n (s ∷ all) h = by (same q s.home) (not_before m (n + 1) all (omega (arith, h)))
    where
      old : List (ℕ × Slot)
      old = filter (λ (x : ℕ × Slot). same q x.1.home) (enumerate_from (n + 1) all)

      by : (t : Bool) → list_any (nat_eq m) (map (λ (x : ℕ × Slot). x.0) old) ≡ false → list_any (nat_eq m) (map (λ (x : ℕ × Slot). x.0) (cond t ((n, s) ∷ old) old)) ≡ false
      by true g = or_from (nat_eq m n) (list_any (nat_eq m) (map (λ (x : ℕ × Slot). x.0) old)) (other_number m n h) g
      by false g = g

  pub once : (n : ℕ) (all : List Slot) (k : ℕ) (d : Slot) → k < length all → list_any (nat_eq (n + k)) (here n all) ≡ same q (get_or all k d).home
  once n [] k d h = absurd (omega (arith, h))
  once n (s ∷ all) zero d h = ap (λ (m : ℕ). list_any (nat_eq m) (here n (s ∷ all))) (omega arith) ∙ by (same q s.home)
    where
      old : List (ℕ × Slot)
      old = filter (λ (x : ℕ × Slot). same q x.1.home) (enumerate_from (n + 1) all)

      by : (t : Bool) → list_any (nat_eq n) (map (λ (x : ℕ × Slot). x.0) (cond t ((n, s) ∷ old) old)) ≡ t
      by true = first_there (nat_eq n n) (list_any (nat_eq n) (map (λ (x : ℕ × Slot). x.0) old)) (same_number n)
      by false = not_before n (n + 1) all (omega arith)
  once n (s ∷ all) (suc k) d h = by (same q s.home) (ap (λ (m : ℕ). list_any (nat_eq m) (here (n + 1) all)) (omega arith) ∙ once (n + 1) all k d (omega (arith, h)))
    where
      old : List (ℕ × Slot)
      old = filter (λ (x : ℕ × Slot). same q x.1.home) (enumerate_from (n + 1) all)

      by : (t : Bool) → list_any (nat_eq (n + suc k)) (map (λ (x : ℕ × Slot). x.0) old) ≡ same q (get_or all k d).home → list_any (nat_eq (n + suc k)) (map (λ (x : ℕ × Slot). x.0) (cond t ((n, s) ∷ old) old)) ≡ same q (get_or all k d).home
      by true g = no_first (nat_eq (n + suc k) n) (list_any (nat_eq (n + suc k)) (map (λ (x : ℕ × Slot). x.0) old)) (other_back n (n + suc k) (omega arith)) ∙ g
      by false g = g

  -- ---- in order

  less : (a b : ℕ) → a < b → nat_cmp a b ≡ Less
  less a b h = ap (λ (t : Bool). cond t Less (cond (nat_eq a b) Equal Greater)) (below a b h)
    where
      below : (a b : ℕ) → a < b → nat_lt a b ≡ true
      below a b h = grind (arith, nat_tests)

  all_above : (m n : ℕ) (all : List Slot) → m < n → AllByRecursion (λ k. nat_cmp m k ≡ Less) (here n all)
  all_above m n [] h = tt
  all_above m n (s ∷ all) h = by (same q s.home) (all_above m (n + 1) all (omega (arith, h)))
    where
      old : List (ℕ × Slot)
      old = filter (λ (x : ℕ × Slot). same q x.1.home) (enumerate_from (n + 1) all)

      by : (t : Bool) → AllByRecursion (λ k. nat_cmp m k ≡ Less) (map (λ (x : ℕ × Slot). x.0) old) → AllByRecursion (λ k. nat_cmp m k ≡ Less) (map (λ (x : ℕ × Slot). x.0) (cond t ((n, s) ∷ old) old))
      by true g = (less m n h, g)
      by false g = g

  pub ascending : (n : ℕ) (all : List Slot) → IsStrictlySortedBy nat_cmp (here n all)
  unfolding IsStrictlySortedBy
  ascending n [] = tt
  ascending n (s ∷ all) = by (same q s.home) (all_above n (n + 1) all (omega arith)) (ascending (n + 1) all)
    where
      old : List (ℕ × Slot)
      old = filter (λ (x : ℕ × Slot). same q x.1.home) (enumerate_from (n + 1) all)

      by : (t : Bool) → AllByRecursion (λ k. nat_cmp n k ≡ Less) (map (λ (x : ℕ × Slot). x.0) old) → IsStrictlySortedBy nat_cmp (map (λ (x : ℕ × Slot). x.0) old) → IsStrictlySortedBy nat_cmp (map (λ (x : ℕ × Slot). x.0) (cond t ((n, s) ∷ old) old))
      by true a r = (a, r)
      by false a r = r
