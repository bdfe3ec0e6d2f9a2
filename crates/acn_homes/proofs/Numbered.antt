-- A search for a field among slots in preorder.
use Rattle.std.proofs.Common.{◌≡◌, ℕ, zero, suc, ◌<◌, ◌≤◌, ◌+◌, Bool, true, false, true≢false, cond, List, [], ◌∷◌, map, length, get_or, Option, Some, None, Result, Ok, Err, refl, sym, ap, subst, ◌∙◌, arith, Less, Equal, Greater, is_lt, is_eq, is_some, unwrap_or, IsSortedBy, IfSome, add-one, nat_lt}
use Rattle.std.proofs.lemmas.Bool.Decides.{nat_tests}
use Rattle.std.specs.List.{position_from}
use Rattle.std.specs.List.Sorted.{IsStrictlySortedBy, IsBinarySearchResult, IsPartitionPoint, IsSearchInRange}
use Rattle.std.specs.Ordering.{ordering_reverse}
use Rattle.std.specs.Result.{result_ok}
use Rattle.std.proofs.lemmas.Cmp.{nat_list_cmp_total, tied_itself}
use Rattle.std.proofs.lemmas.List.Sorted.{searchable_from_sorted}
use Rattle.acn_homes.specs.Homes.{Path, Rises, preorder, same, Slot, number}
use Rattle.acn_homes.specs.View.{slot_fields}
use Rattle.acn_homes.proofs.Order.{Behind, same_is, same_itself, same_from, differs}

is_below : (k i : ℕ) → nat_lt k i ≡ true → k < i
is_below k i h = grind (arith, nat_tests)

is_above : (k i : ℕ) → nat_lt k i ≡ false → i ≤ k
is_above k i h = grind (arith, nat_tests)

never : Less ≡ Equal → ⊥
never h = true≢false (sym (ap is_eq h))

over : Greater ≡ Equal → ⊥
over h = true≢false (sym (ap is_eq h))

-- what a place tells
pub position_tells : {A : Type 0} (test : A → Bool) (n : ℕ) (xs : List A) (k : ℕ) → position_from test n xs ≡ Some k → (i : ℕ) × (k ≡ n + i) × (i < length xs) × ((d : A) → test (get_or xs i d) ≡ true)
position_tells {A} test n [] k h = absurd (true≢false (sym (ap is_some h)))
position_tells {A} test n (x ∷ xs) k h = by (test x) refl h (position_tells test (n + 1) xs k)
  where
    by : (t : Bool) → test x ≡ t → cond t (Some n) (position_from test (n + 1) xs) ≡ Some k
        → (position_from test (n + 1) xs ≡ Some k → (i : ℕ) × (k ≡ (n + 1) + i) × (i < length xs) × ((d : A) → test (get_or xs i d) ≡ true))
        → (i : ℕ) × (k ≡ n + i) × (i < length (x ∷ xs)) × ((d : A) → test (get_or (x ∷ xs) i d) ≡ true)
    by true e g rest = (0, (let q = sym (ap (λ (o : Option ℕ). unwrap_or o 0) g) in omega (arith, q)), omega arith, λ d. e)
    by false e g rest = (let r = rest g in (suc r.0, omega (arith, r.1), omega (arith, r.2), λ d. r.3 d))

module _ {X : Type 0} (v : X → Slot) (p : Path) where
  abbrev key : X → Path
  key x = (v x).field

  abbrev test : Slot → Bool
  test s = same s.field p

  behind_key : (f : Path) (xs : List X) (i : ℕ) (d : X) → Behind f (slot_fields (map v xs)) → i < length xs → preorder f (key (get_or xs i d)) ≡ Less
  behind_key f [] i d b h = absurd (omega (arith, h))
  behind_key f (x ∷ xs) zero d b h = b.0
  behind_key f (x ∷ xs) (suc i) d b h = behind_key f xs i d b.1 (omega (arith, h))

  number_at : (n : ℕ) (xs : List X) (i : ℕ) → Rises (slot_fields (map v xs)) → i < length xs → ((d : X) → preorder (key (get_or xs i d)) p ≡ Equal) → position_from test n (map v xs) ≡ Some (n + i)
  unfolding IsStrictlySortedBy
  number_at n [] i r h e = absurd (omega (arith, h))
  number_at n (x ∷ xs) zero r h e =
      ap (λ (t : Bool). cond t (Some n) (position_from test (n + 1) (map v xs))) (subst (λ (z : Path). same (key x) z ≡ true) (same_from (key x) p (e x)) (same_itself (key x)))
      ∙ ap (λ (k : ℕ). Some k) (omega arith)
  number_at n (x ∷ xs) (suc i) r h e =
      let less : preorder (key x) (key (get_or xs i x)) ≡ Less = behind_key (key x) xs i x r.0 (omega (arith, h)) in
      let not_here : same (key x) p ≡ false = subst (λ (z : Path). same (key x) z ≡ false) (same_from (key (get_or xs i x)) p (e x)) (differs (key x) (key (get_or xs i x)) less) in
      ap (λ (t : Bool). cond t (Some n) (position_from test (n + 1) (map v xs))) not_here
      ∙ (number_at (n + 1) xs i r.1 (omega (arith, h)) e ∙ ap (λ (k : ℕ). Some k) (omega arith))

  number_none : (n : ℕ) (xs : List X) → ((i : ℕ) (d : X) → i < length xs → preorder (key (get_or xs i d)) p ≡ Equal → ⊥) → position_from test n (map v xs) ≡ None
  number_none n [] h = refl
  number_none n (x ∷ xs) h = by (same (key x) p) refl (number_none (n + 1) xs (λ i d l e. h (suc i) d (omega (arith, l)) e))
    where
      by : (t : Bool) → same (key x) p ≡ t → position_from test (n + 1) (map v xs) ≡ None → cond t (Some n) (position_from test (n + 1) (map v xs)) ≡ None
      by true e rest = absurd (h zero x (omega arith) (subst (λ (z : Path). preorder (key x) z ≡ Equal) (same_is (key x) p e) (tied_itself nat_list_cmp_total (key x))))
      by false e rest = rest

  not_less : (a b : Path) → preorder a b ≡ Less → is_lt (preorder b a) ≡ false
  not_less a b h = ap is_lt (nat_list_cmp_total.antisymm b a ∙ ap ordering_reverse h)

  neighbours : (xs : List X) (k : ℕ) (d : X) → Rises (slot_fields (map v xs)) → suc k < length xs → is_lt (preorder (key (get_or xs (suc k) d)) (key (get_or xs k d))) ≡ false
  unfolding IsStrictlySortedBy
  neighbours [] k d r h = absurd (omega (arith, h))
  neighbours (x ∷ []) k d r h = absurd (omega (arith, h))
  neighbours (x ∷ y ∷ xs) zero d r h = not_less (key x) (key y) r.0.0
  neighbours (x ∷ y ∷ xs) (suc k) d r h = neighbours (y ∷ xs) k d r.1 (omega (arith, h))

  is_sorted : (xs : List X) → Rises (slot_fields (map v xs)) → IsSortedBy (λ a b. is_lt (preorder (key a) (key b))) xs
  is_sorted xs r k d low high = subst (λ (m : ℕ). is_lt (preorder (key (get_or xs m d)) (key (get_or xs k d))) ≡ false) (sym (add-one k)) (neighbours xs k d r (omega (arith, high)))

  pub searched : (xs : List X) (r : Result ℕ ℕ) → Rises (slot_fields (map v xs)) → IsBinarySearchResult (λ x. preorder (key x) p) xs r → IsSearchInRange r (length xs) → result_ok r ≡ number (map v xs) p
  searched xs (Ok i) rises there within = sym (number_at 0 xs i rises within there ∙ ap (λ (k : ℕ). Some k) (omega arith))
  searched xs (Err i) rises there within = sym (number_none 0 xs none)
    where
      parts : IsPartitionPoint (λ x. preorder (key x) p ≡ Less) (λ x. preorder (key x) p ≡ Greater) xs i
      parts = there (searchable_from_sorted nat_list_cmp_total key xs p (is_sorted xs rises))

      by : (k : ℕ) (d : X) (t : Bool) → nat_lt k i ≡ t → k < length xs → preorder (key (get_or xs k d)) p ≡ Equal → ⊥
      by k d true lt l e = never (sym (parts.0 k d (omega arith) (is_below k i lt)) ∙ e)
      by k d false ge l e = over (sym (parts.1 k d (is_above k i ge) l) ∙ e)

      none : (k : ℕ) (d : X) → k < length xs → preorder (key (get_or xs k d)) p ≡ Equal → ⊥
      none k d l e = by k d (nat_lt k i) refl l e

pub found_within : (r : Result ℕ ℕ) (n : ℕ) → IsSearchInRange r n → IfSome (result_ok r) (λ at. at < n)
found_within (Ok i) n h = h
found_within (Err i) n h = tt

-- a number is a place, where the field stands
pub number_here : (all : List Slot) (f : Path) (i : ℕ) → number all f ≡ Some i → (i < length all) × ((d : Slot) → same (get_or all i d).field f ≡ true)
number_here all f i h =
    let r = position_tells (λ (s : Slot). same s.field f) 0 all i h in
    let e : r.0 ≡ i = omega (arith, r.1) in
    subst (λ (k : ℕ). (k < length all) × ((d : Slot) → same (get_or all k d).field f ≡ true)) e (r.2, r.3)
