-- What a sort leaves without doubles is what is put in one by one.
use Rattle.std.proofs.Common.{◌≡◌, Bool, true, false, ◌||◌, cond, true≢false, List, [], ◌∷◌, map, fold, refl, sym, ap, ◌∙◌, Less, IsPermutation, IsSorted}
use Rattle.std.specs.Cmp.Lexicographic.{on_texts, texts_ties}
use Rattle.std.specs.List.{list_any, dedup, dedup_from, AllByRecursion}
use Rattle.std.specs.List.Sorted.{IsStrictlySortedBy}
use Rattle.std.proofs.lemmas.List.Kept.{IsStrictlySortedBy-dedup}
use Rattle.std.proofs.lemmas.List.Sorted.{list_any-IsPermutation}
use Rattle.acn_homes.specs.Homes.{Path, preorder, same, is_among, put, Rises}
use Rattle.acn_homes.proofs.Order.{Behind, same_is, same_lists}
use Rattle.acn_homes.proofs.Placed.{all_rise, all_among}

module _ {X : Type 0} (key : X → Path) where
  abbrev alike : X → X → Bool
  alike x y = same (key x) (key y)

  behind_keys : (x : X) (ys : List X) → AllByRecursion (λ y. preorder (key x) (key y) ≡ Less) ys → Behind (key x) (map key ys)
  behind_keys x [] a = tt
  behind_keys x (y ∷ ys) a = (a.0, behind_keys x ys a.1)

  keys_rise : (xs : List X) → IsStrictlySortedBy (λ x y. preorder (key x) (key y)) xs → Rises (map key xs)
  unfolding IsStrictlySortedBy
  keys_rise [] r = tt
  keys_rise (x ∷ xs) r = (behind_keys x xs r.0, keys_rise xs r.1)

  any_of_keys : (q : Path) (xs : List X) → list_any (λ x. same q (key x)) xs ≡ is_among q (map key xs)
  any_of_keys q [] = refl
  any_of_keys q (x ∷ xs) = ap (λ (t : Bool). same q (key x) || t) (any_of_keys q xs)

  twice : (a b c : Bool) → a ≡ b → (a || c) ≡ (a || (b || c))
  twice true b c e = refl
  twice false true c e = absurd (true≢false (sym e))
  twice false false c e = refl

  kept_from : (q : Path) (k : X) (xs : List X) → is_among q (map key (dedup_from alike k xs)) ≡ is_among q (map key (k ∷ xs))
  kept_from q k [] = refl
  kept_from q k (x ∷ xs) = by (alike x k) refl (kept_from q k xs) (kept_from q x xs)
    where
      by : (t : Bool) → alike x k ≡ t → is_among q (map key (dedup_from alike k xs)) ≡ is_among q (map key (k ∷ xs)) → is_among q (map key (dedup_from alike x xs)) ≡ is_among q (map key (x ∷ xs))
          → is_among q (map key (cond t (dedup_from alike k xs) (k ∷ dedup_from alike x xs))) ≡ (same q (key k) || (same q (key x) || is_among q (map key xs)))
      by true e h g = h ∙ twice (same q (key k)) (same q (key x)) (is_among q (map key xs)) (ap (same q) (sym (same_is (key x) (key k) e)))
      by false e h g = ap (λ (t : Bool). same q (key k) || t) g

  kept : (q : Path) (xs : List X) → is_among q (map key (dedup alike xs)) ≡ is_among q (map key xs)
  kept q [] = refl
  kept q (x ∷ xs) = kept_from q x xs

  pub sorted_keys : (items sorted : List X) → IsPermutation items sorted → IsSorted (λ x y. preorder (key x) (key y)) sorted → map key (dedup alike sorted) ≡ fold put [] (map key items)
  unfolding IsStrictlySortedBy
  sorted_keys items sorted p s =
      same_lists (map key (dedup alike sorted)) (fold put [] (map key items))
      (keys_rise (dedup alike sorted) (IsStrictlySortedBy-dedup (on_texts key) (λ x y. texts_ties (key x) (key y)) sorted s))
      (all_rise (map key items) [] tt)
      (λ q. kept q sorted ∙ (sym (any_of_keys q sorted) ∙ (sym (list_any-IsPermutation (λ x. same q (key x)) items sorted p) ∙ (any_of_keys q items ∙ sym (all_among q (map key items) [])))))
