-- Files found by name, after one of them changed and after one more.
use Rattle.std.proofs.Common.{◌≡◌, ◌<◌, ◌≤◌, ℕ, Bool, true, false, not, cond, nat_lt, List, [], ◌∷◌, ◌++◌, Option, None, Some, length, set, get_or, position, find, if◌then◌else◌, refl, sym, ap, ◌∙◌, subst, arith, bytes_eq, slice_get}
use Rattle.std.specs.List.{position_or_len}
use Rattle.std.specs.Option.{option_or}
use Rattle.std.proofs.lemmas.Bool.Decides.{nat_tests}
use Rattle.std.proofs.lemmas.Option.{slice_get_past, slice_get_read}
use Rattle.std.proofs.lemmas.List.Folds.{find_at, find-set, find_past, find-append}
use Rattle.std.proofs.lemmas.List.Sums.{prefix_len_stops}
use Rattle.std.proofs.lemmas.Slice.Eq.{bytes_eq-Decides}
use Rattle.acn_outside.specs.declared.entry.Entry.{Entry}
use Rattle.acn_outside.specs.Entries.{has_name}

placed_by : (b : Bool) (k i n : ℕ) → b ≡ nat_lt k n → cond b (Some k) None ≡ Some i → (i ≡ k) × (i < n)
placed_by true k i n test is =
    let same : k ≡ i = cc is in
    (sym same, grind (arith, nat_tests))
placed_by false k i n test is = let no : ⊥ = cc is in absurd no

absent_by : (b : Bool) (k n : ℕ) → b ≡ nat_lt k n → cond b (Some k) None ≡ None → n ≤ k
absent_by true k n test is = let no : ⊥ = cc is in absurd no
absent_by false k n test is = grind (arith, nat_tests)

-- the place of the first entry that passes
pub placed : (p : Entry → Bool) (xs : List Entry) (i : ℕ) → position p xs ≡ Some i → (i ≡ position_or_len p xs) × (i < length xs)
placed p xs i is = placed_by _ (position_or_len p xs) i (length xs) refl is

-- the entry at that place is the one that is found
pub found_at : (p : Entry → Bool) (xs : List Entry) (i : ℕ) (e : Entry) → position p xs ≡ Some i → e ≡ get_or xs i e → find p xs ≡ Some e
found_at p xs i e is read =
    let at = placed p xs i is in
    find_at p xs ∙ ap (λ k. slice_get xs k) (sym (at.0)) ∙ slice_get_read xs (length xs) i e refl (at.1) read

-- where none has a place, none is found
pub not_found : (p : Entry → Bool) (xs : List Entry) → position p xs ≡ None → find p xs ≡ None
not_found p xs is = find_at p xs ∙ slice_get_past xs (position_or_len p xs) (absent_by _ (position_or_len p xs) (length xs) refl is)

-- the entry at that place passes
pub passes_at : (p : Entry → Bool) (xs : List Entry) (i : ℕ) (d : Entry) → position p xs ≡ Some i → p (get_or xs i d) ≡ true
passes_at p xs i d is =
    let at = placed p xs i is in
    let stops : not (p (get_or xs (position_or_len p xs) d)) ≡ false = prefix_len_stops (λ x. not (p x)) xs d (omega arith) in
    let here : not (p (get_or xs i d)) ≡ false = rw (at.0) stops in
    turned (p (get_or xs i d)) here
  where
    turned : (b : Bool) → not b ≡ false → b ≡ true
    turned true h = refl
    turned false h = let no : ⊥ = cc h in absurd no

other_name : (a b m : List ℕ) → bytes_eq a b ≡ true → bytes_eq b m ≡ false → bytes_eq a m ≡ false
other_name a b m one other =
    let same : a ≡ b = (bytes_eq-Decides a b).0 one in
    ap (λ (n : List ℕ). bytes_eq n m) same ∙ other

-- what is found after the entry of a name was written over
pub found_after_set : (xs : List Entry) (i : ℕ) (y : Entry) (name m : List ℕ) → position (has_name name) xs ≡ Some i → bytes_eq y.name name ≡ true
    → find (has_name m) (set xs i y) ≡ (if bytes_eq name m then Some y else find (has_name m) xs)
found_after_set xs i y name m is own = by_name (bytes_eq name m) refl
  where
    by_name : (b : Bool) → b ≡ bytes_eq name m → find (has_name m) (set xs i y) ≡ (if b then Some y else find (has_name m) xs)
    by_name true same =
        let one : name ≡ m = (bytes_eq-Decides name m).0 (sym same) in
        let at = placed (has_name name) xs i is in
        subst (λ (n : List ℕ). find (has_name n) (set xs i y) ≡ Some y) one (find-set (has_name name) xs i y (at.0) (at.1) own)
    by_name false other =
        find_past (has_name m) xs i y y (other_name _ name m (passes_at (has_name name) xs i y is) (sym other)) (other_name _ name m own (sym other))

nothing_after : (o : Option Entry) → option_or o None ≡ o
nothing_after None = refl
nothing_after (Some e) = refl

-- what is found after one more entry of a new name
pub found_after_push : (xs : List Entry) (y : Entry) (m : List ℕ) → find (has_name y.name) xs ≡ None
    → find (has_name m) (xs ++ y ∷ []) ≡ (if bytes_eq y.name m then Some y else find (has_name m) xs)
found_after_push xs y m none = find-append (has_name m) xs (y ∷ []) ∙ by_name (bytes_eq y.name m) refl
  where
    by_name : (b : Bool) → b ≡ bytes_eq y.name m → option_or (find (has_name m) xs) (cond (bytes_eq y.name m) (Some y) None) ≡ (if b then Some y else find (has_name m) xs)
    by_name true same =
        let one : y.name ≡ m = (bytes_eq-Decides y.name m).0 (sym same) in
        let gone : find (has_name m) xs ≡ None = subst (λ (n : List ℕ). find (has_name n) xs ≡ None) one none in
        rw gone (rw (← same) refl)
    by_name false other = rw (← other) (nothing_after (find (has_name m) xs))
