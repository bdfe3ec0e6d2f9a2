-- Contents and counts by name, after one entry changed.
use Rattle.std.proofs.Common.{◌≡◌, ◌<◌, ◌≤◌, ℕ, arith, inl, inr, nat_lt, Bool, true, false, ◌&&◌, ◌||◌, List, [], ◌∷◌, ◌++◌, Option, None, Some, option_map, is_none, set, get_or, position, find, min, ◌+◌, if◌then◌else◌, refl, sym, ap, ◌∙◌, subst, bytes_eq}
use Rattle.std.specs.Option.{option_map_or}
use Rattle.std.proofs.lemmas.Slice.Eq.{bytes_eq-Decides}
use Rattle.acn_outside.specs.declared.entry.Entry.{Entry}
use Rattle.std.proofs.lemmas.Bool.Decides.{nat_tests}
use Rattle.acn_outside.specs.Counts.{Rose}
use Rattle.acn_outside.specs.Memory.{one_more}
use Rattle.acn_outside.specs.Entries.{has_name, contents_of, faults_of, is_absent, share_count}
use Rattle.acn_outside.proofs.Named.{found_at, not_found, passes_at, found_after_set, found_after_push}

-- one entry is written over by another of the same name
pub record Over (xs : List Entry) (i : ℕ) (name : List ℕ) (e y : Entry) : Type 0 where
  pub place : position (has_name name) xs ≡ Some i
  pub old : e ≡ get_or xs i e
  pub own : y.name ≡ e.name

over_found : (xs : List Entry) (i : ℕ) (name : List ℕ) (e y : Entry) (m : List ℕ) → Over xs i name e y
    → find (has_name m) (set xs i y) ≡ (if bytes_eq name m then Some y else find (has_name m) xs)
over_found xs i name e y m over =
    let has : bytes_eq (get_or xs i e).name name ≡ true = passes_at (has_name name) xs i e over.place in
    let named : bytes_eq e.name name ≡ true = ap (λ (x : Entry). bytes_eq x.name name) over.old ∙ has in
    found_after_set xs i y name m over.place (ap (λ (n : List ℕ). bytes_eq n name) over.own ∙ named)

over_old : (xs : List Entry) (i : ℕ) (name : List ℕ) (e y : Entry) (m : List ℕ) → Over xs i name e y → bytes_eq name m ≡ true → find (has_name m) xs ≡ Some e
over_old xs i name e y m over same =
    subst (λ (n : List ℕ). find (has_name n) xs ≡ Some e) ((bytes_eq-Decides name m).0 same) (found_at (has_name name) xs i e over.place over.old)

-- what is read of the entries stays where the two entries agree in it
kept : (X : Type 0) (f : Option Entry → X) (xs : List Entry) (i : ℕ) (name : List ℕ) (e y : Entry) (m : List ℕ) → Over xs i name e y → f (Some y) ≡ f (Some e)
    → f (find (has_name m) (set xs i y)) ≡ f (find (has_name m) xs)
kept X f xs i name e y m over same = ap f (over_found xs i name e y m over) ∙ by_name (bytes_eq name m) refl
  where
    by_name : (b : Bool) → b ≡ bytes_eq name m → f (if b then Some y else find (has_name m) xs) ≡ f (find (has_name m) xs)
    by_name true one = same ∙ ap f (sym (over_old xs i name e y m over (sym one)))
    by_name false other = refl

pub contents_kept : (xs : List Entry) (i : ℕ) (name : List ℕ) (e y : Entry) (m : List ℕ) → Over xs i name e y → y.bytes ≡ e.bytes
    → contents_of (set xs i y) m ≡ contents_of xs m
contents_kept xs i name e y m over same =
    kept (Option (List ℕ)) (λ o. option_map (λ x. x.bytes.items) o) xs i name e y m over (ap (λ b. Some b.items) same)

pub faults_kept : (xs : List Entry) (i : ℕ) (name : List ℕ) (e y : Entry) (others : ℕ) (m : List ℕ) → Over xs i name e y → y.faults ≡ e.faults
    → faults_of (set xs i y) others m ≡ faults_of xs others m
faults_kept xs i name e y others m over same =
    kept ℕ (λ o. option_map_or (λ x. x.faults) o others) xs i name e y m over same

pub contents_new : (xs : List Entry) (i : ℕ) (name : List ℕ) (e y : Entry) (m : List ℕ) → Over xs i name e y
    → contents_of (set xs i y) m ≡ (if bytes_eq name m then Some y.bytes.items else contents_of xs m)
contents_new xs i name e y m over = ap (option_map (λ x. x.bytes.items)) (over_found xs i name e y m over) ∙ by_name (bytes_eq name m)
  where
    by_name : (b : Bool) → option_map (λ x. x.bytes.items) (if b then Some y else find (has_name m) xs) ≡ (if b then Some y.bytes.items else contents_of xs m)
    by_name true = refl
    by_name false = refl

-- a fault of a name that was added is counted for that name alone
pub faults_risen : (xs : List Entry) (i : ℕ) (name : List ℕ) (e y : Entry) (others : ℕ) (m : List ℕ) → Over xs i name e y → y.faults ≡ one_more e.faults
    → faults_of (set xs i y) others m ≡ (if share_count xs name m then one_more (faults_of xs others m) else faults_of xs others m)
faults_risen xs i name e y others m over more =
    ap (λ o. option_map_or (λ x. x.faults) o others) (over_found xs i name e y m over) ∙ by_name (bytes_eq name m) refl
  where
    there : is_absent xs name ≡ false
    there = ap (λ o. is_none (option_map (λ x. x.bytes.items) o)) (found_at (has_name name) xs i e over.place over.old)

    by_name : (b : Bool) → b ≡ bytes_eq name m → option_map_or (λ x. x.faults) (if b then Some y else find (has_name m) xs) others ≡ (if (b || (is_absent xs name && is_absent xs m)) then one_more (faults_of xs others m) else faults_of xs others m)
    by_name true one = more ∙ ap (λ o. one_more (option_map_or (λ x. x.faults) o others)) (sym (over_old xs i name e y m over (sym one)))
    by_name false other = rw there refl

-- a fault of a name that wasn't added is counted for all such names
pub others_risen : (xs : List Entry) (name : List ℕ) (others : ℕ) (m : List ℕ) → position (has_name name) xs ≡ None
    → faults_of xs (one_more others) m ≡ (if share_count xs name m then one_more (faults_of xs others m) else faults_of xs others m)
others_risen xs name others m none = by_found (find (has_name m) xs) refl (bytes_eq name m) refl
  where
    gone : find (has_name name) xs ≡ None
    gone = not_found (has_name name) xs none

    absent : is_absent xs name ≡ true
    absent = ap (λ o. is_none (option_map (λ x. x.bytes.items) o)) gone

    by_found : (o : Option Entry) → o ≡ find (has_name m) xs → (b : Bool) → b ≡ bytes_eq name m
        → option_map_or (λ x. x.faults) o (one_more others) ≡ (if (b || (is_absent xs name && is_none (option_map (λ x. x.bytes.items) o))) then one_more (option_map_or (λ x. x.faults) o others) else option_map_or (λ x. x.faults) o others)
    by_found None is true one = refl
    by_found None is false other = rw absent refl
    by_found (Some e) is true one =
        let here : find (has_name m) xs ≡ None = subst (λ (n : List ℕ). find (has_name n) xs ≡ None) ((bytes_eq-Decides name m).0 (sym one)) gone in
        let no : ⊥ = cc (is, here) in
        absurd no
    by_found (Some e) is false other = rw absent refl

-- one more entry of a new name
pub contents_pushed : (xs : List Entry) (y : Entry) (m : List ℕ) → position (has_name y.name) xs ≡ None
    → contents_of (xs ++ y ∷ []) m ≡ (if bytes_eq y.name m then Some y.bytes.items else contents_of xs m)
contents_pushed xs y m none = ap (option_map (λ x. x.bytes.items)) (found_after_push xs y m (not_found (has_name y.name) xs none)) ∙ by_name (bytes_eq y.name m)
  where
    by_name : (b : Bool) → option_map (λ x. x.bytes.items) (if b then Some y else find (has_name m) xs) ≡ (if b then Some y.bytes.items else contents_of xs m)
    by_name true = refl
    by_name false = refl

-- it begins with the count of the others, so no name's count changes
pub faults_pushed : (xs : List Entry) (y : Entry) (m : List ℕ) → position (has_name y.name) xs ≡ None
    → faults_of (xs ++ y ∷ []) y.faults m ≡ faults_of xs y.faults m
faults_pushed xs y m none =
    ap (λ o. option_map_or (λ x. x.faults) o y.faults) (found_after_push xs y m gone) ∙ by_name (bytes_eq y.name m) refl
  where
    gone : find (has_name y.name) xs ≡ None
    gone = not_found (has_name y.name) xs none

    by_name : (b : Bool) → b ≡ bytes_eq y.name m → option_map_or (λ x. x.faults) (if b then Some y else find (has_name m) xs) y.faults ≡ faults_of xs y.faults m
    by_name true one =
        let here : find (has_name m) xs ≡ None = subst (λ (n : List ℕ). find (has_name n) xs ≡ None) ((bytes_eq-Decides y.name m).0 (sym one)) gone in
        sym (ap (λ o. option_map_or (λ x. x.faults) o y.faults) here)
    by_name false other = refl

-- one more is what a sum that stands still at its greatest number gives
pub one_more_is : (n k : ℕ) → n < 18446744073709551616 → k ≡ min (n + 1) 18446744073709551615 → k ≡ one_more n
one_more_is n k fits is = grind (arith, nat_tests)

more_rises : (n : ℕ) → n ≤ one_more n
more_rises n = grind (arith, nat_tests)

more_rose : (n : ℕ) → n < 18446744073709551616 → Rose n (one_more n)
more_rose n fits = by_test (nat_lt n 18446744073709551615) refl
  where
    by_test : (b : Bool) → b ≡ nat_lt n 18446744073709551615 → Rose n (if b then n + 1 else n)
    by_test true below = inl (omega arith)
    by_test false top = inr (grind (arith, nat_tests))

-- no count falls, and that of the name itself rose
pub none_falls : (b : Bool) (n k : ℕ) → k ≡ (if b then one_more n else n) → n ≤ k
none_falls true n k is = rw is (more_rises n)
none_falls false n k is = omega arith

pub own_rose : (xs : List Entry) (name : List ℕ) (n k : ℕ) → n < 18446744073709551616 → k ≡ (if share_count xs name name then one_more n else n) → Rose n k
own_rose xs name n k fits is =
    let one : bytes_eq name name ≡ true = (bytes_eq-Decides name name).1 refl in
    let more : k ≡ one_more n = rw one at is in
    rw more (more_rose n fits)

-- the count of a name that was added
pub faults_there : (xs : List Entry) (i : ℕ) (name : List ℕ) (e : Entry) (others : ℕ) → position (has_name name) xs ≡ Some i → e ≡ get_or xs i e → faults_of xs others name ≡ e.faults
faults_there xs i name e others place old = ap (λ o. option_map_or (λ x. x.faults) o others) (found_at (has_name name) xs i e place old)

-- the count of a name that wasn't added
pub faults_elsewhere : (xs : List Entry) (name : List ℕ) (others : ℕ) → position (has_name name) xs ≡ None → faults_of xs others name ≡ others
faults_elsewhere xs name others none = ap (λ o. option_map_or (λ x. x.faults) o others) (not_found (has_name name) xs none)
