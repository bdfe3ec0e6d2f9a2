-- The first place of a name, as it is kept, is where the first with this name stands.
use Rattle.std.proofs.Common.{◌≡◌, ℕ, suc, ◌+◌, ◌<◌, Bool, true, false, cond, ◌||◌, List, [], ◌∷◌, ◌++◌, length, Option, Some, None, refl, sym, ap, ◌∙◌, arith}
use Rattle.std.specs.Prelude.{map, option_map, option_and_then, slice_get, find}
use Rattle.std.specs.List.{list_any, position_from}
use Rattle.std.specs.Str.{bytes_eq}
use Rattle.std.specs.Cmp.Lexicographic.{nat_list_eq_equiv}
use Rattle.acn_firsts.specs.Placed.{place_of, noted, noted_all, noted_at}
use Rattle.acn_num.specs.Names.{Name}
use Rattle.acn_index.specs.Keyed.{keyed}

either : (a b : Bool) (x y : Option ℕ) → cond a x (cond b x y) ≡ cond (a || b) x y
either true b x y = refl
either false b x y = refl

-- the names of one thing stand at its place
of_names : (q : Name) (ns : List Name) (i : ℕ) (rest : List (Name × ℕ)) → place_of q (map (λ (n : Name). (n, i)) ns ++ rest) ≡ cond (list_any (bytes_eq q) ns) (Some i) (place_of q rest)
unfolding place_of
of_names q [] i rest = refl
of_names q (n ∷ ns) i rest = ap (cond (bytes_eq q n) (Some i)) (of_names q ns i rest) ∙ either (bytes_eq q n) (list_any (bytes_eq q) ns) (Some i) (place_of q rest)

module _ {A : Type 0} (names : A → List Name) (test : A → Bool) (q : Name) (same : (x : A) → test x ≡ list_any (bytes_eq q) (names x)) where
  pub first_from : (i : ℕ) (xs : List A) → place_of q (keyed names i xs) ≡ position_from test i xs
  unfolding place_of
  first_from i [] = refl
  first_from i (x ∷ xs) =
      of_names q (names x) i (keyed names (i + 1) xs) ∙ (ap (cond (list_any (bytes_eq q) (names x)) (Some i)) (first_from (i + 1) xs) ∙ ap (λ b. cond b (Some i) (position_from test (i + 1) xs)) (sym (same x)))

-- a name is told alike from both sides
pub alone : (a q : Name) → bytes_eq a q ≡ list_any (bytes_eq q) (a ∷ [])
alone a q = nat_list_eq_equiv.symm a q ∙ or_false (bytes_eq q a)
  where
    or_false : (b : Bool) → b ≡ (b || false)
    or_false true = refl
    or_false false = refl

-- ---- what stands at the first place

module _ {A : Type 0} (test : A → Bool) where
  later : (i : ℕ) (xs : List A) → position_from test (i + 1) xs ≡ option_map suc (position_from test i xs)
  later i [] = refl
  later i (x ∷ xs) = ap (cond (test x) (Some (i + 1))) (later (i + 1) xs) ∙ by (test x)
    where
      by : (b : Bool) → cond b (Some (i + 1)) (option_map suc (position_from test (i + 1) xs)) ≡ option_map suc (cond b (Some i) (position_from test (i + 1) xs))
      by true = ap Some (omega arith)
      by false = refl

  shifted : (x : A) (xs : List A) (o : Option ℕ) → option_and_then (slice_get xs) o ≡ option_and_then (slice_get (x ∷ xs)) (option_map suc o)
  shifted x xs None = refl
  shifted x xs (Some k) = refl

  next_found : (x : A) (xs : List A) (b : Bool) → option_and_then (slice_get xs) (position_from test 0 xs) ≡ find test xs → option_and_then (slice_get (x ∷ xs)) (cond b (Some 0) (position_from test 1 xs)) ≡ cond b (Some x) (find test xs)
  next_found x xs true e = refl
  next_found x xs false e = ap (option_and_then (slice_get (x ∷ xs))) (later 0 xs) ∙ (sym (shifted x xs (position_from test 0 xs)) ∙ e)

  pub found_at : (xs : List A) → option_and_then (slice_get xs) (position_from test 0 xs) ≡ find test xs
  found_at [] = refl
  found_at (x ∷ xs) = next_found x xs (test x) (found_at xs)

  next_within : (i k n : ℕ) (b : Bool) (more : Option ℕ) → cond b (Some i) more ≡ Some k → (more ≡ Some k → k < i + 1 + n) → k < i + suc n
  next_within i k n true more e h = let same : i ≡ k = cc e in omega arith
  next_within i k n false more e h = let l = h e in omega arith

  within_from : (i : ℕ) (xs : List A) (k : ℕ) → position_from test i xs ≡ Some k → k < i + length xs
  within_from i [] k e = absurd (cc e)
  within_from i (x ∷ xs) k e = next_within i k (length xs) (test x) (position_from test (i + 1) xs) e (within_from (i + 1) xs k)

  pub place_within : (xs : List A) (k : ℕ) → position_from test 0 xs ≡ Some k → k < length xs
  place_within xs k e = let h = within_from 0 xs k e in omega arith

-- ---- noting in turn

noted_joined : (all xs ys : List (Name × ℕ)) → noted_all all (xs ++ ys) ≡ noted_all (noted_all all xs) ys
unfolding noted_all
noted_joined all [] ys = refl
noted_joined all (x ∷ xs) ys = noted_joined (noted all x.0 x.1) xs ys

-- what has several names
pub one_step : {A : Type 0} (names : A → List Name) (all : List (Name × ℕ)) (i : ℕ) (x : A) (xs : List A) → noted_all all (keyed names i (x ∷ xs)) ≡ noted_all (noted_at all (names x) i) (keyed names (i + 1) xs)
unfolding noted_all
one_step names all i x xs = noted_joined all (map (λ (n : Name). (n, i)) (names x)) (keyed names (i + 1) xs)
