-- What items in the order of their numbers have in common with items in the order of the text.
use Rattle.std.proofs.Common.{◌≡◌, suc, Bool, true, false, not, ◌&&◌, ◌||◌, cond, List, [], ◌∷◌, map, length, Some, refl, ap, ◌∙◌, ℤ, arith}
use Rattle.std.specs.Prelude.{int_le}
use Rattle.std.specs.Int.{int_min, int_max}
use Rattle.std.specs.List.{list_any, zip}
use Rattle.std.proofs.lemmas.Int.{ints, clamps}
use Rattle.acn_grammar.specs.Images.{ends, ends_from}
use Rattle.acn_grammar.specs.Leaves.{all_differ}
use Rattle.acn_leaves.specs.Ordered.{put, ascending}

-- ---- lists

pub length_map : {A B : Type 0} (f : A → B) (xs : List A) → length (map f xs) ≡ length xs
length_map f [] = refl
length_map f (x ∷ xs) = ap (λ n. suc n) (length_map f xs)

pub map_map : {A B C : Type 0} (f : A → B) (g : B → C) (xs : List A) → map g (map f xs) ≡ map (λ x. g (f x)) xs
map_map f g [] = refl
map_map f g (x ∷ xs) = ap (λ l. g (f x) ∷ l) (map_map f g xs)

pub any_map : {A B : Type 0} (f : A → B) (p : B → Bool) (xs : List A) → list_any p (map f xs) ≡ list_any (λ x. p (f x)) xs
any_map f p [] = refl
any_map f p (x ∷ xs) = ap (λ t. p (f x) || t) (any_map f p xs)

pub differ_map : {A B : Type 0} (f : A → B) (same : B → B → Bool) (xs : List A) → all_differ same (map f xs) ≡ all_differ (λ x y. same (f x) (f y)) xs
differ_map f same [] = refl
differ_map f same (x ∷ xs) = ap (λ t. not t && all_differ same (map f xs)) (any_map f (same (f x)) xs) ∙ ap (λ t. not (list_any (λ y. same (f x) (f y)) xs) && t) (differ_map f same xs)

-- the second parts of two lists of one length, side by side
pub second_parts : {A B : Type 0} (xs : List A) (ys : List B) → length xs ≡ length ys → map (λ (p : A × B). p.1) (zip xs ys) ≡ ys
second_parts [] [] h = refl
second_parts [] (y ∷ ys) h = absurd (omega (arith, h))
second_parts (x ∷ xs) [] h = absurd (omega (arith, h))
second_parts (x ∷ xs) (y ∷ ys) h = ap (λ l. y ∷ l) (second_parts xs ys (omega (arith, h)))

pub first_parts : {A B : Type 0} (xs : List A) (ys : List B) → length xs ≡ length ys → map (λ (p : A × B). p.0) (zip xs ys) ≡ xs
first_parts [] [] h = refl
first_parts [] (y ∷ ys) h = absurd (omega (arith, h))
first_parts (x ∷ xs) [] h = absurd (omega (arith, h))
first_parts (x ∷ xs) (y ∷ ys) h = ap (λ l. x ∷ l) (first_parts xs ys (omega (arith, h)))

-- ---- in another order

pub one_min : (a b : ℤ) → int_min a b ≡ int_min b a
one_min a b = omega (arith, ints, clamps)

pub one_max : (a b : ℤ) → int_max a b ≡ int_max b a
one_max a b = omega (arith, ints, clamps)

swap_or : (a b c : Bool) → (a || (b || c)) ≡ (b || (a || c))
swap_or true true c = refl
swap_or true false c = refl
swap_or false b c = refl

swap_differ : (t a b d : Bool) → (not (t || a) && (not b && d)) ≡ (not (t || b) && (not a && d))
swap_differ true a b d = refl
swap_differ false true true d = refl
swap_differ false true false d = refl
swap_differ false false true d = refl
swap_differ false false false d = refl

module _ {X : Type 0} (key : X → ℤ) where
  any_put : (p : X → Bool) (i : X) (js : List X) → list_any p (put key i js) ≡ list_any p (i ∷ js)
  any_put p i [] = refl
  any_put p i (j ∷ js) = by (int_le (key i) (key j)) (any_put p i js)
    where
      by : (b : Bool) → list_any p (put key i js) ≡ list_any p (i ∷ js) → list_any p (cond b (i ∷ j ∷ js) (j ∷ put key i js)) ≡ list_any p (i ∷ j ∷ js)
      by true e = refl
      by false e = ap (λ t. p j || t) e ∙ swap_or (p j) (p i) (list_any p js)

  any_ascending : (p : X → Bool) (is : List X) → list_any p (ascending key is) ≡ list_any p is
  any_ascending p [] = refl
  any_ascending p (i ∷ is) = any_put p i (ascending key is) ∙ ap (λ t. p i || t) (any_ascending p is)

  length_put : (i : X) (js : List X) → length (put key i js) ≡ suc (length js)
  length_put i [] = refl
  length_put i (j ∷ js) = by (int_le (key i) (key j)) (length_put i js)
    where
      by : (b : Bool) → length (put key i js) ≡ suc (length js) → length (cond b (i ∷ j ∷ js) (j ∷ put key i js)) ≡ suc (length (j ∷ js))
      by true e = refl
      by false e = ap (λ n. suc n) e

  pub length_ascending : (is : List X) → length (ascending key is) ≡ length is
  length_ascending [] = refl
  length_ascending (i ∷ is) = length_put i (ascending key is) ∙ ap (λ n. suc n) (length_ascending is)

  module _ (same : X → X → Bool) (symmetric : (x y : X) → same x y ≡ same y x) where
    differ_put : (i : X) (js : List X) → all_differ same (put key i js) ≡ all_differ same (i ∷ js)
    differ_put i [] = refl
    differ_put i (j ∷ js) = by (int_le (key i) (key j)) (differ_put i js)
      where
        by : (b : Bool) → all_differ same (put key i js) ≡ all_differ same (i ∷ js) → all_differ same (cond b (i ∷ j ∷ js) (j ∷ put key i js)) ≡ all_differ same (i ∷ j ∷ js)
        by true e = refl
        by false e =
            ap (λ t. not t && all_differ same (put key i js)) (any_put (same j) i js)
            ∙ (ap (λ t. not (same j i || list_any (same j) js) && t) e
            ∙ (ap (λ t. not (t || list_any (same j) js) && (not (list_any (same i) js) && all_differ same js)) (symmetric j i)
            ∙ swap_differ (same i j) (list_any (same j) js) (list_any (same i) js) (all_differ same js)))

    pub differ_ascending : (is : List X) → all_differ same (ascending key is) ≡ all_differ same is
    differ_ascending [] = refl
    differ_ascending (i ∷ is) =
        differ_put i (ascending key is)
        ∙ (ap (λ t. not t && all_differ same (ascending key is)) (any_ascending (same i) is) ∙ ap (λ t. not (list_any (same i) is) && t) (differ_ascending is))

  -- ---- the least and the greatest number

  module _ (value : X → ℤ) where
    abbrev twice : X → ℤ × ℤ
    twice x = (value x, value x)

    both_ends : (a b c d : ℤ) → a ≡ b → c ≡ d → ◌≡◌ {A = ℤ × ℤ} (a, c) (b, d)
    both_ends a b c d e f = cc

    swap_min : (a b c : ℤ) → int_min (int_min a b) c ≡ int_min (int_min a c) b
    swap_min a b c = omega (arith, ints, clamps)

    swap_max : (a b c : ℤ) → int_max (int_max a b) c ≡ int_max (int_max a c) b
    swap_max a b c = omega (arith, ints, clamps)

    from_put : (e : ℤ × ℤ) (i : X) (js : List X) → ends_from e (map twice (put key i js)) ≡ ends_from e (map twice (i ∷ js))
    from_put e i [] = refl
    from_put e i (j ∷ js) = by (int_le (key i) (key j)) (from_put (int_min e.0 (value j), int_max e.1 (value j)) i js)
      where
        by : (b : Bool) → ends_from (int_min e.0 (value j), int_max e.1 (value j)) (map twice (put key i js)) ≡ ends_from (int_min e.0 (value j), int_max e.1 (value j)) (map twice (i ∷ js))
            → ends_from e (map twice (cond b (i ∷ j ∷ js) (j ∷ put key i js))) ≡ ends_from e (map twice (i ∷ j ∷ js))
        by true h = refl
        by false h = h ∙ ap (λ (f : ℤ × ℤ). ends_from f (map twice js)) (both_ends (int_min (int_min e.0 (value j)) (value i)) (int_min (int_min e.0 (value i)) (value j)) (int_max (int_max e.1 (value j)) (value i)) (int_max (int_max e.1 (value i)) (value j)) (swap_min e.0 (value j) (value i)) (swap_max e.1 (value j) (value i)))

    from_ascending : (e : ℤ × ℤ) (is : List X) → ends_from e (map twice (ascending key is)) ≡ ends_from e (map twice is)
    from_ascending e [] = refl
    from_ascending e (i ∷ is) = from_put e i (ascending key is) ∙ from_ascending (int_min e.0 (value i), int_max e.1 (value i)) is

    ends_put : (i : X) (js : List X) → ends (map twice (put key i js)) ≡ ends (map twice (i ∷ js))
    ends_put i [] = refl
    ends_put i (j ∷ js) = by (int_le (key i) (key j))
      where
        by : (b : Bool) → ends (map twice (cond b (i ∷ j ∷ js) (j ∷ put key i js))) ≡ ends (map twice (i ∷ j ∷ js))
        by true = refl
        by false = ap Some (from_put (twice j) i js ∙ ap (λ (f : ℤ × ℤ). ends_from f (map twice js)) (both_ends (int_min (value j) (value i)) (int_min (value i) (value j)) (int_max (value j) (value i)) (int_max (value i) (value j)) (one_min (value j) (value i)) (one_max (value j) (value i))))

    pub ends_ascending : (is : List X) → ends (map twice (ascending key is)) ≡ ends (map twice is)
    ends_ascending [] = refl
    ends_ascending (i ∷ is) = ends_put i (ascending key is) ∙ ap Some (from_ascending (twice i) is)
