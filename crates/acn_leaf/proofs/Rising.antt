-- Ranges that rise: each ends before the next begins.
use Rattle.std.proofs.Common.{◌++◌, ◌≡◌, ℕ, ℤ, suc, ◌+◌, ◌<◌, ◌≤◌, Bool, true, false, not, ◌&&◌, ◌||◌, List, [], ◌∷◌, length, get_or, take, drop, refl, sym, ap, subst, ◌∙◌, arith, true≢false, Ordering, Less}
use Rattle.std.specs.Prelude.{int_le, int_lt, ◌≤ℤ◌, ◌<ℤ◌}
use Rattle.std.specs.List.{list_all, list_any}
use Rattle.std.specs.List.Sorted.{IsSorted, IsPermutation}
use Rattle.std.specs.Cmp.{both_ways}
use Rattle.std.specs.Ordering.{int_cmp, ordering_then, is_lt}
use Rattle.std.proofs.lemmas.Bool.{and_parts, and_from, and_left, and_right, or_parts, or_from, not-true, not_from_false}
use Rattle.std.proofs.lemmas.Int.{ints}
use Rattle.std.proofs.lemmas.List.{take-append-drop, drop_more}
use Rattle.std.proofs.lemmas.List.Folds.{list_any-append, list_any_more, list_any_at}
use Rattle.std.proofs.lemmas.List.Sorted.{list_any-IsPermutation}
use Rattle.acn_grammar.specs.Leaves.{all_differ}
use Rattle.acn_grammar.proofs.WholeTests.{le_fact, lt_fact, gt_fact, ge_fact, le_test, lt_test, gt_test}
use Rattle.acn_leaf.specs.Neighbours.{neighbours_differ}
use Rattle.acn_leaf.specs.Sides.{is_range, meet, reaches}
use Rattle.acn_leaf.proofs.Pairs.{apart, apart_turned, differ_append, in_any_order}

abbrev Range : Type 0
Range = ℤ × ℤ

pub record Rises (rs : List (ℤ × ℤ)) : Type 0 where
  pub each : list_all is_range rs ≡ true
  pub rising : neighbours_differ reaches rs ≡ true

pub in_order : (r : ℤ × ℤ) (rs : List (ℤ × ℤ)) → list_all is_range (r ∷ rs) ≡ true → r.0 ≤ℤ r.1
in_order r rs h = le_fact r.0 r.1 (and_parts (is_range r) (list_all is_range rs) h).0

-- Parts of them rise too.

tail : (r : Range) (rs : List Range) → Rises (r ∷ rs) → Rises rs
tail r [] h = record { each = refl; rising = refl }
tail r (s ∷ rs) h = record {
  each = (and_parts (is_range r) (list_all is_range (s ∷ rs)) h.each).1;
  rising = (and_parts (not (reaches r s)) (neighbours_differ reaches (s ∷ rs)) h.rising).1;
}

next : (r s : Range) (rs : List Range) → Rises (r ∷ s ∷ rs) → r.1 <ℤ s.0
next r s rs h = gt_fact s.0 r.1 (not-true _ (and_parts (not (reaches r s)) (neighbours_differ reaches (s ∷ rs)) h.rising).0)

pub rises_behind : (xs ys : List (ℤ × ℤ)) → Rises (xs ++ ys) → Rises ys
rises_behind [] ys h = h
rises_behind (x ∷ xs) ys h = rises_behind xs ys (tail x (xs ++ ys) h)

-- What stands behind a range begins behind it, and what stands before one ends before it.

pub later : (b : ℤ) (r : ℤ × ℤ) (rs : List (ℤ × ℤ)) → Rises (r ∷ rs) → b <ℤ r.0 → list_all (λ s. int_lt b s.0) (r ∷ rs) ≡ true
later b r [] h l = and_from (int_lt b r.0) true (lt_test b r.0 l) refl
later b r (s ∷ rs) h l =
    let o = in_order r (s ∷ rs) h.each in
    let n = next r s rs h in
    and_from (int_lt b r.0) (list_all (λ z. int_lt b z.0) (s ∷ rs)) (lt_test b r.0 l) (later b s rs (tail r (s ∷ rs) h) (omega (arith, ints, l, o, n)))

of_all : (p : Range → Bool) (xs : List Range) (y : Range) (ys : List Range) → list_all p (xs ++ y ∷ ys) ≡ true → p y ≡ true
of_all p [] y ys h = (and_parts (p y) (list_all p ys) h).0
of_all p (x ∷ xs) y ys h = of_all p xs y ys (and_parts (p x) (list_all p (xs ++ y ∷ ys)) h).1

pub earlier : (c : ℤ) (xs : List (ℤ × ℤ)) (y : ℤ × ℤ) (ys : List (ℤ × ℤ)) → Rises (xs ++ y ∷ ys) → y.0 ≤ℤ c → list_all (λ s. int_lt s.1 c) xs ≡ true
earlier c [] y ys h l = refl
earlier c (x ∷ xs) y ys h l =
    and_from (int_lt x.1 c) (list_all (λ s. int_lt s.1 c) xs) (by xs h) (earlier c xs y ys (tail x (xs ++ y ∷ ys) h) l)
  where
    by : (zs : List Range) → Rises (x ∷ (zs ++ y ∷ ys)) → int_lt x.1 c ≡ true
    by [] k = (let n = next x y ys k in lt_test x.1 c (omega (arith, ints, n, l)))
    by (z ∷ zs) k =
        let all = later x.1 z (zs ++ y ∷ ys) (tail x (z ∷ (zs ++ y ∷ ys)) k) (next x z (zs ++ y ∷ ys) k) in
        let n = lt_fact x.1 y.0 (of_all (λ s. int_lt x.1 s.0) (z ∷ zs) y ys all) in
        lt_test x.1 c (omega (arith, ints, n, l))

none_behind : (q : Range) (rs : List Range) → list_all (λ s. int_lt q.1 s.0) rs ≡ true → list_any (meet q) rs ≡ false
none_behind q [] h = refl
none_behind q (r ∷ rs) h =
    let f = and_parts (int_lt q.1 r.0) (list_all (λ s. int_lt q.1 s.0) rs) h in
    or_from (meet q r) (list_any (meet q) rs) (and_right (int_le q.0 r.1) (int_le r.0 q.1) (gt_test r.0 q.1 (lt_fact q.1 r.0 f.0))) (none_behind q rs f.1)

none_before : (q : Range) (rs : List Range) → list_all (λ s. int_lt s.1 q.0) rs ≡ true → list_any (meet q) rs ≡ false
none_before q [] h = refl
none_before q (r ∷ rs) h =
    let f = and_parts (int_lt r.1 q.0) (list_all (λ s. int_lt s.1 q.0) rs) h in
    or_from (meet q r) (list_any (meet q) rs) (and_left (int_le q.0 r.1) (int_le r.0 q.1) (gt_test q.0 r.1 (lt_fact r.1 q.0 f.0))) (none_before q rs f.1)

-- No two of them meet.

pub rising_differ : (rs : List (ℤ × ℤ)) → Rises rs → all_differ meet rs ≡ true
rising_differ [] h = refl
rising_differ (r ∷ []) h = refl
rising_differ (r ∷ s ∷ rs) h =
    let t = tail r (s ∷ rs) h in
    and_from (not (list_any (meet r) (s ∷ rs))) (all_differ meet (s ∷ rs)) (not_from_false _ (none_behind r (s ∷ rs) (later r.1 s rs t (next r s rs h)))) (rising_differ (s ∷ rs) t)

-- A range that is looked for by halves.

-- it meets none of those before low and none of those from high on
pub record Halved (q : ℤ × ℤ) (rs : List (ℤ × ℤ)) (low high : ℕ) : Type 0 where
  pub order : low ≤ high
  pub within : high ≤ length rs
  pub before : list_any (meet q) (take low rs) ≡ false
  pub behind : list_any (meet q) (drop high rs) ≡ false

pub more_before : (q : ℤ × ℤ) (rs : List (ℤ × ℤ)) (low high m : ℕ) (d : ℤ × ℤ) → Rises rs → Halved q rs low high → m < high → int_lt (get_or rs m d).1 q.0 ≡ true → Halved q rs (m + 1) high
more_before q rs low high m d rises h inside t =
    let y = get_or rs m d in
    let l = lt_fact y.1 q.0 t in
    let long : m < length rs = omega (arith, h.within) in
    let e : rs ≡ take m rs ++ (y ∷ drop (m + 1) rs) = sym (take-append-drop m rs) ∙ ap (λ z. take m rs ++ z) (drop_more rs m d long) in
    let whole = subst Rises e rises in
    let o = in_order y (drop (m + 1) rs) (rises_behind (take m rs) (y ∷ drop (m + 1) rs) whole).each in
    let front = none_before q (take m rs) (earlier q.0 (take m rs) y (drop (m + 1) rs) whole (omega (arith, ints, o, l))) in
    let mine : meet q y ≡ false = and_left (int_le q.0 y.1) (int_le y.0 q.1) (gt_test q.0 y.1 l) in
    record {
      order = omega arith;
      within = h.within;
      before = list_any_more (meet q) rs m d long ∙ or_from (list_any (meet q) (take m rs)) (meet q y) front mine;
      behind = h.behind;
    }

pub more_behind : (q : ℤ × ℤ) (rs : List (ℤ × ℤ)) (low high m : ℕ) (d : ℤ × ℤ) → Rises rs → Halved q rs low high → low ≤ m → m < high → int_lt q.1 (get_or rs m d).0 ≡ true → Halved q rs low m
more_behind q rs low high m d rises h low_enough inside t =
    let y = get_or rs m d in
    let long : m < length rs = omega (arith, h.within) in
    let split = drop_more rs m d long in
    let e : rs ≡ take m rs ++ (y ∷ drop (m + 1) rs) = sym (take-append-drop m rs) ∙ ap (λ z. take m rs ++ z) split in
    let here = rises_behind (take m rs) (y ∷ drop (m + 1) rs) (subst Rises e rises) in
    record {
      order = low_enough;
      within = omega (arith, h.within);
      before = h.before;
      behind = ap (list_any (meet q)) split ∙ none_behind q (y ∷ drop (m + 1) rs) (later q.1 y (drop (m + 1) rs) here (lt_fact q.1 y.0 t));
    }

pub found : (q : ℤ × ℤ) (rs : List (ℤ × ℤ)) (m : ℕ) (d : ℤ × ℤ) → m < length rs → int_lt (get_or rs m d).1 q.0 ≡ false → int_lt q.1 (get_or rs m d).0 ≡ false → true ≡ list_any (meet q) rs
found q rs m d long t u =
    let y = get_or rs m d in
    sym (list_any_at (meet q) rs m d long (and_from (int_le q.0 y.1) (int_le y.0 q.1) (le_test q.0 y.1 (ge_fact y.1 q.0 t)) (le_test y.0 q.1 (ge_fact q.1 y.0 u))))

pub none_of_them : (q : ℤ × ℤ) (rs : List (ℤ × ℤ)) (low high : ℕ) → Halved q rs low high → high ≤ low → false ≡ list_any (meet q) rs
none_of_them q rs low high h done =
    let e : high ≡ low = omega (arith, h.order) in
    let behind = subst (λ k. list_any (meet q) (drop k rs) ≡ false) e h.behind in
    sym (ap (list_any (meet q)) (sym (take-append-drop low rs)) ∙ (list_any-append (meet q) (take low rs) (drop low rs) ∙ or_from (list_any (meet q) (take low rs)) (list_any (meet q) (drop low rs)) h.before behind))

-- Ranges in the order of their first numbers.

abbrev by_ends : Range → Range → Ordering
by_ends r s = ordering_then (int_cmp r.0 s.0) (int_cmp r.1 s.1)

first_at_most : (r s : Range) → is_lt (by_ends s r) ≡ false → r.0 ≤ℤ s.0
first_at_most r s h = by (int_le r.0 s.0) refl
  where
    less : (x y : ℤ) → x <ℤ y → int_cmp x y ≡ Less
    less x y l = grind (arith, ints)

    by : (b : Bool) → int_le r.0 s.0 ≡ b → r.0 ≤ℤ s.0
    by true e = le_fact r.0 s.0 e
    by false e = absurd (true≢false (sym (ap (λ o. is_lt (ordering_then o (int_cmp s.1 r.1))) (less s.0 r.0 (gt_fact r.0 s.0 e))) ∙ h))

sorted_tail : (r : Range) (rs : List Range) → IsSorted by_ends (r ∷ rs) → IsSorted by_ends rs
sorted_tail r rs h k d low within =
    let e : suc k + 1 ≡ suc (k + 1) = omega arith in
    subst (λ n. is_lt (by_ends (get_or (r ∷ rs) n d) (get_or rs k d)) ≡ false) e (h (suc k) d (omega arith) (omega arith))

rising_from : (rs : List Range) → IsSorted by_ends rs → list_all is_range rs ≡ true → all_differ meet rs ≡ true → neighbours_differ reaches rs ≡ true
rising_from [] sorted each h = refl
rising_from (r ∷ []) sorted each h = refl
rising_from (r ∷ s ∷ rs) sorted each h =
    let f = and_parts (not (list_any (meet r) (s ∷ rs))) (all_differ meet (s ∷ rs)) h in
    let g = or_parts (meet r s) (list_any (meet r) rs) (not-true _ f.0) in
    let a = and_parts (is_range r) (list_all is_range (s ∷ rs)) each in
    let first = first_at_most r s (sorted 0 r (omega arith) (omega arith)) in
    let o = in_order s rs a.1 in
    and_from (not (reaches r s)) (neighbours_differ reaches (s ∷ rs)) (not_from_false _ (apart_from first o g.0)) (rising_from (s ∷ rs) (sorted_tail r (s ∷ rs) sorted) a.1 f.1)
  where
    apart_from : r.0 ≤ℤ s.0 → s.0 ≤ℤ s.1 → meet r s ≡ false → reaches r s ≡ false
    apart_from l o m = ap (λ b. b && int_le s.0 r.1) (sym (le_test r.0 s.1 (omega (arith, ints, l, o)))) ∙ m

-- What a sorted block says of it as it stood, and of those behind it.

meet_symm : (a b : Range) → meet a b ≡ meet b a
meet_symm a b = both (int_le a.0 b.1) (int_le b.0 a.1)
  where
    both : (p q : Bool) → (p && q) ≡ (q && p)
    both true true = refl
    both true false = refl
    both false true = refl
    both false false = refl

pub sorted_each : (rs ss : List (ℤ × ℤ)) → IsPermutation rs ss → list_all is_range rs ≡ true → list_all is_range ss ≡ true
sorted_each rs ss p h = sym (passed ss) ∙ (ap not (sym (list_any-IsPermutation (λ r. not (is_range r)) rs ss p)) ∙ (passed rs ∙ h))
  where
    passed : (xs : List Range) → not (list_any (λ r. not (is_range r)) xs) ≡ list_all is_range xs
    passed [] = refl
    passed (x ∷ xs) = step (is_range x) (list_any (λ r. not (is_range r)) xs) ∙ ap (λ b. is_range x && b) (passed xs)
      where
        step : (p q : Bool) → not (not p || q) ≡ (p && not q)
        step true q = refl
        step false q = refl

rises_says : (rs ss : List Range) → IsPermutation rs ss → IsSorted by_ends ss → list_all is_range rs ≡ true → neighbours_differ reaches ss ≡ all_differ meet rs
rises_says rs ss p sorted h =
    let each = sorted_each rs ss p h in
    both_ways (neighbours_differ reaches ss) (all_differ meet ss) (λ r. rising_differ ss (record { each = each; rising = r })) (rising_from ss sorted each)
    ∙ in_any_order meet meet_symm rs ss p

pub block_fails : (rs ss ms : List (ℤ × ℤ)) → IsPermutation rs ss → IsSorted by_ends ss → list_all is_range rs ≡ true → neighbours_differ reaches ss ≡ false → all_differ meet (rs ++ ms) ≡ false
block_fails rs ss ms p sorted h r =
    differ_append meet rs ms ∙ ap (λ b. b && (apart meet rs ms && all_differ meet ms)) (sym (rises_says rs ss p sorted h) ∙ r)

pub block_says : (rs ss ms : List (ℤ × ℤ)) (a : Bool) → IsPermutation rs ss → IsSorted by_ends ss → list_all is_range rs ≡ true → neighbours_differ reaches ss ≡ true
    → a ≡ list_all (λ m. not (list_any (meet m) ss)) ms → all_differ meet (rs ++ ms) ≡ (a && all_differ meet ms)
block_says rs ss ms a p sorted h r e =
    differ_append meet rs ms
    ∙ (ap (λ b. b && (apart meet rs ms && all_differ meet ms)) (sym (rises_says rs ss p sorted h) ∙ r)
    ∙ ap (λ b. b && all_differ meet ms) (apart_turned meet meet_symm rs ms ∙ (same ms ∙ sym e)))
  where
    same : (xs : List Range) → list_all (λ m. not (list_any (meet m) rs)) xs ≡ list_all (λ m. not (list_any (meet m) ss)) xs
    same [] = refl
    same (x ∷ xs) = rw (list_any-IsPermutation (meet x) rs ss p, same xs) refl
