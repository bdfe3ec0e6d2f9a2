-- Of the numbers of a leaf that one is picked which is the least of those with a shortest code, or with a longest.
use Rattle.std.proofs.Common.{◌≡◌, ℕ, zero, suc, ◌<◌, ◌≤◌, ℤ, pos, ◌+ℤ◌, Bool, true, false, ◌&&◌, List, [], ◌∷◌, ◌++◌, length, ◌-◌, refl, sym, ap, ◌∙◌, arith, inl, inr, ◌⊎◌, IsTrue, nat_lt}
use Rattle.std.proofs.lemmas.Bool.{and_from, and_parts, or_left, or_right}
use Rattle.std.proofs.lemmas.Bool.Decides.{nat_tests}
use Rattle.std.proofs.lemmas.Int.{ints}
use Rattle.std.specs.Ordering.{int_eq}
use Rattle.std.specs.Prelude.{◌-ℤ◌, ◌≤ℤ◌, ◌<ℤ◌, int_le, int_lt, if◌then◌else◌, Option}
use Rattle.acn_num.specs.Ranges.{Ranges, In, has, are_ranges, are_ranges_above, size_of}
use Rattle.acn_grammar.specs.Images.{ends}
use Rattle.acn_grammar.specs.Leaves.{num_fine, set_fine, integer_set_fine, no_items, is_range, items_fine}
use Rattle.acn_grammar.specs.Length.{num_length, least}
use Rattle.acn_grammar.specs.declared.node.NumCoding.{NumCoding}
use Rattle.acn_grammar.specs.declared.node.NumKind.{NumKind}
use Rattle.acn_grammar.specs.declared.node.NumKind.TheVariants.{Integer, Boolean, Enumerated, Null}
use Rattle.acn_grammar.specs.declared.node.NumLeaf.{NumLeaf}
use Rattle.acn_grammar.specs.declared.node.Items.{Items}
use Rattle.acn_grammar.specs.declared.node.Table.{Table}
use Rattle.acn_grammar.proofs.FineLeaves.{rules_of}
use Rattle.acn_grammar.proofs.WholeTests.{either, eq_fact, le_fact, lt_fact, ge_fact, le_test}
use Rattle.acn_grammar.proofs.Within.{between}
use Rattle.acn_extreme_laws.specs.Codes.{ahead, IsBestNumber, pick, numbers_from, numbers_of, number_at}
use Rattle.acn_extreme_laws.specs.declared.side.Side.{Side}
use Rattle.acn_extreme_laws.specs.declared.side.Side.TheVariants.{Shortest, Longest}

-- Lists of numbers.

abbrev pub Among : ℤ → List ℤ → Type 0
Among k [] = ⊥
Among k (x ∷ xs) = (k ≡ x) ⊎ Among k xs

pub among_left : (k : ℤ) (xs ys : List ℤ) → Among k xs → Among k (xs ++ ys)
among_left k [] ys h = absurd h
among_left k (x ∷ xs) ys (inl e) = inl e
among_left k (x ∷ xs) ys (inr h) = inr (among_left k xs ys h)

pub among_right : (k : ℤ) (xs ys : List ℤ) → Among k ys → Among k (xs ++ ys)
among_right k [] ys h = h
among_right k (x ∷ xs) ys h = inr (among_right k xs ys h)

pub among_either : {F : Type 0} (k : ℤ) (xs ys : List ℤ) → Among k (xs ++ ys) → (Among k xs → F) → (Among k ys → F) → F
among_either k [] ys h f g = g h
among_either k (x ∷ xs) ys (inl e) f g = f (inl e)
among_either {F} k (x ∷ xs) ys (inr h) f g = among_either {F = F} k xs ys h (λ q. f (inr q)) g

-- none is less than the one before it, or than b
abbrev pub Ascends : ℤ → List ℤ → Type 0
Ascends b [] = Unit {0}
Ascends b (x ∷ xs) = (b ≤ℤ x) × Ascends x xs

pub from_lower : (b c : ℤ) (xs : List ℤ) → b ≤ℤ c → Ascends c xs → Ascends b xs
from_lower b c [] h a = tt
from_lower b c (x ∷ xs) h a = (let p = a.0 in omega (arith, ints), a.1)

-- What is picked.

pub not_below : (a b : ℕ) → b ≤ a → nat_lt a b ≡ false
not_below a b h = grind (arith, nat_tests)

pub ahead_self : (side : Side) (a : ℕ) → ahead side a a ≡ false
ahead_self Shortest a = not_below a a (omega arith)
ahead_self Longest a = not_below a a (omega arith)

ahead_over : (side : Side) (a b c : ℕ) → ahead side a b ≡ true → ahead side c b ≡ false → ahead side c a ≡ false
ahead_over Shortest a b c e f = (let l : a < b = grind (arith, nat_tests, e) in let m : b ≤ c = grind (arith, nat_tests, f) in not_below c a (omega arith))
ahead_over Longest a b c e f = (let l : b < a = grind (arith, nat_tests, e) in let m : c ≤ b = grind (arith, nat_tests, f) in not_below a c (omega arith))

alike : (side : Side) (a b : ℕ) → ahead side a b ≡ false → ahead side b a ≡ false → a ≡ b
alike Shortest a b e f = (let l : b ≤ a = grind (arith, nat_tests, e) in let m : a ≤ b = grind (arith, nat_tests, f) in omega arith)
alike Longest a b e f = (let l : a ≤ b = grind (arith, nat_tests, e) in let m : b ≤ a = grind (arith, nat_tests, f) in omega arith)

pub self : (x : ℤ) → x ≤ℤ x
self x = omega (arith, ints)

-- of the numbers that are so none has a length that is nearer to the side, and it is the least of those with its length
pub record Foremost (len : ℤ → ℕ) (side : Side) (P : ℤ → Type 0) (best : ℤ) : Type 0 where
  pub there : P best
  pub extreme : (y : ℤ) → P y → ahead side (len y) (len best) ≡ false
  pub least : (y : ℤ) → P y → len y ≡ len best → best ≤ℤ y

module _ (len : ℤ → ℕ) (side : Side) where
  pub moved : (P Q : ℤ → Type 0) (best : ℤ) → ((y : ℤ) → P y → Q y) → ((y : ℤ) → Q y → P y) → Foremost len side P best → Foremost len side Q best
  moved P Q best f g h = record {
    there = f best h.there;
    extreme = λ y q. h.extreme y (g y q);
    least = λ y q e. h.least y (g y q) e;
  }

  pub alone : (x : ℤ) → Foremost len side (λ y. y ≡ x) x
  alone x = record {
    there = refl;
    extreme = λ y e. ap (λ z. ahead side (len z) (len x)) e ∙ ahead_self side (len x);
    least = λ y e same. omega (arith, ints);
  }

  -- one number more
  abbrev With : (ℤ → Type 0) → ℤ → ℤ → Type 0
  With P x y = P y ⊎ (y ≡ x)

  newer : (P : ℤ → Type 0) (best x : ℤ) → ahead side (len x) (len best) ≡ true → Foremost len side P best → Foremost len side (With P x) x
  newer P best x e f = record { there = inr refl; extreme = extreme_of; least = least_of }
    where
      apart : {F : Type 0} → true ≡ false → F
      apart q = cc

      extreme_of : (y : ℤ) → P y ⊎ (y ≡ x) → ahead side (len y) (len x) ≡ false
      extreme_of y (inl p) = ahead_over side (len x) (len best) (len y) e (f.extreme y p)
      extreme_of y (inr q) = ap (λ z. ahead side (len z) (len x)) q ∙ ahead_self side (len x)

      least_of : (y : ℤ) → P y ⊎ (y ≡ x) → len y ≡ len x → x ≤ℤ y
      least_of y (inl p) same = apart (sym e ∙ (ap (λ n. ahead side n (len best)) (sym same) ∙ f.extreme y p))
      least_of y (inr q) same = omega (arith, ints)

  older : (P : ℤ → Type 0) (best x : ℤ) → ahead side (len x) (len best) ≡ false → best ≤ℤ x → Foremost len side P best → Foremost len side (With P x) best
  older P best x e l f = record { there = inl f.there; extreme = extreme_of; least = least_of }
    where
      extreme_of : (y : ℤ) → P y ⊎ (y ≡ x) → ahead side (len y) (len best) ≡ false
      extreme_of y (inl p) = f.extreme y p
      extreme_of y (inr q) = ap (λ z. ahead side (len z) (len best)) q ∙ e

      least_of : (y : ℤ) → P y ⊎ (y ≡ x) → len y ≡ len best → best ≤ℤ y
      least_of y (inl p) same = f.least y p same
      least_of y (inr q) same = omega (arith, ints)

  in_front : (P : ℤ → Type 0) (x y : ℤ) (xs : List ℤ) → (P y ⊎ (y ≡ x)) ⊎ Among y xs → P y ⊎ Among y (x ∷ xs)
  in_front P x y xs (inl (inl p)) = inl p
  in_front P x y xs (inl (inr e)) = inr (inl e)
  in_front P x y xs (inr h) = inr (inr h)

  in_rest : (P : ℤ → Type 0) (x y : ℤ) (xs : List ℤ) → P y ⊎ Among y (x ∷ xs) → (P y ⊎ (y ≡ x)) ⊎ Among y xs
  in_rest P x y xs (inl p) = inl (inl p)
  in_rest P x y xs (inr (inl e)) = inl (inr e)
  in_rest P x y xs (inr (inr h)) = inr h

  no_more : (P : ℤ → Type 0) (y : ℤ) → P y ⊎ Among y [] → P y
  no_more P y (inl p) = p
  no_more P y (inr h) = absurd h

  -- what is picked of numbers that ascend, and of those before them
  pub pick_foremost : (P : ℤ → Type 0) (best last : ℤ) (xs : List ℤ) → Foremost len side P best → best ≤ℤ last → Ascends last xs → Foremost len side (λ y. P y ⊎ Among y xs) (pick len side best xs)
  pick_foremost P best last [] f l a = moved P (λ y. P y ⊎ Among y []) best (λ y p. inl p) (no_more P) f
  pick_foremost P best last (x ∷ xs) f l a =
      let before = a.0 in
      let behind : best ≤ℤ x = omega (arith, ints) in
      by (ahead side (len x) (len best)) refl (λ e. pick_foremost (With P x) x x xs (newer P best x e f) (self x) a.1) (λ e. pick_foremost (With P x) best x xs (older P best x e behind f) behind a.1)
    where
      by : (t : Bool) → ahead side (len x) (len best) ≡ t
          → (ahead side (len x) (len best) ≡ true → Foremost len side (λ y. With P x y ⊎ Among y xs) (pick len side x xs))
          → (ahead side (len x) (len best) ≡ false → Foremost len side (λ y. With P x y ⊎ Among y xs) (pick len side best xs))
          → Foremost len side (λ y. P y ⊎ Among y (x ∷ xs)) (pick len side (if t then x else best) xs)
      by true e g h = moved (λ y. With P x y ⊎ Among y xs) (λ y. P y ⊎ Among y (x ∷ xs)) (pick len side x xs) (λ y. in_front P x y xs) (λ y. in_rest P x y xs) (g e)
      by false e g h = moved (λ y. With P x y ⊎ Among y xs) (λ y. P y ⊎ Among y (x ∷ xs)) (pick len side best xs) (λ y. in_front P x y xs) (λ y. in_rest P x y xs) (h e)

-- The numbers of ranges.

-- each begins at or above the end of the one before it, or at b, and none is empty
abbrev pub Rises : ℤ → Ranges → Type 0
Rises b [] = Unit {0}
Rises b (r ∷ rs) = (b ≤ℤ r.0) × (r.0 ≤ℤ r.1) × Rises r.1 rs

size_is : (r : ℤ × ℤ) → r.0 ≤ℤ r.1 → pos (size_of r) ≡ ((r.1 -ℤ r.0) +ℤ pos 1)
size_is r h = omega (arith, ints)

from_ascends : (b x : ℤ) (n : ℕ) (c : ℤ) (ys : List ℤ) → b ≤ℤ x → b ≤ℤ c → (x +ℤ pos n) ≤ℤ (c +ℤ pos 1) → Ascends c ys → Ascends b (numbers_from x n ++ ys)
from_ascends b x zero c ys h k l a = from_lower b c ys k a
from_ascends b x (suc n) c ys h k l a = (h, from_ascends x (x +ℤ pos 1) n c ys (omega (arith, ints)) (omega (arith, ints)) (omega (arith, ints)) a)

numbers_ascend : (b : ℤ) (rs : Ranges) → Rises b rs → Ascends b (numbers_of rs)
numbers_ascend b [] h = tt
numbers_ascend b (r ∷ rs) h =
    let first = h.0 in
    let order = h.1 in
    let size = size_is r h.1 in
    from_ascends b r.0 (size_of r) r.1 (numbers_of rs) h.0 (omega (arith, ints)) (omega (arith, ints)) (numbers_ascend r.1 rs h.2)

in_from : (k x : ℤ) (n : ℕ) → Among k (numbers_from x n) → (x ≤ℤ k) × (k <ℤ (x +ℤ pos n))
in_from k x zero h = absurd h
in_from k x (suc n) (inl e) = (omega (arith, ints), omega (arith, ints))
in_from k x (suc n) (inr h) =
    let r = in_from k (x +ℤ pos 1) n h in
    let low = r.0 in
    let high = r.1 in
    (omega (arith, ints), omega (arith, ints))

among_from : (k x : ℤ) (n : ℕ) → x ≤ℤ k → k <ℤ (x +ℤ pos n) → Among k (numbers_from x n)
among_from k x zero h l = absurd (omega (arith, ints))
among_from k x (suc n) h l = by (int_lt x k) refl (λ q. among_from k (x +ℤ pos 1) n q (omega (arith, ints)))
  where
    by : (t : Bool) → int_lt x k ≡ t → ((x +ℤ pos 1) ≤ℤ k → Among k (numbers_from (x +ℤ pos 1) n)) → (k ≡ x) ⊎ Among k (numbers_from (x +ℤ pos 1) n)
    by true e f = (let q = lt_fact x k e in inr (f (omega (arith, ints))))
    by false e f = (let q = ge_fact x k e in inl (omega (arith, ints)))

pub in_range : (a b x : ℤ) → a ≤ℤ x → x ≤ℤ b → (int_le a x && int_le x b) ≡ true
in_range a b x h k = and_from (int_le a x) (int_le x b) (le_test a x h) (le_test x b k)

numbers_in : (b : ℤ) (rs : Ranges) → Rises b rs → (k : ℤ) → Among k (numbers_of rs) → has rs k ≡ true
numbers_in b [] o k h = absurd h
numbers_in b (r ∷ rs) o k h = among_either {F = has (r ∷ rs) k ≡ true} k (numbers_from r.0 (size_of r)) (numbers_of rs) h
    (λ q. let w = in_from k r.0 (size_of r) q in
    let high = w.1 in
    let size = size_is r o.1 in
    or_left (int_le r.0 k && int_le k r.1) (has rs k) (in_range r.0 r.1 k w.0 (omega (arith, ints))))
    (λ q. or_right (int_le r.0 k && int_le k r.1) (has rs k) (numbers_in r.1 rs o.2 k q))

numbers_have : (b : ℤ) (rs : Ranges) → Rises b rs → (k : ℤ) → has rs k ≡ true → Among k (numbers_of rs)
numbers_have b [] o k h = cc
numbers_have b (r ∷ rs) o k h = either {F = Among k (numbers_of (r ∷ rs))} (int_le r.0 k && int_le k r.1) (has rs k) h
    (λ q. let w = between r.0 r.1 k q in
    let high = w.1 in
    let size = size_is r o.1 in
    among_left k (numbers_from r.0 (size_of r)) (numbers_of rs) (among_from k r.0 (size_of r) w.0 (omega (arith, ints))))
    (λ q. among_right k (numbers_from r.0 (size_of r)) (numbers_of rs) (numbers_have r.1 rs o.2 k q))

rises_lower : (b c : ℤ) (rs : Ranges) → b ≤ℤ c → Rises c rs → Rises b rs
rises_lower b c [] h o = tt
rises_lower b c (r ∷ rs) h o = (let p = o.0 in omega (arith, ints), o.1, o.2)

above_rises : (b : ℤ) (rs : Ranges) → are_ranges_above b rs ≡ true → Rises b rs
above_rises b [] h = tt
above_rises b (r ∷ rs) h =
    let f = and_parts (int_lt b r.0) (int_le r.0 r.1 && are_ranges_above (r.1 +ℤ pos 1) rs) h in
    let g = and_parts (int_le r.0 r.1) (are_ranges_above (r.1 +ℤ pos 1) rs) f.1 in
    let low = lt_fact b r.0 f.0 in
    (omega (arith, ints), le_fact r.0 r.1 g.0, rises_lower r.1 (r.1 +ℤ pos 1) rs (omega (arith, ints)) (above_rises (r.1 +ℤ pos 1) rs g.1))

ranges_rise : (rs : Ranges) → are_ranges rs ≡ true → Rises (least rs) rs
ranges_rise [] h = tt
ranges_rise (r ∷ rs) h =
    let g = and_parts (int_le r.0 r.1) (are_ranges_above (r.1 +ℤ pos 1) rs) h in
    (self r.0, le_fact r.0 r.1 g.0, rises_lower r.1 (r.1 +ℤ pos 1) rs (omega (arith, ints)) (above_rises (r.1 +ℤ pos 1) rs g.1))

range_rises : (low high : ℤ) (rs : Ranges) → low ≤ℤ high → is_range low high rs ≡ true → Rises (least rs) rs
range_rises low high [] le h = cc
range_rises low high (r ∷ []) le h =
    let f = and_parts (int_eq r.0 low) (int_eq r.1 high) h in
    let a = eq_fact r.0 low f.0 in
    let b = eq_fact r.1 high f.1 in
    (self r.0, omega (arith, ints), tt)
range_rises low high (r ∷ s ∷ rs) le h = cc

set_rises : (kind : NumKind) (coding : NumCoding) (items : Items) (table : Option Table) (set : Ranges) → set_fine kind coding items table set ≡ true → Rises (least set) set
set_rises Integer coding items table set h = ranges_rise set (and_parts (are_ranges set) (integer_set_fine coding (ends set) && no_items items) h).0
set_rises Boolean coding items table set h = range_rises (pos 0) (pos 1) set (omega (arith, ints)) (and_parts (is_range (pos 0) (pos 1) set) (no_items items) h).0
set_rises Enumerated coding items table set h =
    range_rises (pos 0) (pos (length items.items - 1)) set (omega (arith, ints)) (and_parts (is_range (pos 0) (pos (length items.items - 1)) set) (items_fine coding items) (and_parts (nat_lt 0 (length items.items)) (is_range (pos 0) (pos (length items.items - 1)) set && items_fine coding items) h).1).0
set_rises Null coding items table set h = range_rises (pos 0) (pos 0) set (omega (arith, ints)) (and_parts (is_range (pos 0) (pos 0) set) (no_items items) h).0

set_there : (kind : NumKind) (coding : NumCoding) (items : Items) (table : Option Table) (set : Ranges) → set_fine kind coding items table set ≡ true → Rises (least set) set → has set (least set) ≡ true
set_there Integer coding items table [] h o = cc
set_there Boolean coding items table [] h o = cc
set_there Enumerated coding items table [] h o = absurd (none (nat_lt 0 (length items.items)) h)
  where
    none : (b : Bool) → (b && false) ≡ true → ⊥
    none true h = cc
    none false h = cc
set_there Null coding items table [] h o = cc
set_there kind coding items table (r ∷ rs) h o = or_left (int_le r.0 r.0 && int_le r.0 r.1) (has rs r.0) (in_range r.0 r.1 r.0 (self r.0) o.1)

-- Leaves that keep their rules.

module _ (leaf : NumLeaf) (fine : IsTrue (num_fine leaf)) where
  pub rises : Rises (least leaf.set) leaf.set
  rises = set_rises leaf.kind leaf.coding leaf.items leaf.table leaf.set (rules_of leaf fine).set

  pub least_in : In leaf.set (least leaf.set)
  least_in = set_there leaf.kind leaf.coding leaf.items leaf.table leaf.set (rules_of leaf fine).set rises

  permitted_there : (y : ℤ) → (y ≡ least leaf.set) ⊎ Among y (numbers_of leaf.set) → In leaf.set y
  permitted_there y (inl e) = ap (has leaf.set) e ∙ least_in
  permitted_there y (inr h) = numbers_in (least leaf.set) leaf.set rises y h

  -- it is the best number
  pub best_number : (side : Side) → IsBestNumber side leaf (number_at side leaf)
  unfolding number_at
  best_number side =
      let found = pick_foremost (num_length leaf) side (λ y. y ≡ least leaf.set) (least leaf.set) (least leaf.set) (numbers_of leaf.set) (alone (num_length leaf) side (least leaf.set)) (self (least leaf.set)) (numbers_ascend (least leaf.set) leaf.set rises) in
      record {
        permitted = permitted_there _ found.there;
        extreme = λ y h. found.extreme y (inr (numbers_have (least leaf.set) leaf.set rises y h));
        least = λ y h e. found.least y (inr (numbers_have (least leaf.set) leaf.set rises y h)) e;
      }

  -- the number is permitted
  pub number_permitted : (side : Side) → In leaf.set (number_at side leaf)
  number_permitted side = (best_number side).permitted

  -- no code is shorter than that of the one, and none longer than that of the other
  pub lengths_between : (x : ℤ) → In leaf.set x → (num_length leaf (number_at Shortest leaf) ≤ num_length leaf x) × (num_length leaf x ≤ num_length leaf (number_at Longest leaf))
  lengths_between x h = (low ((best_number Shortest).extreme x h), high ((best_number Longest).extreme x h))
    where
      low : nat_lt (num_length leaf x) (num_length leaf (number_at Shortest leaf)) ≡ false → num_length leaf (number_at Shortest leaf) ≤ num_length leaf x
      low e = grind (arith, nat_tests, e)

      high : nat_lt (num_length leaf (number_at Longest leaf)) (num_length leaf x) ≡ false → num_length leaf x ≤ num_length leaf (number_at Longest leaf)
      high e = grind (arith, nat_tests, e)

  -- no other is
  pub one_best : (side : Side) (x : ℤ) → IsBestNumber side leaf x → x ≡ number_at side leaf
  one_best side x is =
      let best = best_number side in
      let same = alike side (num_length leaf x) (num_length leaf (number_at side leaf)) (best.extreme x is.permitted) (is.extreme (number_at side leaf) best.permitted) in
      let low = is.least (number_at side leaf) best.permitted (sym same) in
      let high = best.least x is.permitted same in
      omega (arith, ints)
