-- Counting tests of numbers that follow each other, and the lengths of images one after another.
use Rattle.std.proofs.Common.{◌≡◌, ℕ, suc, ◌+◌, ◌-◌, ◌^◌, ◌<◌, ◌≤◌, cond, ℤ, Bool, true, false, List, [], ◌∷◌, ◌++◌, length, get_or, drop, map, Option, Some, None, sym, ap, ◌∙◌, arith}
use Rattle.std.specs.Prelude.{count_by, int_le, int_lt, nat_eq, neg_ℤ, pos, ◌≤ℤ◌, ◌<ℤ◌, ◌+ℤ◌, ◌-ℤ◌, ◌&&◌, IsTrue}
use Rattle.std.proofs.lemmas.Int.{ints}
use Rattle.acn_num.specs.Ranges.{count}
use Rattle.acn_grammar.specs.Images.{clipped, images_by, images_of}
use Rattle.acn_grammar.specs.Leaves.{num_fine, is_number, line_fine, table_fine, has_size, all_differ, share}
use Rattle.acn_grammar.specs.declared.node.NumLeaf.{NumLeaf}
use Rattle.acn_grammar.specs.declared.node.Table.{Table}
use Rattle.acn_grammar.proofs.FineLeaves.{rules_of}
use Rattle.std.specs.List.{range_with_len, flat_map, list_all}
use Rattle.std.proofs.lemmas.List.{drop_more, drop_all}
use Rattle.std.proofs.lemmas.List.Sums.{sum_by-cons}
use Rattle.std.proofs.Math.Nat.{pow-le-pow_right}
use Rattle.acn_grammar.specs.Interval.{hull, lengths_of, no_bounds, range_lengths}
use Rattle.acn_grammar.specs.declared.bounds.Bounds.{Bounds}
use Rattle.acn_grammar.specs.declared.node.NumCoding.{NumCoding}
use Rattle.acn_grammar.proofs.Intervals.{same_bounds, hull_assoc}
use Rattle.std.proofs.lemmas.Bool.{and_parts}
use Rattle.acn_grammar.proofs.WholeTests.{le_fact, lt_fact, le_test, lt_test}

counts-front : (p : ℕ → Bool) (i m : ℕ) → count_by p (range_with_len i (suc m)) ≡ cond (p i) 1 0 + count_by p (range_with_len (i + 1) m)
counts-front p i m = sum_by-cons (λ x. cond (p x) 1 0) i (range_with_len (i + 1) m)

pub counts-turn : (p : ℕ → Bool) (i end count total : ℕ) → i < end → count + count_by p (range_with_len i (end - i)) ≡ total → (count + cond (p i) 1 0) + count_by p (range_with_len (i + 1) (end - (i + 1))) ≡ total
counts-turn p i end count total h e =
    let n : end - i ≡ suc (end - (i + 1)) = omega arith in
    let k : count_by p (range_with_len i (end - i)) ≡ cond (p i) 1 0 + count_by p (range_with_len (i + 1) (end - (i + 1))) = ap (λ x. count_by p (range_with_len i x)) n ∙ counts-front p i (end - (i + 1)) in
    omega arith

pub counts-end : (p : ℕ → Bool) (i end count total : ℕ) → end ≤ i → count + count_by p (range_with_len i (end - i)) ≡ total → count ≡ total
counts-end p i end count total h e =
    let none : end - i ≡ 0 = omega arith in
    let k : count_by p (range_with_len i (end - i)) ≡ 0 = ap (λ x. count_by p (range_with_len i x)) none in
    omega arith

pub power-small : (i : ℕ) → i < 8 → 256 ^ i < 2 ^ 128
power-small i h =
    let p = pow-le-pow_right {n = 256} (omega arith) {i = i} {j = 7} (omega arith) in
    omega arith

pub lengths-held : (coding : NumCoding) (ss : List (ℤ × ℤ)) → (lengths_of coding ss).least ≤ 2 ^ 40
lengths-held coding [] = omega arith
lengths-held coding (s ∷ ss) = omega (arith, lengths-held coding ss)

-- The lengths of the codes of some ranges and of those behind them.
pub lengths-append : (coding : NumCoding) (rs ss : List (ℤ × ℤ)) → hull (lengths_of coding rs) (lengths_of coding ss) ≡ lengths_of coding (rs ++ ss)
lengths-append coding [] ss = same_bounds _ _ (omega (arith, lengths-held coding ss)) (omega arith)
lengths-append coding (r ∷ rs) ss = hull_assoc (range_lengths coding r) (lengths_of coding rs) (lengths_of coding ss) ∙ ap (hull (range_lengths coding r)) (lengths-append coding rs ss)

pub with-none : (b : Bounds) → b.least ≤ 2 ^ 40 → hull b no_bounds ≡ b
with-none b h = same_bounds _ _ (omega arith) (omega arith)

pub from-none : (coding : NumCoding) (rs : List (ℤ × ℤ)) → hull no_bounds (lengths_of coding rs) ≡ lengths_of coding rs
from-none coding rs = same_bounds _ _ (omega (arith, lengths-held coding rs)) (omega arith)

-- some ranges further
pub lengths-turn : (coding : NumCoding) (b c total : Bounds) (here rest all : List (ℤ × ℤ)) → c ≡ hull b (lengths_of coding here) → all ≡ here ++ rest → hull b (lengths_of coding all) ≡ total → hull c (lengths_of coding rest) ≡ total
lengths-turn coding b c total here rest all e a h = rw e (hull_assoc b (lengths_of coding here) (lengths_of coding rest) ∙ (ap (hull b) (lengths-append coding here rest ∙ ap (lengths_of coding) (sym a)) ∙ h))

pub lengths-done : (coding : NumCoding) (b total : Bounds) (rest : List (ℤ × ℤ)) → b.least ≤ 2 ^ 40 → rest ≡ [] → hull b (lengths_of coding rest) ≡ total → b ≡ total
lengths-done coding b total rest h e t = sym (with-none b h) ∙ (ap (λ x. hull b (lengths_of coding x)) (sym e) ∙ t)

pub pieces-end : {X : Type 0} (piece : X → List (ℤ × ℤ)) (xs : List X) (i : ℕ) → length xs ≤ i → flat_map piece (drop i xs) ≡ []
pieces-end piece xs i h = ap (flat_map piece) (drop_all i xs h)

-- an item's number as a range
abbrev pub alone : List ℕ × ℤ → ℤ × ℤ
alone item = (item.1, item.1)

pub items-turn : (items : List (List ℕ × ℤ)) (i : ℕ) (item : List ℕ × ℤ) → i < length items → item ≡ get_or items i item → map alone (drop i items) ≡ (alone item ∷ []) ++ map alone (drop (i + 1) items)
items-turn items i item h e = rw (drop_more items i item h, ← e)

pub items-end : (items : List (List ℕ × ℤ)) (i : ℕ) → length items ≤ i → map alone (drop i items) ≡ []
items-end items i h = ap (map alone) (drop_all i items h)

-- Numbers of a line.

pub number-low : (x : ℤ) → is_number x ≡ true → neg_ℤ (pos (2 ^ 63)) ≤ℤ x
number-low x h = le_fact _ x (and_parts (int_le (neg_ℤ (pos (2 ^ 63))) x) (int_lt x (pos (2 ^ 64))) h).0

pub number-high : (x : ℤ) → is_number x ≡ true → x <ℤ pos (2 ^ 64)
number-high x h = lt_fact x _ (and_parts (int_le (neg_ℤ (pos (2 ^ 63))) x) (int_lt x (pos (2 ^ 64))) h).1

is-number : (x : ℤ) → neg_ℤ (pos (2 ^ 63)) ≤ℤ x → x <ℤ pos (2 ^ 64) → is_number x ≡ true
is-number x low high = rw (le_test (neg_ℤ (pos (2 ^ 63))) x low, lt_test x (pos (2 ^ 64)) high)

pub record LineNumbers (line : ℤ × ℤ × ℤ) : Type 0 where
  pub first : is_number line.0 ≡ true
  pub last : is_number line.1 ≡ true
  pub to : is_number line.2 ≡ true

pub line-numbers : (line : ℤ × ℤ × ℤ) → line_fine line ≡ true → LineNumbers line
line-numbers line h =
    let a = and_parts (int_le line.0 line.1) (is_number line.0 && (is_number line.1 && (is_number line.2 && is_number (line.2 +ℤ (line.1 -ℤ line.0))))) h in
    let b = and_parts (is_number line.0) (is_number line.1 && (is_number line.2 && is_number (line.2 +ℤ (line.1 -ℤ line.0)))) a.1 in
    let c = and_parts (is_number line.1) (is_number line.2 && is_number (line.2 +ℤ (line.1 -ℤ line.0))) b.1 in
    let d = and_parts (is_number line.2) (is_number (line.2 +ℤ (line.1 -ℤ line.0))) c.1 in
    record { first = b.0; last = c.0; to = d.0 }

pub key-number : (line : ℤ × ℤ × ℤ) (key : ℤ) → line_fine line ≡ true → line.0 ≤ℤ key → key ≤ℤ line.1 → is_number key ≡ true
key-number line key h low high =
    let n = line-numbers line h in
    let a = number-low line.0 n.first in
    let b = number-high line.1 n.last in
    is-number key (omega (arith, ints)) (omega (arith, ints))

-- The lines of a leaf's table keep their rules.
table-lines : (coding : NumCoding) (set : List (ℤ × ℤ)) (table : Option Table) (t : Table) → table ≡ Some t → table_fine coding set table ≡ true → list_all line_fine t.lines ≡ true
table-lines coding set None t e h = cc
table-lines coding set (Some table) t e h =
    let a = and_parts (has_size coding) (list_all line_fine table.lines && (all_differ share table.lines && nat_eq (count (images_by (Some table) set)) (count set))) h in
    let b = and_parts (list_all line_fine table.lines) (all_differ share table.lines && nat_eq (count (images_by (Some table) set)) (count set)) a.1 in
    let is : table ≡ t = cc in
    ap (λ (x : Table). list_all line_fine x.lines) (sym is) ∙ b.0

pub leaf-lines : (leaf : NumLeaf) (t : Table) → IsTrue (num_fine leaf) → leaf.table ≡ Some t → list_all line_fine t.lines ≡ true
leaf-lines leaf t h e = table-lines leaf.coding leaf.set leaf.table t e (rules_of leaf h).table

-- Which images there are.
pub by-items : (leaf : NumLeaf) → leaf.items.values ≡ true → images_of leaf ≡ map alone leaf.items.items
by-items leaf e = rw e

pub by-set : (leaf : NumLeaf) → leaf.items.values ≡ false → leaf.table ≡ None → images_of leaf ≡ leaf.set
by-set leaf e t = rw (e, t)

pub by-table : (leaf : NumLeaf) (table : Table) → leaf.items.values ≡ false → leaf.table ≡ Some table → images_of leaf ≡ flat_map (λ r. flat_map (clipped r) table.lines) leaf.set
by-table leaf table e t = rw (e, t)

pub pieces-step : {X : Type 0} (coding : NumCoding) (piece : X → List (ℤ × ℤ)) (xs : List X) (i : ℕ) (d : X) (b c total : Bounds) → i < length xs → c ≡ hull b (lengths_of coding (piece (get_or xs i d))) → hull b (lengths_of coding (flat_map piece (drop i xs))) ≡ total → hull c (lengths_of coding (flat_map piece (drop (i + 1) xs))) ≡ total
pieces-step coding piece xs i d b c total h e t = lengths-turn coding b c total (piece (get_or xs i d)) (flat_map piece (drop (i + 1) xs)) (flat_map piece (drop i xs)) e (ap (flat_map piece) (drop_more xs i d h)) t

pub ranges-step : (coding : NumCoding) (rs : List (ℤ × ℤ)) (i : ℕ) (d : ℤ × ℤ) (b c total : Bounds) → i < length rs → c ≡ hull b (lengths_of coding (get_or rs i d ∷ [])) → hull b (lengths_of coding (drop i rs)) ≡ total → hull c (lengths_of coding (drop (i + 1) rs)) ≡ total
ranges-step coding rs i d b c total h e t = lengths-turn coding b c total (get_or rs i d ∷ []) (drop (i + 1) rs) (drop i rs) e (drop_more rs i d h) t

pub items-step : (coding : NumCoding) (items : List (List ℕ × ℤ)) (i : ℕ) (item : List ℕ × ℤ) (b c total : Bounds) → i < length items → item ≡ get_or items i item → c ≡ hull b (lengths_of coding (alone item ∷ [])) → hull b (lengths_of coding (map alone (drop i items))) ≡ total → hull c (lengths_of coding (map alone (drop (i + 1) items))) ≡ total
items-step coding items i item b c total h is e t = lengths-turn coding b c total (alone item ∷ []) (map alone (drop (i + 1) items)) (map alone (drop i items)) e (items-turn items i item h is) t
