-- Every permitted number of a leaf that keeps its rules has an image.
use Rattle.std.proofs.Common.{◌≡◌, ℕ, suc, ◌+◌, ◌<◌, ◌≤◌, ℤ, pos, ◌+ℤ◌, Bool, true, false, not, List, [], ◌∷◌, ◌++◌, Option, Some, None, refl, sym, ap, ◌∙◌, arith, inl, inr, ◌⊎◌, nat_eq, ◌&&◌, zero, ◌-◌, negsuc, length, IsTrue}
use Rattle.std.proofs.lemmas.Bool.{or_parts, and_parts, not-true, eqb-true, ltb-true}
use Rattle.std.specs.Prelude.{◌-ℤ◌, ◌≤ℤ◌, ◌<ℤ◌, int_le, int_lt, nat_abs, if◌then◌else◌, nat_lt, slice_get, option_map}
use Rattle.std.specs.Int.{int_max, int_min}
use Rattle.std.specs.List.{list_all, list_any, flat_map}
use Rattle.std.proofs.lemmas.Int.{ints}
use Rattle.std.proofs.lemmas.Bool.Decides.{nat_tests}
use Rattle.acn_num.specs.Ranges.{has, are_ranges, are_ranges_above, count, size_of, In}
use Rattle.acn_grammar.specs.Code.{on_line, image_in, image_by, image_of, item_number}
use Rattle.acn_grammar.specs.Images.{clipped, images_by, ends}
use Rattle.acn_grammar.specs.Leaves.{line_fine, share, all_differ, table_fine, has_size, set_fine, num_fine, is_range, integer_set_fine, no_items, items_fine}
use Rattle.acn_grammar.specs.declared.node.NumCoding.{NumCoding}
use Rattle.acn_grammar.specs.declared.node.Table.{Table}
use Rattle.acn_grammar.proofs.WholeTests.{either, le_fact, gt_fact, le_test, gt_test, eq_fact}
use Rattle.std.specs.Ordering.{int_eq}
use Rattle.acn_grammar.specs.declared.node.Items.{Items}
use Rattle.acn_grammar.specs.declared.node.NumKind.{NumKind}
use Rattle.acn_grammar.specs.declared.node.NumKind.TheVariants.{Integer, Boolean, Enumerated, Null}
use Rattle.acn_grammar.specs.declared.node.NumLeaf.{NumLeaf}
use Rattle.acn_grammar.proofs.FineLeaves.{rules_of, no_values}

-- how many numbers lie from a to b
abbrev span_of : ℤ → ℤ → ℕ
span_of a b = if int_le a b then suc (nat_abs (b -ℤ a)) else 0

span-some : (a b : ℤ) → a ≤ℤ b → pos (span_of a b) ≡ (b -ℤ a) +ℤ pos 1
span-some a b h = rw (le_test a b h) (omega (arith, ints))

span-none : (a b : ℤ) → b <ℤ a → span_of a b ≡ 0
span-none a b h = rw (gt_test a b h) refl

max_left : (a b : ℤ) → a ≤ℤ int_max a b
max_left a b = grind (arith, ints, nat_tests)

max_right : (a b : ℤ) → b ≤ℤ int_max a b
max_right a b = grind (arith, ints, nat_tests)

max-is : (a b : ℤ) → a ≤ℤ b → int_max a b ≡ b
max-is a b h = grind (arith, ints, nat_tests)

min_left : (a b : ℤ) → int_min a b ≤ℤ a
min_left a b = grind (arith, ints, nat_tests)

min_right : (a b : ℤ) → int_min a b ≤ℤ b
min_right a b = grind (arith, ints, nat_tests)

min-is : (a b : ℤ) → b ≤ℤ a → int_min a b ≡ b
min-is a b h = grind (arith, ints, nat_tests)

max_below : (a b x : ℤ) → a ≤ℤ x → b ≤ℤ x → int_max a b ≤ℤ x
max_below a b x h k = grind (arith, ints, nat_tests)

min_above : (a b x : ℤ) → x ≤ℤ a → x ≤ℤ b → x ≤ℤ int_min a b
min_above a b x h k = grind (arith, ints, nat_tests)

-- Keys of lines that have none in common.

abbrev Line : Type 0
Line = ℤ × ℤ × ℤ

-- how many keys of the lines lie from a to b
abbrev total : ℤ → ℤ → List Line → ℕ
total a b [] = 0
total a b (l ∷ ls) = span_of (int_max a l.0) (int_min b l.1) + total a b ls

not_both : (a b : Bool) → (a && b) ≡ false → (a ≡ false) ⊎ (b ≡ false)
not_both true b h = inr h
not_both false b h = inl refl

-- two lines that share no key
pub key_sides : (l m : Line) → share l m ≡ false → (m.1 <ℤ l.0) ⊎ (l.1 <ℤ m.0)
key_sides l m h = by (not_both (int_le l.0 m.1) (int_le m.0 l.1) (or_parts (int_le l.0 m.1 && int_le m.0 l.1) (int_le l.2 (m.2 +ℤ (m.1 -ℤ m.0)) && int_le m.2 (l.2 +ℤ (l.1 -ℤ l.0))) h).0)
  where
    by : (int_le l.0 m.1 ≡ false) ⊎ (int_le m.0 l.1 ≡ false) → (m.1 <ℤ l.0) ⊎ (l.1 <ℤ m.0)
    by (inl e) = inl (gt_fact l.0 m.1 e)
    by (inr e) = inr (gt_fact m.0 l.1 e)

-- what a line has from a to b stands on one side of another line
split_one : (a b c d l0 l1 m0 m1 : ℤ) → a ≤ℤ c → l0 ≤ℤ c → d ≤ℤ b → d ≤ℤ l1 → c ≤ℤ d → (m1 <ℤ l0) ⊎ (l1 <ℤ m0)
    → span_of (int_max a m0) (int_min b m1) ≡ span_of (int_max a m0) (int_min (c -ℤ pos 1) m1) + span_of (int_max (d +ℤ pos 1) m0) (int_min b m1)
split_one a b c d l0 l1 m0 m1 ac lc db dl cd (inl h) =
    let one : int_min b m1 ≡ m1 = min-is b m1 (omega (arith, ints)) in
    let two : int_min (c -ℤ pos 1) m1 ≡ m1 = min-is (c -ℤ pos 1) m1 (omega (arith, ints)) in
    let far = max_left (d +ℤ pos 1) m0 in
    let none : span_of (int_max (d +ℤ pos 1) m0) m1 ≡ 0 = span-none (int_max (d +ℤ pos 1) m0) m1 (omega (arith, ints)) in
    ap (span_of (int_max a m0)) (one ∙ sym two) ∙ (sym_zero (span_of (int_max a m0) (int_min (c -ℤ pos 1) m1)) (span_of (int_max (d +ℤ pos 1) m0) (int_min b m1)) (ap (span_of (int_max (d +ℤ pos 1) m0)) one ∙ none))
  where
    sym_zero : (x y : ℕ) → y ≡ 0 → x ≡ x + y
    sym_zero x y e = omega arith
split_one a b c d l0 l1 m0 m1 ac lc db dl cd (inr h) =
    let one : int_max a m0 ≡ m0 = max-is a m0 (omega (arith, ints)) in
    let two : int_max (d +ℤ pos 1) m0 ≡ m0 = max-is (d +ℤ pos 1) m0 (omega (arith, ints)) in
    let near = min_left (c -ℤ pos 1) m1 in
    let none : span_of m0 (int_min (c -ℤ pos 1) m1) ≡ 0 = span-none m0 (int_min (c -ℤ pos 1) m1) (omega (arith, ints)) in
    ap (λ x. span_of x (int_min b m1)) (one ∙ sym two) ∙ zero_sum (span_of (int_max a m0) (int_min (c -ℤ pos 1) m1)) (span_of (int_max (d +ℤ pos 1) m0) (int_min b m1)) (ap (λ x. span_of x (int_min (c -ℤ pos 1) m1)) one ∙ none)
  where
    zero_sum : (x y : ℕ) → x ≡ 0 → y ≡ x + y
    zero_sum x y e = omega arith

split_all : (a b c d : ℤ) (l : Line) (ls : List Line) → a ≤ℤ c → l.0 ≤ℤ c → d ≤ℤ b → d ≤ℤ l.1 → c ≤ℤ d → list_any (share l) ls ≡ false → total a b ls ≡ total a (c -ℤ pos 1) ls + total (d +ℤ pos 1) b ls
split_all a b c d l [] ac lc db dl cd h = omega arith
split_all a b c d l (m ∷ ls) ac lc db dl cd h =
    let f = or_parts (share l m) (list_any (share l) ls) h in
    let one = split_one a b c d l.0 l.1 m.0 m.1 ac lc db dl cd (key_sides l m f.0) in
    let rest = split_all a b c d l ls ac lc db dl cd f.1 in
    omega arith

-- the parts before, in and behind a range that lies in another
parts_sum : (a b c d : ℤ) (p q r s : ℕ) → a ≤ℤ c → d ≤ℤ b → c ≤ℤ d → p ≡ span_of a (c -ℤ pos 1) → q ≡ span_of c d → r ≡ span_of (d +ℤ pos 1) b → s ≡ span_of a b → s ≡ p + (q + r)
parts_sum a b c d p q r s ac db cd e f g h =
    let mid : pos q ≡ (d -ℤ c) +ℤ pos 1 = ap (λ n. pos n) f ∙ span-some c d cd in
    let all : pos s ≡ (b -ℤ a) +ℤ pos 1 = ap (λ n. pos n) h ∙ span-some a b (omega (arith, ints)) in
    let low : pos p ≡ c -ℤ a = ap (λ n. pos n) e ∙ low_part a c ac in
    let high : pos r ≡ b -ℤ d = ap (λ n. pos n) g ∙ high_part d b db in
    omega (arith, ints)
  where
    low_part : (a c : ℤ) → a ≤ℤ c → pos (span_of a (c -ℤ pos 1)) ≡ c -ℤ a
    low_part a c h = by (int_le a (c -ℤ pos 1)) refl
      where
        by : (t : Bool) → int_le a (c -ℤ pos 1) ≡ t → pos (span_of a (c -ℤ pos 1)) ≡ c -ℤ a
        by true e = span-some a (c -ℤ pos 1) (le_fact a (c -ℤ pos 1) e) ∙ omega (arith, ints)
        by false e = let k = gt_fact a (c -ℤ pos 1) e in ap (λ n. pos n) (span-none a (c -ℤ pos 1) k) ∙ omega (arith, ints)

    high_part : (d b : ℤ) → d ≤ℤ b → pos (span_of (d +ℤ pos 1) b) ≡ b -ℤ d
    high_part d b h = by (int_le (d +ℤ pos 1) b) refl
      where
        by : (t : Bool) → int_le (d +ℤ pos 1) b ≡ t → pos (span_of (d +ℤ pos 1) b) ≡ b -ℤ d
        by true e = span-some (d +ℤ pos 1) b (le_fact (d +ℤ pos 1) b e) ∙ omega (arith, ints)
        by false e = let k = gt_fact (d +ℤ pos 1) b e in ap (λ n. pos n) (span-none (d +ℤ pos 1) b k) ∙ omega (arith, ints)

-- the keys from a to b are no more than the numbers there
keys_few : (ls : List Line) (a b : ℤ) → all_differ share ls ≡ true → total a b ls ≤ span_of a b
keys_few [] a b h = omega arith
keys_few (l ∷ ls) a b h =
    by (int_le (int_max a l.0) (int_min b l.1)) refl (keys_few ls a b f.1) (keys_few ls a (int_max a l.0 -ℤ pos 1) f.1) (keys_few ls (int_min b l.1 +ℤ pos 1) b f.1)
  where
    f : (not (list_any (share l) ls) ≡ true) × (all_differ share ls ≡ true)
    f = and_parts (not (list_any (share l) ls)) (all_differ share ls) h

    by : (t : Bool) → int_le (int_max a l.0) (int_min b l.1) ≡ t → total a b ls ≤ span_of a b → total a (int_max a l.0 -ℤ pos 1) ls ≤ span_of a (int_max a l.0 -ℤ pos 1) → total (int_min b l.1 +ℤ pos 1) b ls ≤ span_of (int_min b l.1 +ℤ pos 1) b
        → total a b (l ∷ ls) ≤ span_of a b
    by true e whole low high =
        let inside = le_fact (int_max a l.0) (int_min b l.1) e in
        let two = split_all a b (int_max a l.0) (int_min b l.1) l ls (max_left a l.0) (max_right a l.0) (min_left b l.1) (min_right b l.1) inside (not-true (list_any (share l) ls) f.0) in
        let sum = parts_sum a b (int_max a l.0) (int_min b l.1) _ _ _ _ (max_left a l.0) (min_left b l.1) inside refl refl refl refl in
        omega arith
    by false e whole low high = let none = span-none (int_max a l.0) (int_min b l.1) (gt_fact (int_max a l.0) (int_min b l.1) e) in omega arith

no_line : (t : Bool) (v : ℤ) (rest : Option ℤ) → (if t then Some v else rest) ≡ None → (t ≡ false) × (rest ≡ None)
no_line true v rest h = cc
no_line false v rest h = (refl, h)

off_line : (l : Line) (x : ℤ) → on_line l x ≡ false → (x <ℤ l.0) ⊎ (l.1 <ℤ x)
off_line l x h = by (not_both (int_le l.0 x) (int_le x l.1) h)
  where
    by : (int_le l.0 x ≡ false) ⊎ (int_le x l.1 ≡ false) → (x <ℤ l.0) ⊎ (l.1 <ℤ x)
    by (inl e) = inl (gt_fact l.0 x e)
    by (inr e) = inr (gt_fact x l.1 e)

before : (c l0 x : ℤ) → l0 ≤ℤ c → x <ℤ l0 → x ≤ℤ (c -ℤ pos 1)
before c l0 x h k = omega (arith, ints)

behind : (d l1 x : ℤ) → d ≤ℤ l1 → l1 <ℤ x → (d +ℤ pos 1) ≤ℤ x
behind d l1 x h k = omega (arith, ints)

-- and where one of these is no key they are fewer
keys_fewer : (ls : List Line) (a b x : ℤ) → all_differ share ls ≡ true → image_in ls x ≡ None → a ≤ℤ x → x ≤ℤ b → total a b ls < span_of a b
keys_fewer [] a b x h n p q = let s = span-some a b (omega (arith, ints)) in omega (arith, ints)
keys_fewer (l ∷ ls) a b x h n p q =
    by (int_le (int_max a l.0) (int_min b l.1)) refl (off_line l x m.0) (keys_fewer ls a b x f.1 m.1 p q)
    (λ u. keys_fewer ls a (int_max a l.0 -ℤ pos 1) x f.1 m.1 p u) (λ u. keys_fewer ls (int_min b l.1 +ℤ pos 1) b x f.1 m.1 u q)
    (keys_few ls a (int_max a l.0 -ℤ pos 1) f.1) (keys_few ls (int_min b l.1 +ℤ pos 1) b f.1)
  where
    f : (not (list_any (share l) ls) ≡ true) × (all_differ share ls ≡ true)
    f = and_parts (not (list_any (share l) ls)) (all_differ share ls) h

    m : (on_line l x ≡ false) × (image_in ls x ≡ None)
    m = no_line (on_line l x) (l.2 +ℤ (x -ℤ l.0)) (image_in ls x) n

    by : (t : Bool) → int_le (int_max a l.0) (int_min b l.1) ≡ t → (x <ℤ l.0) ⊎ (l.1 <ℤ x) → total a b ls < span_of a b
        → (x ≤ℤ (int_max a l.0 -ℤ pos 1) → total a (int_max a l.0 -ℤ pos 1) ls < span_of a (int_max a l.0 -ℤ pos 1))
        → ((int_min b l.1 +ℤ pos 1) ≤ℤ x → total (int_min b l.1 +ℤ pos 1) b ls < span_of (int_min b l.1 +ℤ pos 1) b)
        → total a (int_max a l.0 -ℤ pos 1) ls ≤ span_of a (int_max a l.0 -ℤ pos 1) → total (int_min b l.1 +ℤ pos 1) b ls ≤ span_of (int_min b l.1 +ℤ pos 1) b
        → total a b (l ∷ ls) < span_of a b
    by false e side whole low high few many = let none = span-none (int_max a l.0) (int_min b l.1) (gt_fact (int_max a l.0) (int_min b l.1) e) in omega arith
    by true e (inl s) whole low high few many =
        let inside = le_fact (int_max a l.0) (int_min b l.1) e in
        let two = split_all a b (int_max a l.0) (int_min b l.1) l ls (max_left a l.0) (max_right a l.0) (min_left b l.1) (min_right b l.1) inside (not-true (list_any (share l) ls) f.0) in
        let sum = parts_sum a b (int_max a l.0) (int_min b l.1) _ _ _ _ (max_left a l.0) (min_left b l.1) inside refl refl refl refl in
        let k = low (before (int_max a l.0) l.0 x (max_right a l.0) s) in
        omega arith
    by true e (inr s) whole low high few many =
        let inside = le_fact (int_max a l.0) (int_min b l.1) e in
        let two = split_all a b (int_max a l.0) (int_min b l.1) l ls (max_left a l.0) (max_right a l.0) (min_left b l.1) (min_right b l.1) inside (not-true (list_any (share l) ls) f.0) in
        let sum = parts_sum a b (int_max a l.0) (int_min b l.1) _ _ _ _ (max_left a l.0) (min_left b l.1) inside refl refl refl refl in
        let k = high (behind (int_min b l.1) l.1 x (min_right b l.1) s) in
        omega arith

-- Images count the keys.

pub count-append : (xs ys : List (ℤ × ℤ)) → count (xs ++ ys) ≡ count xs + count ys
count-append [] ys = omega arith
count-append (x ∷ xs) ys = omega (arith, count-append xs ys)

count-clipped : (r : ℤ × ℤ) (l : Line) → count (clipped r l) ≡ span_of (int_max r.0 l.0) (int_min r.1 l.1)
count-clipped r l = by (int_max r.0 l.0) (int_min r.1 l.1) l.2 l.0 (int_le (int_max r.0 l.0) (int_min r.1 l.1))
  where
    by : (low high z l0 : ℤ) (t : Bool) → count (if t then (z +ℤ (low -ℤ l0), z +ℤ (high -ℤ l0)) ∷ [] else []) ≡ (if t then suc (nat_abs (high -ℤ low)) else 0)
    by low high z l0 true = omega (arith, ints)
    by low high z l0 false = refl

count-lines : (r : ℤ × ℤ) (ls : List Line) → count (flat_map (clipped r) ls) ≡ total r.0 r.1 ls
count-lines r [] = refl
count-lines r (l ∷ ls) =
    let one = count-append (clipped r l) (flat_map (clipped r) ls) in
    let two = count-clipped r l in
    let three = count-lines r ls in
    omega arith

size-span : (r : ℤ × ℤ) → r.0 ≤ℤ r.1 → size_of r ≡ span_of r.0 r.1
size-span r h = rw (le_test r.0 r.1 h) refl

-- each range in order
abbrev pub Ordered : List (ℤ × ℤ) → Type 0
Ordered [] = Unit {0}
Ordered (r ∷ rs) = (r.0 ≤ℤ r.1) × Ordered rs

ordered_above : (b : ℤ) (rs : List (ℤ × ℤ)) → are_ranges_above b rs ≡ true → Ordered rs
ordered_above b [] h = tt
ordered_above b (r ∷ rs) h =
    let f = and_parts (int_lt b r.0) (int_le r.0 r.1 && are_ranges_above (r.1 +ℤ pos 1) rs) h in
    let g = and_parts (int_le r.0 r.1) (are_ranges_above (r.1 +ℤ pos 1) rs) f.1 in
    (le_fact r.0 r.1 g.0, ordered_above (r.1 +ℤ pos 1) rs g.1)

pub ordered_ranges : (rs : List (ℤ × ℤ)) → are_ranges rs ≡ true → Ordered rs
ordered_ranges [] h = tt
ordered_ranges (r ∷ rs) h = let g = and_parts (int_le r.0 r.1) (are_ranges_above (r.1 +ℤ pos 1) rs) h in (le_fact r.0 r.1 g.0, ordered_above (r.1 +ℤ pos 1) rs g.1)

images_few : (ls : List Line) (rs : List (ℤ × ℤ)) → all_differ share ls ≡ true → Ordered rs → count (flat_map (λ r. flat_map (clipped r) ls) rs) ≤ count rs
images_few ls [] h o = omega arith
images_few ls (r ∷ rs) h o =
    let one = count-append (flat_map (clipped r) ls) (flat_map (λ z. flat_map (clipped z) ls) rs) in
    let two = count-lines r ls in
    let three = keys_few ls r.0 r.1 h in
    let four = images_few ls rs h o.1 in
    let five = size-span r o.0 in
    omega arith

images_fewer : (ls : List Line) (rs : List (ℤ × ℤ)) (x : ℤ) → all_differ share ls ≡ true → Ordered rs → has rs x ≡ true → image_in ls x ≡ None → count (flat_map (λ r. flat_map (clipped r) ls) rs) < count rs
images_fewer ls [] x h o p n = cc
images_fewer ls (r ∷ rs) x h o p n =
    let one = count-append (flat_map (clipped r) ls) (flat_map (λ z. flat_map (clipped z) ls) rs) in
    let two = count-lines r ls in
    let three = keys_few ls r.0 r.1 h in
    let four = images_few ls rs h o.1 in
    let five = size-span r o.0 in
    either {F = count (flat_map (λ z. flat_map (clipped z) ls) (r ∷ rs)) < count (r ∷ rs)} (int_le r.0 x && int_le x r.1) (has rs x) p
    (λ q. let w = and_parts (int_le r.0 x) (int_le x r.1) q in let six = keys_fewer ls r.0 r.1 x h n (le_fact r.0 x w.0) (le_fact x r.1 w.1) in omega arith)
    (λ q. let six = images_fewer ls rs x h o.1 q n in omega arith)

in_table : (ls : List Line) (rs : List (ℤ × ℤ)) (x : ℤ) → all_differ share ls ≡ true → Ordered rs → has rs x ≡ true → count (flat_map (λ r. flat_map (clipped r) ls) rs) ≡ count rs → (y : ℤ) × (image_in ls x ≡ Some y)
in_table ls rs x h o p e = by (image_in ls x) refl
  where
    by : (v : Option ℤ) → image_in ls x ≡ v → (y : ℤ) × (image_in ls x ≡ Some y)
    by (Some y) is = (y, is)
    by None is = let few = images_fewer ls rs x h o p is in absurd (omega arith)

pub by_table : (coding : NumCoding) (set : List (ℤ × ℤ)) (table : Option Table) (x : ℤ) → table_fine coding set table ≡ true → Ordered set → has set x ≡ true → (y : ℤ) × (image_by table x ≡ Some y)
by_table coding set None x h o p = (x, refl)
by_table coding set (Some table) x h o p =
    let a = and_parts (has_size coding) (list_all line_fine table.lines && (all_differ share table.lines && nat_eq (count (images_by (Some table) set)) (count set))) h in
    let b = and_parts (list_all line_fine table.lines) (all_differ share table.lines && nat_eq (count (images_by (Some table) set)) (count set)) a.1 in
    let c = and_parts (all_differ share table.lines) (nat_eq (count (images_by (Some table) set)) (count set)) b.1 in
    in_table table.lines set x c.0 o p (eqb-true (count (images_by (Some table) set)) (count set) c.1)

-- The set of a leaf, and its items.

pub range_within : (low high : ℤ) (rs : List (ℤ × ℤ)) (x : ℤ) → is_range low high rs ≡ true → has rs x ≡ true → (low ≤ℤ x) × (x ≤ℤ high)
range_within low high [] x h p = cc
range_within low high (r ∷ []) x h p =
    let f = and_parts (int_eq r.0 low) (int_eq r.1 high) h in
    let one = eq_fact r.0 low f.0 in
    let two = eq_fact r.1 high f.1 in
    either {F = (low ≤ℤ x) × (x ≤ℤ high)} (int_le r.0 x && int_le x r.1) false p
    (λ q. let w = and_parts (int_le r.0 x) (int_le x r.1) q in (rw (← one) (le_fact r.0 x w.0), rw (← two) (le_fact x r.1 w.1)))
    (λ q. cc)
range_within low high (r ∷ s ∷ rs) x h p = cc

range_ordered : (low high : ℤ) (rs : List (ℤ × ℤ)) → low ≤ℤ high → is_range low high rs ≡ true → Ordered rs
range_ordered low high [] le h = cc
range_ordered low high (r ∷ []) le h =
    let f = and_parts (int_eq r.0 low) (int_eq r.1 high) h in
    (rw (eq_fact r.0 low f.0, eq_fact r.1 high f.1) le, tt)
range_ordered low high (r ∷ s ∷ rs) le h = cc

-- the set of a leaf that keeps its rules is in order
pub set_ordered : (kind : NumKind) (coding : NumCoding) (items : Items) (table : Option Table) (set : List (ℤ × ℤ)) → set_fine kind coding items table set ≡ true → Ordered set
set_ordered Integer coding items table set h = ordered_ranges set (and_parts (are_ranges set) (integer_set_fine coding (ends set) && no_items items) h).0
set_ordered Boolean coding items table set h = range_ordered (pos 0) (pos 1) set (omega (arith, ints)) (and_parts (is_range (pos 0) (pos 1) set) (no_items items) h).0
set_ordered Enumerated coding items table set h =
    range_ordered (pos 0) (pos (length items.items - 1)) set (omega (arith, ints)) (and_parts (is_range (pos 0) (pos (length items.items - 1)) set) (items_fine coding items) (and_parts (nat_lt 0 (length items.items)) (is_range (pos 0) (pos (length items.items - 1)) set && items_fine coding items) h).1).0
set_ordered Null coding items table set h = range_ordered (pos 0) (pos 0) set (omega (arith, ints)) (and_parts (is_range (pos 0) (pos 0) set) (no_items items) h).0

item_there : (items : List (List ℕ × ℤ)) (i : ℕ) → i < length items → (y : ℤ) × (option_map (λ named. named.1) (slice_get items i) ≡ Some y)
item_there [] i h = absurd (omega arith)
item_there (x ∷ items) zero h = (x.1, refl)
item_there (x ∷ items) (suc i) h = item_there items i (omega arith)

item_image : (items : List (List ℕ × ℤ)) (x : ℤ) → 0 < length items → pos 0 ≤ℤ x → x ≤ℤ pos (length items - 1) → (y : ℤ) × (item_number items x ≡ Some y)
item_image items (pos i) some a b = item_there items i (omega (arith, ints))
item_image items (negsuc n) some a b = absurd (omega (arith, ints))

-- where the items are written the leaf is an enumeration
items_image : (kind : NumKind) (coding : NumCoding) (items : Items) (table : Option Table) (set : List (ℤ × ℤ)) (x : ℤ) → set_fine kind coding items table set ≡ true → items.values ≡ true → has set x ≡ true → (y : ℤ) × (item_number items.items x ≡ Some y)
items_image Integer coding items table set x h v p =
    let n = no_values items (and_parts (integer_set_fine coding (ends set)) (no_items items) (and_parts (are_ranges set) (integer_set_fine coding (ends set) && no_items items) h).1).1 in cc
items_image Boolean coding items table set x h v p = let n = no_values items (and_parts (is_range (pos 0) (pos 1) set) (no_items items) h).1 in cc
items_image Null coding items table set x h v p = let n = no_values items (and_parts (is_range (pos 0) (pos 0) set) (no_items items) h).1 in cc
items_image Enumerated coding items table set x h v p =
    let f = and_parts (nat_lt 0 (length items.items)) (is_range (pos 0) (pos (length items.items - 1)) set && items_fine coding items) h in
    let w = range_within (pos 0) (pos (length items.items - 1)) set x (and_parts (is_range (pos 0) (pos (length items.items - 1)) set) (items_fine coding items) f.1).0 p in
    item_image items.items x (ltb-true 0 (length items.items) f.0) w.0 w.1

pub has_image : (leaf : NumLeaf) → IsTrue (num_fine leaf) → (x : ℤ) → In leaf.set x → (y : ℤ) × (image_of leaf x ≡ Some y)
has_image leaf h x p = by leaf.items.values refl
  where
    by : (v : Bool) → leaf.items.values ≡ v → (y : ℤ) × ((if v then item_number leaf.items.items x else image_by leaf.table x) ≡ Some y)
    by true e = items_image leaf.kind leaf.coding leaf.items leaf.table leaf.set x (rules_of leaf h).set e p
    by false e = by_table leaf.coding leaf.set leaf.table x (rules_of leaf h).table (set_ordered leaf.kind leaf.coding leaf.items leaf.table leaf.set (rules_of leaf h).set) p
