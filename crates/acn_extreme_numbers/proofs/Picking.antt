-- What is picked of what is tried, a part at a time.
use Rattle.std.proofs.Common.{◌≡◌, ℕ, ◌^◌, ℤ, pos, neg_ℤ, Bool, true, false, ◌&&◌, List, [], ◌∷◌, ◌++◌, Option, Some, refl, sym, ap, ◌∙◌, arith, IsTrue, cond, length, get_or, drop, subst, ◌<◌, ◌+◌, nat_lt}
use Rattle.std.proofs.lemmas.Bool.{and_parts}
use Rattle.std.proofs.lemmas.Int.{ints}
use Rattle.std.proofs.lemmas.List.{drop_more}
use Rattle.std.specs.Prelude.{◌≤ℤ◌, ◌<ℤ◌, ◌+ℤ◌, ◌-ℤ◌, int_le, int_lt, nat_eq, if◌then◌else◌}
use Rattle.std.specs.Int.{int_max, int_min}
use Rattle.std.specs.List.{flat_map, list_all}
use Rattle.acn_num.specs.Ranges.{Ranges, In, has, count}
use Rattle.acn_grammar.specs.Images.{images_by}
use Rattle.acn_grammar.specs.Interval.{nearest, origin}
use Rattle.acn_grammar.specs.Leaves.{num_fine, line_fine, is_number, has_size, set_fine, table_fine, all_differ, share}
use Rattle.acn_grammar.specs.Length.{num_length, least}
use Rattle.acn_grammar.specs.declared.node.NumCoding.{NumCoding}
use Rattle.acn_grammar.specs.declared.node.NumCoding.TheVariants.{Range, CountedFrom, CountedSigned, PosInt, Twos, Bcd, BcdEnded, Ascii, AsciiEnded, Flag, Fixed}
use Rattle.acn_grammar.specs.declared.node.Items.{Items}
use Rattle.acn_grammar.specs.declared.node.NumKind.{NumKind}
use Rattle.acn_grammar.specs.declared.node.NumKind.TheVariants.{Integer, Boolean, Enumerated, Null}
use Rattle.acn_grammar.specs.declared.node.NumLeaf.{NumLeaf}
use Rattle.acn_grammar.specs.declared.node.Table.{Table}
use Rattle.acn_grammar.proofs.FineLeaves.{rules_of}
use Rattle.acn_grammar.proofs.HasImage.{set_ordered, Ordered}
use Rattle.acn_grammar.proofs.RangeEnds.{first_in}
use Rattle.acn_grammar.proofs.WholeTests.{le_fact, lt_fact, ge_fact, le_test, lt_test}
use Rattle.acn_extreme_laws.specs.Codes.{pick, ahead}
use Rattle.acn_extreme_numbers.specs.Tries.{tried_by, tried_on, nearest_key, image_on}
use Rattle.acn_extreme_laws.specs.declared.side.Side.{Side}
use Rattle.acn_extreme_numbers.specs.Picked.{IsPart, AreParts, picked}

pick-append : (len : ℤ → ℕ) (side : Side) (best : ℤ) (xs ys : List ℤ) → pick len side best (xs ++ ys) ≡ pick len side (pick len side best xs) ys
pick-append len side best [] ys = refl
pick-append len side best (x ∷ xs) ys = pick-append len side (if ahead side (len x) (len best) then x else best) xs ys

pub picked-append : (leaf : NumLeaf) (side : Side) (best : ℤ) (xs ys : List ℤ) → picked leaf side best (xs ++ ys) ≡ picked leaf side (picked leaf side best xs) ys
picked-append leaf side best xs ys = pick-append (num_length leaf) side best xs ys

-- one part more of what is tried
pub picked_turn : {A : Type 0} (leaf : NumLeaf) (side : Side) (f : A → List ℤ) (xs : List A) (i : ℕ) (d : A) (best next whole : ℤ) → i < length xs → next ≡ picked leaf side best (f (get_or xs i d))
    → picked leaf side best (flat_map f (drop i xs)) ≡ whole → picked leaf side next (flat_map f (drop (i + 1) xs)) ≡ whole
picked_turn leaf side f xs i d best next whole h is same =
    ap (λ n. picked leaf side n (flat_map f (drop (i + 1) xs))) is
    ∙ (sym (picked-append leaf side best (f (get_or xs i d)) (flat_map f (drop (i + 1) xs)))
    ∙ (ap (λ ys. picked leaf side best (flat_map f ys)) (sym (drop_more xs i d h)) ∙ same))

pub fine_turn : (ls : List (ℤ × ℤ × ℤ)) (i : ℕ) (d : ℤ × ℤ × ℤ) → i < length ls → list_all line_fine (drop i ls) ≡ true → (line_fine (get_or ls i d) ≡ true) × (list_all line_fine (drop (i + 1) ls) ≡ true)
fine_turn ls i d h fine = and_parts (line_fine (get_or ls i d)) (list_all line_fine (drop (i + 1) ls)) (ap (list_all line_fine) (sym (drop_more ls i d h)) ∙ fine)

pub parts_turn : (set rs : Ranges) (i : ℕ) (d : ℤ × ℤ) → i < length rs → AreParts set (drop i rs) → IsPart set (get_or rs i d) × AreParts set (drop (i + 1) rs)
parts_turn set rs i d h parts = subst (AreParts set) (drop_more rs i d h) parts

-- What lies in a part of a set.

near_in : (o a b : ℤ) (s t : Bool) → (s ≡ true → o <ℤ a) → (s ≡ false → a ≤ℤ o) → (t ≡ true → b <ℤ o) → (t ≡ false → o ≤ℤ b) → a ≤ℤ b → (a ≤ℤ (if s then a else (if t then b else o))) × ((if s then a else (if t then b else o)) ≤ℤ b)
near_in o a b true t f g h k le = (omega (arith, ints), le)
near_in o a b false true f g h k le = (le, omega (arith, ints))
near_in o a b false false f g h k le = (g refl, k refl)

pub near_between : (o : ℤ) (r : ℤ × ℤ) → r.0 ≤ℤ r.1 → (r.0 ≤ℤ nearest o r) × (nearest o r ≤ℤ r.1)
near_between o r le = near_in o r.0 r.1 (int_lt o r.0) (int_lt r.1 o) (lt_fact o r.0) (ge_fact o r.0) (lt_fact r.1 o) (ge_fact r.1 o) le

self : (x : ℤ) → x ≤ℤ x
self x = omega (arith, ints)

pub low_in : (set : Ranges) (r : ℤ × ℤ) → IsPart set r → In set r.0
low_in set r p = p.within r.0 (self r.0) p.order

pub high_in : (set : Ranges) (r : ℤ × ℤ) → IsPart set r → In set r.1
high_in set r p = p.within r.1 p.order (self r.1)

pub nearest_in : (set : Ranges) (r : ℤ × ℤ) (x : ℤ) → IsPart set r → In set (nearest x r)
nearest_in set r x p = (let n = near_between x r p.order in p.within (nearest x r) n.0 n.1)

-- What a range and the keys of a line share.

max_left : (a b : ℤ) → a ≤ℤ int_max a b
max_left a b = by (int_lt b a) refl
  where
    by : (t : Bool) → int_lt b a ≡ t → a ≤ℤ cond t a b
    by true e = omega (arith, ints)
    by false e = ge_fact b a e

max_right : (a b : ℤ) → b ≤ℤ int_max a b
max_right a b = by (int_lt b a) refl
  where
    by : (t : Bool) → int_lt b a ≡ t → b ≤ℤ cond t a b
    by true e = (let l = lt_fact b a e in omega (arith, ints))
    by false e = omega (arith, ints)

min_left : (a b : ℤ) → int_min a b ≤ℤ a
min_left a b = by (int_lt b a) refl
  where
    by : (t : Bool) → int_lt b a ≡ t → cond t b a ≤ℤ a
    by true e = (let l = lt_fact b a e in omega (arith, ints))
    by false e = omega (arith, ints)

min_right : (a b : ℤ) → int_min a b ≤ℤ b
min_right a b = by (int_lt b a) refl
  where
    by : (t : Bool) → int_lt b a ≡ t → cond t b a ≤ℤ b
    by true e = omega (arith, ints)
    by false e = ge_fact b a e

abbrev Line : Type 0
Line = ℤ × ℤ × ℤ

-- the keys that are shared stand between the ends of both
pub record Shared (r : ℤ × ℤ) (line : Line) (low high : ℤ) : Type 0 where
  pub order : low ≤ℤ high
  pub first : line.0 ≤ℤ low
  pub last : high ≤ℤ line.1
  pub above : r.0 ≤ℤ low
  pub below : high ≤ℤ r.1

pub shared : (r : ℤ × ℤ) (line : Line) (low high : ℤ) → low ≡ int_max r.0 line.0 → high ≡ int_min r.1 line.1 → int_le low high ≡ true → Shared r line low high
shared r line low high e f o =
    let a = max_left r.0 line.0 in
    let b = max_right r.0 line.0 in
    let c = min_left r.1 line.1 in
    let d = min_right r.1 line.1 in
    let g = le_fact low high o in
    record { order = g; first = omega (arith, ints); last = omega (arith, ints); above = omega (arith, ints); below = omega (arith, ints) }

key_between : (low high z l0 n : ℤ) → (z +ℤ (low -ℤ l0)) ≤ℤ n → n ≤ℤ (z +ℤ (high -ℤ l0)) → (low ≤ℤ (l0 +ℤ (n -ℤ z))) × ((l0 +ℤ (n -ℤ z)) ≤ℤ high)
key_between low high z l0 n a b = (omega (arith, ints), omega (arith, ints))

keeps : (a b c d : ℤ) → a ≤ℤ b → (c +ℤ (a -ℤ d)) ≤ℤ (c +ℤ (b -ℤ d))
keeps a b c d h = omega (arith, ints)

pub shared_low : (set : Ranges) (r : ℤ × ℤ) (line : Line) (low high : ℤ) → IsPart set r → Shared r line low high → In set low
shared_low set r line low high p s = (let a = s.order in let b = s.below in p.within low s.above (omega (arith, ints)))

pub shared_high : (set : Ranges) (r : ℤ × ℤ) (line : Line) (low high : ℤ) → IsPart set r → Shared r line low high → In set high
shared_high set r line low high p s = (let a = s.order in let b = s.above in p.within high (omega (arith, ints)) s.below)

pub shared_near : (set : Ranges) (r : ℤ × ℤ) (line : Line) (low high x : ℤ) → IsPart set r → Shared r line low high → In set (nearest_key x line low high)
shared_near set r line low high x p s =
    let near = near_between x (image_on line low, image_on line high) (keeps low high line.2 line.0 s.order) in
    let key = key_between low high line.2 line.0 (nearest x (image_on line low, image_on line high)) near.0 near.1 in
    let a = s.above in
    let b = s.below in
    let c = key.0 in
    let d = key.1 in
    p.within (nearest_key x line low high) (omega (arith, ints)) (omega (arith, ints))

-- Numbers of lines.

pub number_low : (x : ℤ) → is_number x ≡ true → neg_ℤ (pos (2 ^ 63)) ≤ℤ x
number_low x h = le_fact (neg_ℤ (pos (2 ^ 63))) x (and_parts (int_le (neg_ℤ (pos (2 ^ 63))) x) (int_lt x (pos (2 ^ 64))) h).0

pub number_high : (x : ℤ) → is_number x ≡ true → x <ℤ pos (2 ^ 64)
number_high x h = lt_fact x (pos (2 ^ 64)) (and_parts (int_le (neg_ℤ (pos (2 ^ 63))) x) (int_lt x (pos (2 ^ 64))) h).1

pub is_number_from : (x : ℤ) → neg_ℤ (pos (2 ^ 63)) ≤ℤ x → x <ℤ pos (2 ^ 64) → is_number x ≡ true
is_number_from x low high = rw (le_test (neg_ℤ (pos (2 ^ 63))) x low, lt_test x (pos (2 ^ 64)) high) refl

pub record LineFacts (line : ℤ × ℤ × ℤ) : Type 0 where
  pub order : line.0 ≤ℤ line.1
  pub first : is_number line.0 ≡ true
  pub last : is_number line.1 ≡ true
  pub image : is_number line.2 ≡ true
  pub image_last : is_number (line.2 +ℤ (line.1 -ℤ line.0)) ≡ true

pub line_facts : (line : ℤ × ℤ × ℤ) → line_fine line ≡ true → LineFacts line
line_facts line h =
    let a = and_parts (int_le line.0 line.1) (is_number line.0 && (is_number line.1 && (is_number line.2 && is_number (line.2 +ℤ (line.1 -ℤ line.0))))) h in
    let b = and_parts (is_number line.0) (is_number line.1 && (is_number line.2 && is_number (line.2 +ℤ (line.1 -ℤ line.0)))) a.1 in
    let c = and_parts (is_number line.1) (is_number line.2 && is_number (line.2 +ℤ (line.1 -ℤ line.0))) b.1 in
    let d = and_parts (is_number line.2) (is_number (line.2 +ℤ (line.1 -ℤ line.0))) c.1 in
    record { order = le_fact line.0 line.1 a.0; first = b.0; last = c.0; image = d.0; image_last = d.1 }

between_numbers : (a b x : ℤ) → is_number a ≡ true → is_number b ≡ true → a ≤ℤ x → x ≤ℤ b → is_number x ≡ true
between_numbers a b x h k l m =
    let low = number_low a h in
    let high = number_high b k in
    is_number_from x (omega (arith, ints)) (omega (arith, ints))

pub key_is_number : (line : ℤ × ℤ × ℤ) (key : ℤ) → line_fine line ≡ true → line.0 ≤ℤ key → key ≤ℤ line.1 → is_number key ≡ true
key_is_number line key h low high = (let f = line_facts line h in between_numbers line.0 line.1 key f.first f.last low high)

pub image_is_number : (line : ℤ × ℤ × ℤ) (key : ℤ) → line_fine line ≡ true → line.0 ≤ℤ key → key ≤ℤ line.1 → is_number (line.2 +ℤ (key -ℤ line.0)) ≡ true
image_is_number line key h low high =
    let f = line_facts line h in
    between_numbers line.2 (line.2 +ℤ (line.1 -ℤ line.0)) (line.2 +ℤ (key -ℤ line.0)) f.image f.image_last (omega (arith, ints)) (omega (arith, ints))

pub nearest_is_number : (x a b : ℤ) → is_number x ≡ true → is_number a ≡ true → is_number b ≡ true → is_number (nearest x (a, b)) ≡ true
nearest_is_number x a b h k l = by (int_lt x a) (int_lt b x)
  where
    by : (s t : Bool) → is_number (if s then a else (if t then b else x)) ≡ true
    by true t = k
    by false true = l
    by false false = h

-- Tables.

plain_origin : (coding : NumCoding) → has_size coding ≡ true → origin coding ≡ pos 0
plain_origin (CountedFrom low) h = cc
plain_origin CountedSigned h = refl
plain_origin (Range low width) h = refl
plain_origin (PosInt n) h = refl
plain_origin (Twos n) h = refl
plain_origin (Bcd n) h = refl
plain_origin BcdEnded h = refl
plain_origin (Ascii n signed) h = refl
plain_origin (AsciiEnded end signed) h = refl
plain_origin (Flag p q) h = refl
plain_origin (Fixed pattern) h = refl

pub record Tabled (leaf : NumLeaf) (table : Table) : Type 0 where
  pub size : has_size leaf.coding ≡ true
  pub lines : list_all line_fine table.lines ≡ true
  pub origin_is : origin leaf.coding ≡ pos 0

pub tabled : (leaf : NumLeaf) (table : Table) → IsTrue (num_fine leaf) → leaf.table ≡ Some table → Tabled leaf table
tabled leaf table fine e =
    let f = ap (table_fine leaf.coding leaf.set) (sym e) ∙ (rules_of leaf fine).table in
    let a = and_parts (has_size leaf.coding) (list_all line_fine table.lines && (all_differ share table.lines && nat_eq (count (images_by (Some table) leaf.set)) (count leaf.set))) f in
    let b = and_parts (list_all line_fine table.lines) (all_differ share table.lines && nat_eq (count (images_by (Some table) leaf.set)) (count leaf.set)) a.1 in
    record { size = a.0; lines = b.0; origin_is = plain_origin leaf.coding a.0 }

pub tabled_tried : (leaf : NumLeaf) (table : Table) (lines : List (ℤ × ℤ × ℤ)) (ranges : Ranges) → leaf.table ≡ Some table → origin leaf.coding ≡ pos 0 → lines ≡ table.lines → ranges ≡ leaf.set
    → flat_map (λ r. flat_map (tried_on (pos 0) r) lines) ranges ≡ tried_by (origin leaf.coding) leaf.table leaf.set
tabled_tried leaf table lines ranges e o f g =
    ap (λ (ls : List (ℤ × ℤ × ℤ)). flat_map (λ r. flat_map (tried_on (pos 0) r) ls) ranges) f
    ∙ (ap (λ (rs : Ranges). flat_map (λ r. flat_map (tried_on (pos 0) r) table.lines) rs) g
    ∙ (ap (λ (z : ℤ). tried_by z (Some table) leaf.set) (sym o) ∙ ap (λ (t : Option Table). tried_by (origin leaf.coding) t leaf.set) (sym e)))

-- The least number of a leaf.

set_there : (kind : NumKind) (coding : NumCoding) (items : Items) (table : Option Table) (set : List (ℤ × ℤ)) → set_fine kind coding items table set ≡ true → has set (least set) ≡ true
set_there Integer coding items table [] h = cc
set_there Boolean coding items table [] h = cc
set_there Enumerated coding items table [] h = absurd (none (nat_lt 0 (length items.items)) h)
  where
    none : (b : Bool) → (b && false) ≡ true → ⊥
    none true h = cc
    none false h = cc
set_there Null coding items table [] h = cc
set_there kind coding items table (r ∷ rs) h = first_in r rs (below (set_ordered kind coding items table (r ∷ rs) h))
  where
    below : Ordered (r ∷ rs) → r.0 ≤ℤ r.1
    below o = o.0

pub least_in : (leaf : NumLeaf) → IsTrue (num_fine leaf) → In leaf.set (least leaf.set)
least_in leaf fine = set_there leaf.kind leaf.coding leaf.items leaf.table leaf.set (rules_of leaf fine).set
