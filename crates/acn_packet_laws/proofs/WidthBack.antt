-- The one length of a leaf's codes is its width.
use Rattle.std.proofs.Common.{◌≡◌, ℕ, zero, suc, ◌+◌, ◌-◌, ◌^◌, ◌<◌, ◌≤◌, ℤ, pos, ◌+ℤ◌, Bool, true, false, not, List, [], ◌∷◌, ◌++◌, length, map, Option, Some, None, refl, sym, ap, ◌∙◌, arith, inl, inr, ◌⊎◌, nat_eq, nat_le, ◌&&◌, IsTrue}
use Rattle.std.proofs.lemmas.Bool.{and_from, or_left, or_parts, or_right, leb-true, and_parts, not-true}
use Rattle.std.specs.Prelude.{◌-ℤ◌, ◌≤ℤ◌, ◌<ℤ◌, int_le, int_lt, nat_lt, if◌then◌else◌, slice_get, option_map, count_by, cond, nat_abs, unwrap_or, ◌%◌}
use Rattle.std.specs.Int.{int_max, int_min}
use Rattle.std.specs.List.{list_any, list_all, flat_map, range_with_len}
use Rattle.std.specs.Ordering.{int_eq}
use Rattle.std.proofs.lemmas.Int.{ints}
use Rattle.std.proofs.lemmas.Bool.Decides.{nat_tests}
use Rattle.std.proofs.lemmas.List.Sums.{sum_by-cons}
use Rattle.acn_num.specs.Ranges.{has, are_ranges, count}
use Rattle.acn_grammar.specs.Check.{HasWidth}
use Rattle.acn_grammar.specs.Code.{Any, on_line, image_in, image_by, image_of, item_number}
use Rattle.acn_grammar.specs.Images.{clipped, images_by, images_of, ends}
use Rattle.acn_grammar.specs.Interval.{fixed_width, code_lengths, lengths_of, range_lengths, nearest, origin, one_length, width_by, width_of}
use Rattle.acn_packet_laws.specs.Laws.{WidthsAreLengths}
use Rattle.acn_grammar.specs.Leaves.{num_fine, coding_fine, set_fine, table_fine, share, all_differ, has_size, line_fine, is_range, integer_set_fine, no_items, items_fine, is_terminator, is_pattern, begins_number}
use Rattle.acn_grammar.specs.Length.{coding_length, num_length, sign_width, fits_octets}
use Rattle.acn_grammar.specs.Spell.{octet_numbers}
use Rattle.acn_grammar.specs.declared.bounds.Bounds.{Bounds}
use Rattle.acn_grammar.specs.declared.node.Items.{Items}
use Rattle.acn_grammar.specs.declared.node.NumCoding.{NumCoding}
use Rattle.acn_grammar.specs.declared.node.NumCoding.TheVariants.{Range, CountedFrom, CountedSigned, PosInt, Twos, Bcd, BcdEnded, Ascii, AsciiEnded, Flag, Fixed}
use Rattle.acn_grammar.specs.declared.node.NumKind.{NumKind}
use Rattle.acn_grammar.specs.declared.node.NumKind.TheVariants.{Integer, Boolean, Enumerated, Null}
use Rattle.acn_grammar.specs.declared.node.NumLeaf.{NumLeaf}
use Rattle.acn_grammar.specs.declared.node.Table.{Table}
use Rattle.acn_packet_laws.proofs.Codes.{each_number_has_a_code}
use Rattle.acn_grammar.proofs.FineLeaves.{Rules, rules_of, no_values}
use Rattle.acn_grammar.proofs.LeafLengths.{code-length}
use Rattle.acn_grammar.proofs.Monotone.{Varies}
use Rattle.acn_grammar.proofs.SpanLaw.{fixed_is, varies_if}
use Rattle.acn_grammar.proofs.WidthLaw.{width_holds}
use Rattle.acn_grammar.proofs.Within.{image_has}
use Rattle.acn_grammar.proofs.WholeTests.{either, le_fact, lt_fact, eq_fact, le_test, ge_fact}
use Rattle.acn_grammar.proofs.HasImage.{Ordered, key_sides, set_ordered, has_image}

in_range : (a b x : ℤ) → a ≤ℤ x → x ≤ℤ b → (int_le a x && int_le x b) ≡ true
in_range a b x h k = and_from (int_le a x) (int_le x b) (le_test a x h) (le_test x b k)

has_either : {F : Type 0} (xs ys : List (ℤ × ℤ)) (y : ℤ) → has (xs ++ ys) y ≡ true → (has xs y ≡ true → F) → (has ys y ≡ true → F) → F
has_either [] ys y h f g = g h
has_either {F} (x ∷ xs) ys y h f g = either {F = F} (int_le x.0 y && int_le y x.1) (has (xs ++ ys) y) h (λ q. f (or_left (int_le x.0 y && int_le y x.1) (has xs y) q)) (λ q. has_either {F = F} xs ys y q (λ r. f (or_right (int_le x.0 y && int_le y x.1) (has xs y) r)) g)

-- Each image is that of a permitted number.

max_left : (a b x : ℤ) → int_max a b ≤ℤ x → a ≤ℤ x
max_left a b x h = grind (arith, ints, nat_tests)

max_right : (a b x : ℤ) → int_max a b ≤ℤ x → b ≤ℤ x
max_right a b x h = grind (arith, ints, nat_tests)

min_left : (a b x : ℤ) → x ≤ℤ int_min a b → x ≤ℤ a
min_left a b x h = grind (arith, ints, nat_tests)

min_right : (a b x : ℤ) → x ≤ℤ int_min a b → x ≤ℤ b
min_right a b x h = grind (arith, ints, nat_tests)

clip_from : (low high z l0 y : ℤ) (t : Bool) → (t ≡ true → low ≤ℤ high) → has (if t then (z +ℤ (low -ℤ l0), z +ℤ (high -ℤ l0)) ∷ [] else []) y ≡ true → (low ≤ℤ ((y -ℤ z) +ℤ l0)) × (((y -ℤ z) +ℤ l0) ≤ℤ high)
clip_from low high z l0 y true f h = either {F = (low ≤ℤ ((y -ℤ z) +ℤ l0)) × (((y -ℤ z) +ℤ l0) ≤ℤ high)} (int_le (z +ℤ (low -ℤ l0)) y && int_le y (z +ℤ (high -ℤ l0))) false h
    (λ q. let w = and_parts (int_le (z +ℤ (low -ℤ l0)) y) (int_le y (z +ℤ (high -ℤ l0))) q in let a = le_fact (z +ℤ (low -ℤ l0)) y w.0 in let b = le_fact y (z +ℤ (high -ℤ l0)) w.1 in (omega (arith, ints), omega (arith, ints)))
    (λ q. cc)
clip_from low high z l0 y false f h = cc

pub record Key (ls : List (ℤ × ℤ × ℤ)) (r : ℤ × ℤ) (y : ℤ) : Type 0 where
  pub key : ℤ
  pub low : r.0 ≤ℤ key
  pub high : key ≤ℤ r.1
  pub maps : image_in ls key ≡ Some y

clip_key : (r : ℤ × ℤ) (l : ℤ × ℤ × ℤ) (ls : List (ℤ × ℤ × ℤ)) (y : ℤ) → has (clipped r l) y ≡ true → Key (l ∷ ls) r y
clip_key r l ls y h =
    let w = clip_from (int_max r.0 l.0) (int_min r.1 l.1) l.2 l.0 y (int_le (int_max r.0 l.0) (int_min r.1 l.1)) (le_fact (int_max r.0 l.0) (int_min r.1 l.1)) h in
    let x = (y -ℤ l.2) +ℤ l.0 in
    let on : on_line l x ≡ true = in_range l.0 l.1 x (max_right r.0 l.0 x w.0) (min_right r.1 l.1 x w.1) in
    record { key = x; low = max_left r.0 l.0 x w.0; high = min_left r.1 l.1 x w.1; maps = rw on (ap Some (back y l.2 l.0)) }
  where
    back : (y z l0 : ℤ) → z +ℤ (((y -ℤ z) +ℤ l0) -ℤ l0) ≡ y
    back y z l0 = omega (arith, ints)

-- a key of one line is no key of a line that shares none with it
other_line : (l : ℤ × ℤ × ℤ) (ls : List (ℤ × ℤ × ℤ)) (x y : ℤ) → list_any (share l) ls ≡ false → image_in ls x ≡ Some y → on_line l x ≡ false
other_line l [] x y h e = cc
other_line l (m ∷ ls) x y h e = by (on_line m x) refl (other_line l ls x y f.1) e
  where
    f : (share l m ≡ false) × (list_any (share l) ls ≡ false)
    f = or_parts (share l m) (list_any (share l) ls) h

    off : (t : Bool) → on_line l x ≡ t → (x <ℤ l.0) ⊎ (l.1 <ℤ x) → on_line l x ≡ false
    off false q side = q
    off true q (inl side) = let w = and_parts (int_le l.0 x) (int_le x l.1) q in let a = le_fact l.0 x w.0 in absurd (omega (arith, ints))
    off true q (inr side) = let w = and_parts (int_le l.0 x) (int_le x l.1) q in let a = le_fact x l.1 w.1 in absurd (omega (arith, ints))

    side_of : (a b c d x : ℤ) → a ≤ℤ x → x ≤ℤ b → (b <ℤ c) ⊎ (d <ℤ a) → (x <ℤ c) ⊎ (d <ℤ x)
    side_of a b c d x h k (inl s) = inl (omega (arith, ints))
    side_of a b c d x h k (inr s) = inr (omega (arith, ints))

    by : (t : Bool) → on_line m x ≡ t → (image_in ls x ≡ Some y → on_line l x ≡ false) → (if t then Some (m.2 +ℤ (x -ℤ m.0)) else image_in ls x) ≡ Some y → on_line l x ≡ false
    by false q rest e = rest e
    by true q rest e =
        let w = and_parts (int_le m.0 x) (int_le x m.1) q in
        off (on_line l x) refl (side_of m.0 m.1 l.0 l.1 x (le_fact m.0 x w.0) (le_fact x m.1 w.1) (key_sides l m f.0))

lines_key : (ls : List (ℤ × ℤ × ℤ)) (r : ℤ × ℤ) (y : ℤ) → all_differ share ls ≡ true → has (flat_map (clipped r) ls) y ≡ true → Key ls r y
lines_key [] r y d h = cc
lines_key (l ∷ ls) r y d h =
    let f = and_parts (not (list_any (share l) ls)) (all_differ share ls) d in
    has_either {F = Key (l ∷ ls) r y} (clipped r l) (flat_map (clipped r) ls) y h (λ q. clip_key r l ls y q)
    (λ q. let k = lines_key ls r y f.1 q in record { key = k.key; low = k.low; high = k.high; maps = rw (other_line l ls k.key y (not-true (list_any (share l) ls) f.0) k.maps) k.maps })

table_key : (ls : List (ℤ × ℤ × ℤ)) (rs : List (ℤ × ℤ)) (y : ℤ) → all_differ share ls ≡ true → has (flat_map (λ r. flat_map (clipped r) ls) rs) y ≡ true → (x : ℤ) × (has rs x ≡ true) × (image_in ls x ≡ Some y)
table_key ls [] y d h = cc
table_key ls (r ∷ rs) y d h =
    has_either {F = (x : ℤ) × (has (r ∷ rs) x ≡ true) × (image_in ls x ≡ Some y)} (flat_map (clipped r) ls) (flat_map (λ z. flat_map (clipped z) ls) rs) y h
    (λ q. let k = lines_key ls r y d q in (k.key, or_left (int_le r.0 k.key && int_le k.key r.1) (has rs k.key) (in_range r.0 r.1 k.key k.low k.high), k.maps))
    (λ q. let k = table_key ls rs y d q in (k.0, or_right (int_le r.0 k.0 && int_le k.0 r.1) (has rs k.0) k.1, k.2))

items_key : (items : List (List ℕ × ℤ)) (y : ℤ) → has (map (λ named. (named.1, named.1)) items) y ≡ true → (i : ℕ) × (i < length items) × (option_map (λ named. named.1) (slice_get items i) ≡ Some y)
items_key [] y h = cc
items_key (a ∷ items) y h = either {F = (i : ℕ) × (i < length (a ∷ items)) × (option_map (λ named. named.1) (slice_get (a ∷ items) i) ≡ Some y)} (int_le a.1 y && int_le y a.1) (has (map (λ named. (named.1, named.1)) items) y) h
    (λ q. let w = and_parts (int_le a.1 y) (int_le y a.1) q in (zero, omega arith, ap Some (same a.1 y (le_fact a.1 y w.0) (le_fact y a.1 w.1))))
    (λ q. let k = items_key items y q in (suc k.0, omega (arith, k.1), k.2))
  where
    same : (x y : ℤ) → x ≤ℤ y → y ≤ℤ x → x ≡ y
    same x y a b = omega (arith, ints)

range_has : (low high : ℤ) (rs : List (ℤ × ℤ)) (x : ℤ) → is_range low high rs ≡ true → low ≤ℤ x → x ≤ℤ high → has rs x ≡ true
range_has low high [] x h a b = cc
range_has low high (r ∷ []) x h a b =
    let f = and_parts (int_eq r.0 low) (int_eq r.1 high) h in
    or_left (int_le r.0 x && int_le x r.1) false (in_range r.0 r.1 x (rw (eq_fact r.0 low f.0) a) (rw (eq_fact r.1 high f.1) b))
range_has low high (r ∷ s ∷ rs) x h a b = cc

items_back : (kind : NumKind) (coding : NumCoding) (items : Items) (table : Option Table) (set : List (ℤ × ℤ)) (y : ℤ) → set_fine kind coding items table set ≡ true → items.values ≡ true → has (map (λ named. (named.1, named.1)) items.items) y ≡ true → (x : ℤ) × (has set x ≡ true) × (item_number items.items x ≡ Some y)
items_back Integer coding items table set y h v p =
    let n = no_values items (and_parts (integer_set_fine coding (ends set)) (no_items items) (and_parts (are_ranges set) (integer_set_fine coding (ends set) && no_items items) h).1).1 in cc
items_back Boolean coding items table set y h v p = let n = no_values items (and_parts (is_range (pos 0) (pos 1) set) (no_items items) h).1 in cc
items_back Null coding items table set y h v p = let n = no_values items (and_parts (is_range (pos 0) (pos 0) set) (no_items items) h).1 in cc
items_back Enumerated coding items table set y h v p =
    let f = and_parts (nat_lt 0 (length items.items)) (is_range (pos 0) (pos (length items.items - 1)) set && items_fine coding items) h in
    let k = items_key items.items y p in
    let below = k.1 in
    (pos k.0, range_has (pos 0) (pos (length items.items - 1)) set (pos k.0) (and_parts (is_range (pos 0) (pos (length items.items - 1)) set) (items_fine coding items) f.1).0 (omega (arith, ints)) (omega (arith, ints)), k.2)

table_back : (coding : NumCoding) (set : List (ℤ × ℤ)) (table : Option Table) (y : ℤ) → table_fine coding set table ≡ true → has (images_by table set) y ≡ true → (x : ℤ) × (has set x ≡ true) × (image_by table x ≡ Some y)
table_back coding set None y h p = (y, p, refl)
table_back coding set (Some table) y h p =
    let a = and_parts (has_size coding) (list_all line_fine table.lines && (all_differ share table.lines && nat_eq (count (images_by (Some table) set)) (count set))) h in
    let b = and_parts (list_all line_fine table.lines) (all_differ share table.lines && nat_eq (count (images_by (Some table) set)) (count set)) a.1 in
    let c = and_parts (all_differ share table.lines) (nat_eq (count (images_by (Some table) set)) (count set)) b.1 in
    table_key table.lines set y c.0 p

pub preimage : (leaf : NumLeaf) → IsTrue (num_fine leaf) → (y : ℤ) → has (images_of leaf) y ≡ true → (x : ℤ) × (has leaf.set x ≡ true) × (image_of leaf x ≡ Some y)
preimage leaf h y p = by leaf.items.values refl p
  where
    by : (v : Bool) → leaf.items.values ≡ v → has (if v then map (λ named. (named.1, named.1)) leaf.items.items else images_by leaf.table leaf.set) y ≡ true
        → (x : ℤ) × (has leaf.set x ≡ true) × ((if v then item_number leaf.items.items x else image_by leaf.table x) ≡ Some y)
    by true e q = items_back leaf.kind leaf.coding leaf.items leaf.table leaf.set y (rules_of leaf h).set e q
    by false e q = table_back leaf.coding leaf.set leaf.table y (rules_of leaf h).table q

-- The images are ranges in order.

ordered-append : (xs ys : List (ℤ × ℤ)) → Ordered xs → Ordered ys → Ordered (xs ++ ys)
ordered-append [] ys h k = k
ordered-append (x ∷ xs) ys h k = (h.0, ordered-append xs ys h.1 k)

clip_ordered : (low high z l0 : ℤ) (t : Bool) → (t ≡ true → low ≤ℤ high) → Ordered (if t then (z +ℤ (low -ℤ l0), z +ℤ (high -ℤ l0)) ∷ [] else [])
clip_ordered low high z l0 true f = let k = f refl in (omega (arith, ints), tt)
clip_ordered low high z l0 false f = tt

lines_ordered : (r : ℤ × ℤ) (ls : List (ℤ × ℤ × ℤ)) → Ordered (flat_map (clipped r) ls)
lines_ordered r [] = tt
lines_ordered r (l ∷ ls) = ordered-append (clipped r l) (flat_map (clipped r) ls) (clip_ordered (int_max r.0 l.0) (int_min r.1 l.1) l.2 l.0 (int_le (int_max r.0 l.0) (int_min r.1 l.1)) (le_fact (int_max r.0 l.0) (int_min r.1 l.1))) (lines_ordered r ls)

table_ordered : (ls : List (ℤ × ℤ × ℤ)) (rs : List (ℤ × ℤ)) → Ordered (flat_map (λ r. flat_map (clipped r) ls) rs)
table_ordered ls [] = tt
table_ordered ls (r ∷ rs) = ordered-append (flat_map (clipped r) ls) (flat_map (λ z. flat_map (clipped z) ls) rs) (lines_ordered r ls) (table_ordered ls rs)

items_ordered : (items : List (List ℕ × ℤ)) → Ordered (map (λ named. (named.1, named.1)) items)
items_ordered [] = tt
items_ordered (a ∷ items) = (omega (arith, ints), items_ordered items)

images_ordered : (v : Bool) (items : List (List ℕ × ℤ)) (table : Option Table) (set : List (ℤ × ℤ)) → Ordered set → Ordered (if v then map (λ named. (named.1, named.1)) items else images_by table set)
images_ordered true items table set o = items_ordered items
images_ordered false items None set o = o
images_ordered false items (Some table) set o = table_ordered table.lines set

-- All codes of one length.

near_in : (o a b : ℤ) (s t : Bool) → (s ≡ true → o <ℤ a) → (s ≡ false → a ≤ℤ o) → (t ≡ true → b <ℤ o) → (t ≡ false → o ≤ℤ b) → a ≤ℤ b → (a ≤ℤ (if s then a else (if t then b else o))) × ((if s then a else (if t then b else o)) ≤ℤ b)
near_in o a b true t f g h k le = (omega (arith, ints), le)
near_in o a b false true f g h k le = (le, omega (arith, ints))
near_in o a b false false f g h k le = (g refl, k refl)

nearest_in : (o : ℤ) (r : ℤ × ℤ) → r.0 ≤ℤ r.1 → (r.0 ≤ℤ nearest o r) × (nearest o r ≤ℤ r.1)
nearest_in o r le = near_in o r.0 r.1 (int_lt o r.0) (int_lt r.1 o) (lt_fact o r.0) (ge_fact o r.0) (lt_fact r.1 o) (ge_fact r.1 o) le

abbrev Is : Bounds → ℕ → Type 0
Is b w = (b.least ≡ w) × (b.greatest ≡ w)

range_is : (coding : NumCoding) (w : ℕ) (r : ℤ × ℤ) → r.0 ≤ℤ r.1 → ((y : ℤ) → r.0 ≤ℤ y → y ≤ℤ r.1 → coding_length coding y ≡ w) → Is (range_lengths coding r) w
range_is coding w r le f =
    let n = nearest_in (origin coding) r le in
    let low = f r.0 (omega (arith, ints)) le in
    let high = f r.1 le (omega (arith, ints)) in
    (f (nearest (origin coding) r) n.0 n.1, omega arith)

lengths_one : (coding : NumCoding) (w : ℕ) (r : ℤ × ℤ) (rs : List (ℤ × ℤ)) → Ordered (r ∷ rs) → ((y : ℤ) → has (r ∷ rs) y ≡ true → coding_length coding y ≡ w) → w ≤ 2 ^ 40 → Is (lengths_of coding (r ∷ rs)) w
lengths_one coding w r [] o f small =
    let here = range_is coding w r o.0 (λ y a b. f y (or_left (int_le r.0 y && int_le y r.1) false (in_range r.0 r.1 y a b))) in
    let low = here.0 in
    let high = here.1 in
    (omega arith, omega arith)
lengths_one coding w r (s ∷ rs) o f small =
    let here = range_is coding w r o.0 (λ y a b. f y (or_left (int_le r.0 y && int_le y r.1) (has (s ∷ rs) y) (in_range r.0 r.1 y a b))) in
    let rest = lengths_one coding w s rs o.1 (λ y q. f y (or_right (int_le r.0 y && int_le y r.1) (has (s ∷ rs) y) q)) small in
    let low = here.0 in
    let high = here.1 in
    let low' = rest.0 in
    let high' = rest.1 in
    (omega arith, omega arith)

pub count-most : (p : ℕ → Bool) (a n : ℕ) → count_by p (range_with_len a n) ≤ n
count-most p a zero = omega arith
count-most p a (suc n) =
    let one = sum_by-cons (λ x. cond (p x) 1 0) a (range_with_len (a + 1) n) in
    let rest = count-most p (a + 1) n in
    let here = ones (p a) in
    omega arith
  where
    ones : (b : Bool) → cond b 1 0 ≤ 1
    ones true = omega arith
    ones false = omega arith

sign_small : (signed : Bool) → sign_width signed ≤ 8
sign_small true = omega arith
sign_small false = omega arith

length_small : (coding : NumCoding) (y : ℤ) → Varies coding → coding_fine coding ≡ true → coding_length coding y ≤ 2 ^ 40
length_small (CountedFrom low) y v f = let c = count-most (λ c. nat_le (256 ^ c) (nat_abs (y -ℤ low))) 1 7 in omega arith
length_small CountedSigned y v f = let c = count-most (λ c. not (fits_octets y c)) 1 7 in omega arith
length_small BcdEnded y v f = let c = count-most (λ e. nat_le (10 ^ e) (nat_abs y)) 1 19 in omega arith
length_small (AsciiEnded end signed) y v f =
    let c = count-most (λ e. nat_le (10 ^ e) (nat_abs y)) 1 19 in
    let s = sign_small signed in
    let t = and_parts (is_terminator end) (not (begins_number (octet_numbers end))) f in
    let p = and_parts (is_pattern end) (nat_eq (length end % 8) 0) t.0 in
    let l = leb-true (length end) 64 (and_parts (nat_le 1 (length end)) (nat_le (length end) 64) p.0).1 in
    omega arith
length_small (Range low width) y v f = absurd v
length_small (PosInt n) y v f = absurd v
length_small (Twos n) y v f = absurd v
length_small (Bcd n) y v f = absurd v
length_small (Ascii n signed) y v f = absurd v
length_small (Flag p q) y v f = absurd v
length_small (Fixed pattern) y v f = absurd v

-- some number is permitted
some_number : (kind : NumKind) (coding : NumCoding) (items : Items) (table : Option Table) (set : List (ℤ × ℤ)) → set_fine kind coding items table set ≡ true → Ordered set → (x : ℤ) × (has set x ≡ true)
some_number kind coding items table (r ∷ rs) h o = (r.0, or_left (int_le r.0 r.0 && int_le r.0 r.1) (has rs r.0) (in_range r.0 r.1 r.0 (omega (arith, ints)) o.0))
some_number Integer coding items table [] h o = cc
some_number Boolean coding items table [] h o = cc
some_number Enumerated coding items table [] h o = let f = and_parts (nat_lt 0 (length items.items)) (is_range (pos 0) (pos (length items.items - 1)) [] && items_fine coding items) h in cc
some_number Null coding items table [] h o = cc

-- every image has a code of the one length
image_length : (leaf : NumLeaf) (w : ℕ) → IsTrue (num_fine leaf) → HasWidth leaf w → (x y : ℤ) → has leaf.set x ≡ true → image_of leaf x ≡ Some y → coding_length leaf.coding y ≡ w
image_length leaf w h k x y p e =
    let c = each_number_has_a_code Any leaf h x p in
    let l = code-length Any leaf h x c.0 c.1 in
    let m : num_length leaf x ≡ coding_length leaf.coding y = ap (λ o. coding_length leaf.coding (unwrap_or o (pos 0))) e in
    sym m ∙ (sym l ∙ k x c.0 c.1)

one_is : (b : Bounds) (w : ℕ) → Is b w → one_length b ≡ Some w
one_is b w h = by (nat_eq b.least b.greatest) (eq_true b.least b.greatest (h.0 ∙ sym h.1))
  where
    eq_true : (a b : ℕ) → a ≡ b → nat_eq a b ≡ true
    eq_true a b e = grind (arith, nat_tests)

    by : (t : Bool) → t ≡ true → (if t then Some b.least else None) ≡ Some w
    by true e = ap Some h.0
    by false e = cc

varied : (leaf : NumLeaf) (w : ℕ) (rs : List (ℤ × ℤ)) (y : ℤ) → Ordered rs → ((z : ℤ) → has rs z ≡ true → coding_length leaf.coding z ≡ w) → w ≤ 2 ^ 40 → has rs y ≡ true → Is (lengths_of leaf.coding rs) w
varied leaf w [] y o f small h = cc
varied leaf w (r ∷ rs) y o f small h = lengths_one leaf.coding w r rs o f small

pub width_is : (leaf : NumLeaf) (w : ℕ) → IsTrue (num_fine leaf) → HasWidth leaf w → width_of leaf ≡ Some w
width_is leaf w h k = by (fixed_width leaf.coding) refl
  where
    r : Rules leaf
    r = rules_of leaf h

    o : Ordered leaf.set
    o = set_ordered leaf.kind leaf.coding leaf.items leaf.table leaf.set r.set

    some : (x : ℤ) × (has leaf.set x ≡ true)
    some = some_number leaf.kind leaf.coding leaf.items leaf.table leaf.set r.set o

    image : (y : ℤ) × (image_of leaf some.0 ≡ Some y)
    image = has_image leaf h some.0 some.1

    here : coding_length leaf.coding image.0 ≡ w
    here = image_length leaf w h k some.0 image.0 some.1 image.1

    by : (v : Option ℕ) → v ≡ fixed_width leaf.coding → width_by leaf v ≡ Some w
    by (Some v) e = ap Some (sym (fixed_is leaf.coding v image.0 e) ∙ here)
    by None e =
        one_is (code_lengths leaf) w (varied leaf w (images_of leaf) image.0 (images_ordered leaf.items.values leaf.items.items leaf.table leaf.set o)
        (λ z q. let p = preimage leaf h z q in image_length leaf w h k p.0 z p.1 p.2) (small e) (image_has leaf some.0 image.0 some.1 image.1))
      where
        small : None ≡ fixed_width leaf.coding → w ≤ 2 ^ 40
        small e = let l = length_small leaf.coding image.0 (varies_if leaf.coding e) r.coding in let m = here in omega arith

pub widths_are_lengths : WidthsAreLengths
widths_are_lengths leaf w h = (width_holds leaf w h, width_is leaf w h)
