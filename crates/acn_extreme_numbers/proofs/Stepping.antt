-- The least of the numbers whose codes have one length, a part at a time.
use Rattle.std.proofs.Common.{◌≡◌, ℕ, ◌^◌, ℤ, pos, neg_ℤ, true, ◌&&◌, ◌||◌, List, [], ◌∷◌, ◌++◌, Option, Some, refl, sym, ap, ◌∙◌, arith, IsTrue, length, get_or, drop, subst, ◌<◌, ◌+◌}
use Rattle.std.proofs.lemmas.Bool.{and_parts}
use Rattle.std.proofs.lemmas.Int.{ints}
use Rattle.std.proofs.lemmas.List.{drop_more}
use Rattle.std.specs.Prelude.{◌<ℤ◌, ◌≤ℤ◌, int_le, int_lt, map, if◌then◌else◌}
use Rattle.std.specs.List.{flat_map, list_all}
use Rattle.acn_num.specs.Ranges.{Ranges, has}
use Rattle.acn_grammar.specs.Images.{images_by, ends}
use Rattle.acn_grammar.specs.Interval.{origin}
use Rattle.acn_grammar.specs.Leaves.{num_fine, is_number, set_fine, table_fine, takes, can_write_all}
use Rattle.acn_grammar.specs.Length.{least}
use Rattle.acn_grammar.specs.declared.node.NumCoding.{NumCoding}
use Rattle.acn_grammar.specs.declared.node.NumCoding.TheVariants.{Range, CountedFrom, CountedSigned, PosInt, Twos, Bcd, BcdEnded, Ascii, AsciiEnded, Flag, Fixed}
use Rattle.acn_grammar.specs.declared.node.Items.{Items}
use Rattle.acn_grammar.specs.declared.node.NumKind.{NumKind}
use Rattle.acn_grammar.specs.declared.node.NumLeaf.{NumLeaf}
use Rattle.acn_grammar.specs.declared.node.Table.{Table}
use Rattle.acn_grammar.proofs.FineLeaves.{rules_of}
use Rattle.acn_grammar.proofs.LeafLengths.{counted_kind, int_ends, is_plain, some_ends}
use Rattle.acn_grammar.proofs.WholeTests.{either, eq_fact, le_fact, lt_fact}
use Rattle.acn_grammar.proofs.Within.{ends-has}
use Rattle.acn_extreme_numbers.specs.Tries.{steps, line_keys, firsts_by, lesser, least_of}
use Rattle.acn_extreme_numbers.proofs.Picking.{least_in, is_number_from}

least-append : (leaf : NumLeaf) (best : ℤ) (xs ys : List ℤ) → least_of leaf best (xs ++ ys) ≡ least_of leaf (least_of leaf best xs) ys
least-append leaf best [] ys = refl
least-append leaf best (x ∷ xs) ys = least-append leaf (lesser leaf x best) xs ys

pub least_both : (leaf : NumLeaf) (best first last : ℤ) (xs ys : List ℤ) → first ≡ least_of leaf best xs → last ≡ least_of leaf first ys → last ≡ least_of leaf best (xs ++ ys)
least_both leaf best first last xs ys is last_is = last_is ∙ (ap (λ n. least_of leaf n ys) is ∙ sym (least-append leaf best xs ys))

-- one number more
pub least_turn : {A : Type 0} (leaf : NumLeaf) (f : A → ℤ) (xs : List A) (i : ℕ) (d : A) (best next whole : ℤ) → i < length xs → next ≡ lesser leaf (f (get_or xs i d)) best
    → least_of leaf best (map f (drop i xs)) ≡ whole → least_of leaf next (map f (drop (i + 1) xs)) ≡ whole
least_turn leaf f xs i d best next whole h is same =
    ap (λ n. least_of leaf n (map f (drop (i + 1) xs))) is ∙ (ap (λ ys. least_of leaf best (map f ys)) (sym (drop_more xs i d h)) ∙ same)

-- one part more
pub least_parts_turn : {A : Type 0} (leaf : NumLeaf) (f : A → List ℤ) (xs : List A) (i : ℕ) (d : A) (best next whole : ℤ) → i < length xs → next ≡ least_of leaf best (f (get_or xs i d))
    → least_of leaf best (flat_map f (drop i xs)) ≡ whole → least_of leaf next (flat_map f (drop (i + 1) xs)) ≡ whole
least_parts_turn leaf f xs i d best next whole h is same =
    ap (λ n. least_of leaf n (flat_map f (drop (i + 1) xs))) is
    ∙ (sym (least-append leaf best (f (get_or xs i d)) (flat_map f (drop (i + 1) xs)))
    ∙ (ap (λ ys. least_of leaf best (flat_map f ys)) (sym (drop_more xs i d h)) ∙ same))

pub numbers_turn : (xs : List ℤ) (i : ℕ) (d : ℤ) → i < length xs → list_all is_number (drop i xs) ≡ true → (is_number (get_or xs i d) ≡ true) × (list_all is_number (drop (i + 1) xs) ≡ true)
numbers_turn xs i d h all = and_parts (is_number (get_or xs i d)) (list_all is_number (drop (i + 1) xs)) (ap (list_all is_number) (sym (drop_more xs i d h)) ∙ all)

-- what is looked through where there is a table
pub firsts_are : (leaf : NumLeaf) (table : Table) (ranges : Ranges) (far : List ℤ) (lines : List (ℤ × ℤ × ℤ)) → leaf.table ≡ Some table → ranges ≡ leaf.set → far ≡ steps leaf.coding → lines ≡ table.lines
    → map (λ r. r.0) ranges ++ flat_map (line_keys far) lines ≡ firsts_by (origin leaf.coding) leaf.table leaf.set (steps leaf.coding)
firsts_are leaf table ranges far lines e f g h = rw (e, f, g, h) refl

-- Codes grow from a number.

below_top : (low high : ℤ) → (int_lt high (pos (2 ^ 63)) || (int_le (pos 0) low && int_lt high (pos (2 ^ 64)))) ≡ true → high <ℤ pos (2 ^ 64)
below_top low high h = either {F = high <ℤ pos (2 ^ 64)} (int_lt high (pos (2 ^ 63))) (int_le (pos 0) low && int_lt high (pos (2 ^ 64))) h
    (λ x. let y = lt_fact high (pos (2 ^ 63)) x in omega (arith, ints))
    (λ x. lt_fact high (pos (2 ^ 64)) (and_parts (int_le (pos 0) low) (int_lt high (pos (2 ^ 64))) x).1)

some_one : (x y : ℤ × ℤ) → Some x ≡ Some y → x ≡ y
some_one x y e = cc

-- numbers that are counted from a number aren't below it
low_by : (low : ℤ) (kind : NumKind) (items : Items) (table : Option Table) (set : List (ℤ × ℤ)) → takes kind (CountedFrom low) ≡ true → set_fine kind (CountedFrom low) items table set ≡ true → table_fine (CountedFrom low) set table ≡ true
    → can_write_all (CountedFrom low) (ends (if items.values then map (λ named. (named.1, named.1)) items.items else images_by table set)) ≡ true → (x : ℤ) → has set x ≡ true → low ≤ℤ x
low_by low kind items table set t s f w x h =
    let p = is_plain kind (CountedFrom low) items table set (counted_kind kind (CountedFrom low) t refl refl refl) refl s f in
    let e = int_ends (CountedFrom low) (ends set) p.2 in
    let all : ends (if items.values then map (λ named. (named.1, named.1)) items.items else images_by table set) ≡ ends set = rw (p.0, p.1) in
    let v = some_ends (CountedFrom low) (ends (if items.values then map (λ named. (named.1, named.1)) items.items else images_by table set)) w in
    let pair : v.0 ≡ e.0 = some_one v.0 e.0 (sym v.1 ∙ (all ∙ e.1)) in
    let first : low ≡ e.0.0 = eq_fact low v.0.0 v.2 ∙ ap (λ z. z.0) pair in
    let inside = ends-has set x e.0 h e.1 in
    let c = inside.0 in
    omega (arith, ints)

pub counted_low : (leaf : NumLeaf) → IsTrue (num_fine leaf) → (low : ℤ) → leaf.coding ≡ CountedFrom low → (x : ℤ) → has leaf.set x ≡ true → low ≤ℤ x
counted_low leaf fine low is =
    let r = rules_of leaf fine in
    by leaf.coding is r.kind r.set r.table r.writes
  where
    by : (coding : NumCoding) → coding ≡ CountedFrom low → takes leaf.kind coding ≡ true → set_fine leaf.kind coding leaf.items leaf.table leaf.set ≡ true → table_fine coding leaf.set leaf.table ≡ true
        → can_write_all coding (ends (if leaf.items.values then map (λ named. (named.1, named.1)) leaf.items.items else images_by leaf.table leaf.set)) ≡ true → (x : ℤ) → has leaf.set x ≡ true → low ≤ℤ x
    by coding e t s f w = subst (λ (c : NumCoding). takes leaf.kind c ≡ true → set_fine leaf.kind c leaf.items leaf.table leaf.set ≡ true → table_fine c leaf.set leaf.table ≡ true
        → can_write_all c (ends (if leaf.items.values then map (λ named. (named.1, named.1)) leaf.items.items else images_by leaf.table leaf.set)) ≡ true → (x : ℤ) → has leaf.set x ≡ true → low ≤ℤ x) (sym e)
        (low_by low leaf.kind leaf.items leaf.table leaf.set) t s f w

origin_by : (coding : NumCoding) (kind : NumKind) (items : Items) (table : Option Table) (set : List (ℤ × ℤ)) → takes kind coding ≡ true → set_fine kind coding items table set ≡ true → table_fine coding set table ≡ true
    → can_write_all coding (ends (if items.values then map (λ named. (named.1, named.1)) items.items else images_by table set)) ≡ true → has set (least set) ≡ true → is_number (origin coding) ≡ true
origin_by (CountedFrom low) kind items table set t s f w h =
    let p = is_plain kind (CountedFrom low) items table set (counted_kind kind (CountedFrom low) t refl refl refl) refl s f in
    let e = int_ends (CountedFrom low) (ends set) p.2 in
    let all : ends (if items.values then map (λ named. (named.1, named.1)) items.items else images_by table set) ≡ ends set = rw (p.0, p.1) in
    let v = some_ends (CountedFrom low) (ends (if items.values then map (λ named. (named.1, named.1)) items.items else images_by table set)) w in
    let pair : v.0 ≡ e.0 = some_one v.0 e.0 (sym v.1 ∙ (all ∙ e.1)) in
    let first : low ≡ e.0.0 = eq_fact low v.0.0 v.2 ∙ ap (λ z. z.0) pair in
    let inside = ends-has set (least set) e.0 h e.1 in
    let a = le_fact (neg_ℤ (pos (2 ^ 63))) e.0.0 e.2 in
    let b = below_top e.0.0 e.0.1 e.3 in
    let c = inside.0 in
    let d = inside.1 in
    is_number_from low (omega (arith, ints)) (omega (arith, ints))
origin_by (Range low width) kind items table set t s f w h = refl
origin_by CountedSigned kind items table set t s f w h = refl
origin_by (PosInt n) kind items table set t s f w h = refl
origin_by (Twos n) kind items table set t s f w h = refl
origin_by (Bcd n) kind items table set t s f w h = refl
origin_by BcdEnded kind items table set t s f w h = refl
origin_by (Ascii n signed) kind items table set t s f w h = refl
origin_by (AsciiEnded end signed) kind items table set t s f w h = refl
origin_by (Flag p q) kind items table set t s f w h = refl
origin_by (Fixed pattern) kind items table set t s f w h = refl

pub origin_is_number : (leaf : NumLeaf) → IsTrue (num_fine leaf) → is_number (origin leaf.coding) ≡ true
origin_is_number leaf fine =
    let r = rules_of leaf fine in
    origin_by leaf.coding leaf.kind leaf.items leaf.table leaf.set r.kind r.set r.table r.writes (least_in leaf fine)
