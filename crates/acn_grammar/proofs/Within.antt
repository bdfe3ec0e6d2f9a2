-- The written number of a permitted one lies among the images, and between their ends.
use Rattle.std.proofs.Common.{◌≡◌, ℕ, zero, suc, ℤ, pos, negsuc, ◌+ℤ◌, Bool, true, false, List, [], ◌∷◌, ◌++◌, map, Option, Some, None, refl, sym, ap, ◌∙◌, arith, ◌&&◌, ◌||◌}
use Rattle.std.specs.Prelude.{◌-ℤ◌, ◌≤ℤ◌, int_le, slice_get, option_map, if◌then◌else◌}
use Rattle.std.specs.Int.{int_min, int_max}
use Rattle.std.specs.List.{flat_map}
use Rattle.std.proofs.lemmas.Int.{ints}
use Rattle.std.proofs.lemmas.Bool.Decides.{nat_tests}
use Rattle.acn_num.specs.Ranges.{In, has}
use Rattle.acn_grammar.specs.Code.{on_line, image_in, image_by, image_of, item_number}
use Rattle.acn_grammar.specs.Images.{clipped, images_by, images_of, ends_from, ends}
use Rattle.acn_grammar.specs.declared.node.Items.{Items}
use Rattle.acn_grammar.specs.declared.node.NumLeaf.{NumLeaf}
use Rattle.acn_grammar.specs.declared.node.Table.{Table}
use Rattle.std.proofs.lemmas.Bool.{or_right, or_left, and_parts}
use Rattle.acn_grammar.proofs.WholeTests.{le_test, le_fact, either}

has_range : (r : ℤ × ℤ) (x : ℤ) (rs : List (ℤ × ℤ)) → r.0 ≤ℤ x → x ≤ℤ r.1 → has (r ∷ rs) x ≡ true
has_range r x rs h k = rw (le_test r.0 x h, le_test x r.1 k)

has_front : (rs ss : List (ℤ × ℤ)) (x : ℤ) → has rs x ≡ true → has (rs ++ ss) x ≡ true
has_front [] ss x h = cc
has_front (r ∷ rs) ss x h =
    pub_either (int_le r.0 x && int_le x r.1) (has rs x) (has (rs ++ ss) x) h (λ k. has_front rs ss x k)
  where
    pub_either : (a b c : Bool) → (a || b) ≡ true → (b ≡ true → c ≡ true) → (a || c) ≡ true
    pub_either true b c h f = refl
    pub_either false b c h f = f h

has_back : (rs ss : List (ℤ × ℤ)) (x : ℤ) → has ss x ≡ true → has (rs ++ ss) x ≡ true
has_back [] ss x h = h
has_back (r ∷ rs) ss x h = or_right (int_le r.0 x && int_le x r.1) (has (rs ++ ss) x) (has_back rs ss x h)

line_has : (r : ℤ × ℤ) (line : ℤ × ℤ × ℤ) (x : ℤ) → r.0 ≤ℤ x → x ≤ℤ r.1 → line.0 ≤ℤ x → x ≤ℤ line.1 → has (clipped r line) (line.2 +ℤ (x -ℤ line.0)) ≡ true
line_has r line x a b c d =
    let low : int_max r.0 line.0 ≤ℤ x = grind (arith, ints, nat_tests) in
    let high : x ≤ℤ int_min r.1 line.1 = grind (arith, ints, nat_tests) in
    in_clip (int_max r.0 line.0) (int_min r.1 line.1) line x low high
  where
    in_clip : (low high : ℤ) (line : ℤ × ℤ × ℤ) (x : ℤ) → low ≤ℤ x → x ≤ℤ high → has (if int_le low high then (line.2 +ℤ (low -ℤ line.0), line.2 +ℤ (high -ℤ line.0)) ∷ [] else []) (line.2 +ℤ (x -ℤ line.0)) ≡ true
    in_clip low high line x h k =
        let t : int_le low high ≡ true = grind (arith, ints, nat_tests) in
        rw t (has_range (line.2 +ℤ (low -ℤ line.0), line.2 +ℤ (high -ℤ line.0)) (line.2 +ℤ (x -ℤ line.0)) [] (omega (arith, ints)) (omega (arith, ints)))

if_cases : {F : Type 0} (t : Bool) (v y : ℤ) (rest : Option ℤ) → (if t then Some v else rest) ≡ Some y → (t ≡ true → v ≡ y → F) → (rest ≡ Some y → F) → F
if_cases true v y rest q f g = f refl cc
if_cases false v y rest q f g = g q

pub between : (a b x : ℤ) → (int_le a x && int_le x b) ≡ true → (a ≤ℤ x) × (x ≤ℤ b)
between a b x h = let f = and_parts (int_le a x) (int_le x b) h in (le_fact a x f.0, le_fact x b f.1)

lines_have : (r : ℤ × ℤ) (lines : List (ℤ × ℤ × ℤ)) (x y : ℤ) → r.0 ≤ℤ x → x ≤ℤ r.1 → image_in lines x ≡ Some y → has (flat_map (clipped r) lines) y ≡ true
lines_have r [] x y a b e = cc
lines_have r (line ∷ lines) x y a b e =
    if_cases {F = has (flat_map (clipped r) (line ∷ lines)) y ≡ true} (on_line line x) (line.2 +ℤ (x -ℤ line.0)) y (image_in lines x) e
    (λ o v. let w = between line.0 line.1 x o in has_front (clipped r line) (flat_map (clipped r) lines) y (ap (has (clipped r line)) (sym v) ∙ line_has r line x a b w.0 w.1))
    (λ m. has_back (clipped r line) (flat_map (clipped r) lines) y (lines_have r lines x y a b m))

table_has : (lines : List (ℤ × ℤ × ℤ)) (rs : List (ℤ × ℤ)) (x y : ℤ) → has rs x ≡ true → image_in lines x ≡ Some y → has (flat_map (λ r. flat_map (clipped r) lines) rs) y ≡ true
table_has lines [] x y h e = cc
table_has lines (r ∷ rs) x y h e =
    either {F = has (flat_map (λ z. flat_map (clipped z) lines) (r ∷ rs)) y ≡ true} (int_le r.0 x && int_le x r.1) (has rs x) h
    (λ o. let w = between r.0 r.1 x o in has_front (flat_map (clipped r) lines) (flat_map (λ z. flat_map (clipped z) lines) rs) y (lines_have r lines x y w.0 w.1 e))
    (λ o. has_back (flat_map (clipped r) lines) (flat_map (λ z. flat_map (clipped z) lines) rs) y (table_has lines rs x y o e))

le_both : (x y : ℤ) → x ≡ y → (int_le x y && int_le y x) ≡ true
le_both x y e = grind (arith, ints, nat_tests)

items_have : (items : List (List ℕ × ℤ)) (i : ℕ) (y : ℤ) → option_map (λ named. named.1) (slice_get items i) ≡ Some y → has (map (λ named. (named.1, named.1)) items) y ≡ true
items_have [] i y e = cc
items_have (a ∷ items) zero y e =
    let is : a.1 ≡ y = cc in
    or_left (int_le a.1 y && int_le y a.1) (has (map (λ named. (named.1, named.1)) items) y) (le_both a.1 y is)
items_have (a ∷ items) (suc i) y e = or_right (int_le a.1 y && int_le y a.1) (has (map (λ named. (named.1, named.1)) items) y) (items_have items i y e)

pub by_values : (v : Bool) (items : Items) (table : Option Table) (set : List (ℤ × ℤ)) (x y : ℤ) → has set x ≡ true → (if v then item_number items.items x else image_by table x) ≡ Some y
    → has (if v then map (λ named. (named.1, named.1)) items.items else images_by table set) y ≡ true
by_values true items table set (pos i) y h e = items_have items.items i y e
by_values true items table set (negsuc i) y h e = cc
by_values false items None set x y h e = let is : x ≡ y = cc in ap (has set) (sym is) ∙ h
by_values false items (Some table) set x y h e = table_has table.lines set x y h e

pub image_has : (leaf : NumLeaf) (x y : ℤ) → In leaf.set x → image_of leaf x ≡ Some y → has (images_of leaf) y ≡ true
image_has leaf x y h e = by_values leaf.items.values leaf.items leaf.table leaf.set x y h e

-- The ends.

ends_from-below : (e : ℤ × ℤ) (rs : List (ℤ × ℤ)) → ((ends_from e rs).0 ≤ℤ e.0) × (e.1 ≤ℤ (ends_from e rs).1)
ends_from-below e [] = (omega (arith, ints), omega (arith, ints))
ends_from-below e (r ∷ rs) =
    let f = ends_from-below (int_min e.0 r.0, int_max e.1 r.1) rs in
    let low : int_min e.0 r.0 ≤ℤ e.0 = grind (arith, ints, nat_tests) in
    let high : e.1 ≤ℤ int_max e.1 r.1 = grind (arith, ints, nat_tests) in
    let one = f.0 in
    let two = f.1 in
    (trans_le _ _ _ one low, trans_le _ _ _ high two)
  where
    trans_le : (a b c : ℤ) → a ≤ℤ b → b ≤ℤ c → a ≤ℤ c
    trans_le a b c h k = omega (arith, ints)

ends_from-has : (e : ℤ × ℤ) (rs : List (ℤ × ℤ)) (y : ℤ) → has rs y ≡ true → ((ends_from e rs).0 ≤ℤ y) × (y ≤ℤ (ends_from e rs).1)
ends_from-has e [] y h = cc
ends_from-has e (r ∷ rs) y h =
    let f = ends_from-below (int_min e.0 r.0, int_max e.1 r.1) rs in
    either {F = ((ends_from e (r ∷ rs)).0 ≤ℤ y) × (y ≤ℤ (ends_from e (r ∷ rs)).1)} (int_le r.0 y && int_le y r.1) (has rs y) h
    (λ o. let w = between r.0 r.1 y o in (low_end _ e.0 r.0 y f.0 w.0, high_end _ e.1 r.1 y f.1 w.1))
    (λ o. ends_from-has (int_min e.0 r.0, int_max e.1 r.1) rs y o)
  where
    low_end : (x a b y : ℤ) → x ≤ℤ int_min a b → b ≤ℤ y → x ≤ℤ y
    low_end x a b y h k = grind (arith, ints, nat_tests)

    high_end : (x a b y : ℤ) → int_max a b ≤ℤ x → y ≤ℤ b → y ≤ℤ x
    high_end x a b y h k = grind (arith, ints, nat_tests)

pub ends-has : (rs : List (ℤ × ℤ)) (y : ℤ) (e : ℤ × ℤ) → has rs y ≡ true → ends rs ≡ Some e → (e.0 ≤ℤ y) × (y ≤ℤ e.1)
ends-has [] y e h is = cc
ends-has (r ∷ rs) y e h is =
    let same : ends_from r rs ≡ e = some_one (ends_from r rs) e is in
    either {F = (e.0 ≤ℤ y) × (y ≤ℤ e.1)} (int_le r.0 y && int_le y r.1) (has rs y) h
    (λ o. let w = between r.0 r.1 y o in let f = ends_from-below r rs in (rw (← same) (trans_le _ _ _ f.0 w.0), rw (← same) (trans_le _ _ _ w.1 f.1)))
    (λ o. let f = ends_from-has r rs y o in (rw (← same) f.0, rw (← same) f.1))
  where
    some_one : {A : Type 0} (x y : A) → Some x ≡ Some y → x ≡ y
    some_one x y e = cc

    trans_le : (a b c : ℤ) → a ≤ℤ b → b ≤ℤ c → a ≤ℤ c
    trans_le a b c h k = omega (arith, ints)
