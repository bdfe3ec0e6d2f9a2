-- A table without a fault, over a set of which each number has an image that can be written.
use Rattle.std.proofs.Common.{◌≡◌, ℕ, ◌+◌, ◌⊎◌, inl, inr, Bool, true, false, not, ◌&&◌, ◌||◌, List, [], ◌∷◌, ◌++◌, map, Option, Some, None, refl, sym, ap, ◌∙◌, ℤ, ◌+ℤ◌, arith}
use Rattle.std.specs.Prelude.{◌-ℤ◌, ◌≤ℤ◌, ◌<ℤ◌, int_le, option_map, if◌then◌else◌}
use Rattle.std.specs.Int.{int_max, int_min}
use Rattle.std.specs.List.{list_all, list_any, flat_map}
use Rattle.std.proofs.lemmas.Bool.{and_parts, and_from, or_parts, or_from, or_cases, or_left, or_right, not-true, not_from_false, false_from_ne_true, true≢false}
use Rattle.std.proofs.lemmas.Int.{ints, clamps}
use Rattle.acn_num.specs.Ranges.{Ranges, has, AreRanges, meet, union, least, some_range, count, all_within}
use Rattle.acn_num.specs.Unions.{unions, one_has, AreAllRanges}
use Rattle.acn_num.proofs.Members.{or_assoc, has_meet}
use Rattle.acn_acn_syntax.specs.declared.maps.MapLine.{MapLine}
use Rattle.acn_codings.specs.Tables.{Line, line_of, last_image, keys, images, lesser, taken, line_fault, or_else, fault_behind, table_fault, keys_between, line_keys, keys_to}
use Rattle.acn_codings.proofs.Apart.{high, first_or_above}
use Rattle.acn_codings.proofs.FineFront.{union_ranges, union_has, range_ranges, in_range, line_ranges}
use Rattle.acn_grammar.specs.Code.{on_line}
use Rattle.acn_grammar.specs.Images.{clipped}
use Rattle.acn_grammar.specs.Leaves.{all_differ, is_number, line_fine, share}
use Rattle.acn_grammar.proofs.HasImage.{key_sides}
use Rattle.acn_grammar.proofs.WholeTests.{le_fact, le_test}
use Rattle.acn_leaf_laws.proofs.Counted.{weight, hits, as_many}
use Rattle.acn_leaf_laws.proofs.Options.{unmapped}
use Rattle.acn_leaf_laws.proofs.Sets.{none_in, range_has}

-- ---- the lines have no key and no image in common

-- the sets have no number in common
abbrev Free : Ranges → Ranges → Type 0
Free a b = (x : ℤ) → (has a x && has b x) ≡ false

-- each line is fine, and has none of these keys and images
abbrev AllFree : (keys_before images_before : Ranges) → List Line → Type 0
AllFree keys_before images_before [] = Unit {0}
AllFree keys_before images_before (l ∷ ls) = (line_fine l ≡ true) × Free (keys l) keys_before × Free (images l) images_before × AllFree keys_before images_before ls

apart_of : (p q r : Bool) → (p && (q || r)) ≡ false → ((p && q) ≡ false) × ((p && r) ≡ false)
apart_of false q r h = (refl, refl)
apart_of true q r h = or_parts q r h

free_first : (a b c : Ranges) → AreRanges b → AreRanges c → Free a (union b c) → Free a b
free_first a b c h k f x = (apart_of (has a x) (has b x) (has c x) (ap (λ t. has a x && t) (sym (union_has b c x h k)) ∙ f x)).0

free_second : (a b c : Ranges) → AreRanges b → AreRanges c → Free a (union b c) → Free a c
free_second a b c h k f x = (apart_of (has a x) (has b x) (has c x) (ap (λ t. has a x && t) (sym (union_has b c x h k)) ∙ f x)).1

-- a number that two ranges share
shared : (lo hi lo' hi' : ℤ) → lo ≤ℤ hi → lo' ≤ℤ hi' → lo ≤ℤ hi' → lo' ≤ℤ hi → Free (some_range lo' hi') (some_range lo hi) → ⊥
shared lo hi lo' hi' a b c d f =
    let x = int_max lo lo' in
    let one : has (some_range lo' hi') x ≡ true = range_has lo' hi' x (omega (arith, ints, clamps)) (omega (arith, ints, clamps, b, c)) in
    let two : has (some_range lo hi) x ≡ true = range_has lo hi x (omega (arith, ints, clamps)) (omega (arith, ints, clamps, a, d)) in
    true≢false (sym (and_from (has (some_range lo' hi') x) (has (some_range lo hi) x) one two) ∙ f x)

ranges_apart : (lo hi lo' hi' : ℤ) → lo ≤ℤ hi → lo' ≤ℤ hi' → Free (some_range lo' hi') (some_range lo hi) → (int_le lo hi' && int_le lo' hi) ≡ false
ranges_apart lo hi lo' hi' a b f = false_from_ne_true _ (λ t. let p = and_parts (int_le lo hi') (int_le lo' hi) t in shared lo hi lo' hi' a b (le_fact lo hi' p.0) (le_fact lo' hi p.1) f)

keys_order : (l : Line) → line_fine l ≡ true → l.0 ≤ℤ l.1
keys_order l h = le_fact l.0 l.1 (and_parts (int_le l.0 l.1) (is_number l.0 && (is_number l.1 && (is_number l.2 && is_number (last_image l)))) h).0

images_order : (l : Line) → line_fine l ≡ true → l.2 ≤ℤ last_image l
images_order l h = let o = keys_order l h in omega (arith, ints, o)

-- a line whose keys and images the others don't have shares none with them
apart : (ks is : Ranges) (l : Line) (ls : List Line) → AreRanges ks → AreRanges is → line_fine l ≡ true → AllFree (union ks (keys l)) (union is (images l)) ls → list_any (share l) ls ≡ false
apart ks is l [] h k fine f = refl
apart ks is l (m ∷ ms) h k fine f =
    let r = line_ranges l fine in
    or_from (share l m) (list_any (share l) ms)
    (or_from (int_le l.0 m.1 && int_le m.0 l.1) (int_le l.2 (last_image m) && int_le m.2 (last_image l))
    (ranges_apart l.0 l.1 m.0 m.1 (keys_order l fine) (keys_order m f.0) (free_second (keys m) ks (keys l) h r.of_keys f.1))
    (ranges_apart l.2 (last_image l) m.2 (last_image m) (images_order l fine) (images_order m f.0) (free_second (images m) is (images l) k r.of_images f.2)))
    (apart ks is l ms h k fine f.3)

fewer : (ks is : Ranges) (l : Line) (ls : List Line) → AreRanges ks → AreRanges is → line_fine l ≡ true → AllFree (union ks (keys l)) (union is (images l)) ls → AllFree ks is ls
fewer ks is l [] h k fine f = tt
fewer ks is l (m ∷ ms) h k fine f =
    let r = line_ranges l fine in
    (f.0, free_first (keys m) ks (keys l) h r.of_keys f.1, free_first (images m) is (images l) k r.of_images f.2, fewer ks is l ms h k fine f.3)

or_else_none : (a b : Option ℤ) → or_else a b ≡ None → (a ≡ None) × (b ≡ None)
or_else_none None b h = (refl, h)
or_else_none (Some x) b h = cc

lesser_none : (a b : Option ℤ) → lesser a b ≡ None → (a ≡ None) × (b ≡ None)
lesser_none None b h = (refl, h)
lesser_none (Some x) None h = cc
lesser_none (Some x) (Some y) h = cc

free_by : (a b : Ranges) → least (meet a b) ≡ None → Free a b
free_by a b h x = sym (has_meet a b x) ∙ none_in (meet a b) h x

fine_line : (ks is : Ranges) (l : Line) → line_fault ks is l ≡ None → (line_fine l ≡ true) × (taken ks is l ≡ None)
fine_line ks is l h = by (line_fine l) h
  where
    by : (t : Bool) → (if t then taken ks is l else Some l.0) ≡ None → (t ≡ true) × (taken ks is l ≡ None)
    by true e = (refl, e)
    by false e = cc

record AreApart (ks is : Ranges) (ls : List Line) : Type 0 where
  fine : list_all line_fine ls ≡ true
  differ : all_differ share ls ≡ true
  free : AllFree ks is ls

no_fault : (ks is : Ranges) (ls : List Line) → AreRanges ks → AreRanges is → fault_behind ks is ls ≡ None → AreApart ks is ls
no_fault ks is [] h k e = record { fine = refl; differ = refl; free = tt }
no_fault ks is (l ∷ ls) h k e =
    let o = or_else_none (line_fault ks is l) (fault_behind (union ks (keys l)) (union is (images l)) ls) e in
    let a = fine_line ks is l o.0 in
    let b = lesser_none (least (meet (keys l) ks)) (option_map (λ x. l.0 +ℤ (x -ℤ l.2)) (least (meet (images l) is))) a.1 in
    let r = line_ranges l a.0 in
    let rest = no_fault (union ks (keys l)) (union is (images l)) ls (union_ranges ks (keys l) h r.of_keys) (union_ranges is (images l) k r.of_images) o.1 in
    record {
      fine = and_from (line_fine l) (list_all line_fine ls) a.0 rest.fine;
      differ = and_from (not (list_any (share l) ls)) (all_differ share ls) (not_from_false (list_any (share l) ls) (apart ks is l ls h k a.0 rest.free)) rest.differ;
      free = (a.0, free_by (keys l) ks b.0, free_by (images l) is (unmapped (λ x. l.0 +ℤ (x -ℤ l.2)) (least (meet (images l) is)) b.1), fewer ks is l ls h k a.0 rest.free);
    }

pub table_parts : (ls : List MapLine) → table_fault ls ≡ None → (list_all line_fine (map line_of ls) ≡ true) × (all_differ share (map line_of ls) ≡ true)
unfolding table_fault
table_parts ls h = let a = no_fault [] [] (map line_of ls) tt tt h in (a.fine, a.differ)

-- ---- the keys whose images lie between two numbers

no_more : (t : Bool) → (t || false) ≡ t
no_more true = refl
no_more false = refl

unions_has : (a : Ranges) (others : List Ranges) (x : ℤ) → AreRanges a → AreAllRanges others → has (unions a others) x ≡ (has a x || one_has others x)
unions_has a [] x h k = sym (no_more (has a x))
unions_has a (s ∷ others) x h k =
    unions_has (union a s) others x (union_ranges a s h k.0) k.1
    ∙ (ap (λ (t : Bool). t || one_has others x) (union_has a s x h k.0) ∙ or_assoc (has a x) (has s x) (one_has others x))

unions_ranges : (a : Ranges) (others : List Ranges) → AreRanges a → AreAllRanges others → AreRanges (unions a others)
unions_ranges a [] h k = h
unions_ranges a (s ∷ others) h k = unions_ranges (union a s) others (union_ranges a s h k.0) k.1

-- the image of a key on a line lies between two numbers
abbrev pub Between : (low most : ℤ) → Line → ℤ → Type 0
Between low most l x = (low ≤ℤ (l.2 +ℤ (x -ℤ l.0))) × ((l.2 +ℤ (x -ℤ l.0)) ≤ℤ most)

-- on each line that has the key
abbrev pub Maps : (low most : ℤ) → ℤ → List Line → Type 0
Maps low most x [] = Unit {0}
Maps low most x (l ∷ ls) = (on_line l x ≡ true → Between low most l x) × Maps low most x ls

record IsKeyOnce (low most x : ℤ) (ls : List Line) : Type 0 where
  once : hits x ls ≡ 1
  maps : Maps low most x ls

within_append : (low most : ℤ) (xs ys : Ranges) → all_within low most xs ≡ true → all_within low most ys ≡ true → all_within low most (xs ++ ys) ≡ true
within_append low most [] ys h k = k
within_append low most (r ∷ xs) ys h k =
    let a = and_parts (int_le low r.0) (int_le r.1 most && all_within low most xs) h in
    let b = and_parts (int_le r.1 most) (all_within low most xs) a.1 in
    and_from (int_le low r.0) (int_le r.1 most && all_within low most (xs ++ ys)) a.0 (and_from (int_le r.1 most) (all_within low most (xs ++ ys)) b.0 (within_append low most xs ys b.1 k))

off_line : (l m : Line) (x : ℤ) → share l m ≡ false → on_line l x ≡ true → on_line m x ≡ false
off_line l m x h on = false_from_ne_true (on_line m x) (λ there.
    let p = and_parts (int_le l.0 x) (int_le x l.1) on in
    let q = and_parts (int_le m.0 x) (int_le x m.1) there in
    sides l m x (key_sides l m h) (le_fact l.0 x p.0) (le_fact x l.1 p.1) (le_fact m.0 x q.0) (le_fact x m.1 q.1))
  where
    sides : (l m : Line) (x : ℤ) → (m.1 <ℤ l.0) ⊎ (l.1 <ℤ m.0) → l.0 ≤ℤ x → x ≤ℤ l.1 → m.0 ≤ℤ x → x ≤ℤ m.1 → ⊥
    sides l m x (inl s) a b c d = omega (arith, ints, s, a, b, c, d)
    sides l m x (inr s) a b c d = omega (arith, ints, s, a, b, c, d)

module _ (low most : ℤ) where
  line_keys_ranges : (l : Line) → AreRanges (line_keys low most l)
  line_keys_ranges l = by (line_fine l) refl
    where
      by : (t : Bool) → line_fine l ≡ t → AreRanges (if t then keys_between low most l else [])
      by true e =
          let a = and_parts (int_le l.0 l.1) (is_number l.0 && (is_number l.1 && (is_number l.2 && is_number (last_image l)))) e in
          let b = and_parts (is_number l.0) (is_number l.1 && (is_number l.2 && is_number (last_image l))) a.1 in
          let c = and_parts (is_number l.1) (is_number l.2 && is_number (last_image l)) b.1 in
          let d = high l.1 c.0 in
          range_ranges (int_max l.0 (l.0 +ℤ (low -ℤ l.2))) (int_min l.1 (l.0 +ℤ (most -ℤ l.2))) (first_or_above l (l.0 +ℤ (low -ℤ l.2)) (int_max l.0 (l.0 +ℤ (low -ℤ l.2))) e refl) (omega (arith, ints, clamps, d))
      by false e = tt

  abbrev all_keys : List MapLine → List Ranges
  all_keys ls = map (λ l. line_keys low most (line_of l)) ls

  all_ranges : (ls : List MapLine) → AreAllRanges (all_keys ls)
  all_ranges [] = tt
  all_ranges (l ∷ ls) = (line_keys_ranges (line_of l), all_ranges ls)

  pub keys_ranges : (ls : List MapLine) → AreRanges (keys_to low most ls)
  unfolding keys_to
  keys_ranges ls = unions_ranges [] (all_keys ls) tt (all_ranges ls)

  keys_one : (ls : List MapLine) (x : ℤ) → has (keys_to low most ls) x ≡ true → one_has (all_keys ls) x ≡ true
  unfolding keys_to
  keys_one ls x m = sym (unions_has [] (all_keys ls) x tt (all_ranges ls)) ∙ m

  key_of : (l : Line) (x : ℤ) → has (line_keys low most l) x ≡ true → (on_line l x ≡ true) × Between low most l x
  key_of l x m = by (line_fine l) m
    where
      by : (t : Bool) → has (if t then keys_between low most l else []) x ≡ true → (on_line l x ≡ true) × Between low most l x
      by true e =
          let i = in_range (int_max l.0 (l.0 +ℤ (low -ℤ l.2))) (int_min l.1 (l.0 +ℤ (most -ℤ l.2))) x e in
          let a = i.0 in
          let b = i.1 in
          (and_from (int_le l.0 x) (int_le x l.1) (le_test l.0 x (omega (arith, ints, clamps, a))) (le_test x l.1 (omega (arith, ints, clamps, b))), (omega (arith, ints, clamps, a), omega (arith, ints, clamps, b)))
      by false e = cc

  -- ---- each number has one line

  none_hit : (b : Bool) (n m : ℕ) → b ≡ false → n ≡ m → weight b + n ≡ m
  none_hit true n m e f = cc
  none_hit false n m e f = omega (arith, f)

  one_hit : (b : Bool) (n : ℕ) → b ≡ true → n ≡ 0 → weight b + n ≡ 1
  one_hit true n e f = omega (arith, f)
  one_hit false n e f = cc

  off_all : (l : Line) (x : ℤ) (ls : List Line) → list_any (share l) ls ≡ false → on_line l x ≡ true → (hits x ls ≡ 0) × Maps low most x ls
  off_all l x [] h on = (refl, tt)
  off_all l x (m ∷ ms) h on =
      let p = or_parts (share l m) (list_any (share l) ms) h in
      let off = off_line l m x p.0 on in
      let rest = off_all l x ms p.1 on in
      (none_hit (on_line m x) (hits x ms) 0 off rest.0, (λ there. absurd (true≢false (sym there ∙ off)), rest.1))

  on_once : (x : ℤ) (l : Line) (rest : List Line) → list_any (share l) rest ≡ false → has (line_keys low most l) x ≡ true → IsKeyOnce low most x (l ∷ rest)
  on_once x l rest free here =
      let k = key_of l x here in
      let o = off_all l x rest free k.0 in
      record { once = one_hit (on_line l x) (hits x rest) k.0 o.0; maps = (λ on. k.1, o.1) }

  off_once : (x : ℤ) (l : Line) (rest : List Line) → list_any (share l) rest ≡ false → IsKeyOnce low most x rest → IsKeyOnce low most x (l ∷ rest)
  off_once x l rest free r =
      let off : on_line l x ≡ false = false_from_ne_true (on_line l x) (λ on. let o = (off_all l x rest free on).0 in let c = r.once in omega (arith, o, c)) in
      record { once = none_hit (on_line l x) (hits x rest) 1 off r.once; maps = (λ on. absurd (true≢false (sym on ∙ off)), r.maps) }

  key_once : (x : ℤ) (ls : List MapLine) → all_differ share (map line_of ls) ≡ true → one_has (all_keys ls) x ≡ true → IsKeyOnce low most x (map line_of ls)
  key_once x [] d m = cc
  key_once x (l ∷ ls) d m =
      let p = and_parts (not (list_any (share (line_of l)) (map line_of ls))) (all_differ share (map line_of ls)) d in
      let free = not-true (list_any (share (line_of l)) (map line_of ls)) p.0 in
      elim (or_cases (has (line_keys low most (line_of l)) x) (one_has (all_keys ls) x) m) [
        | inl here ↦ on_once x (line_of l) (map line_of ls) free here
        | inr there ↦ off_once x (line_of l) (map line_of ls) free (key_once x ls p.1 there)
      ]

  -- ---- so the images are as many, and lie between

  clipped_within : (r : ℤ × ℤ) (l : Line) → ((x : ℤ) → r.0 ≤ℤ x → x ≤ℤ r.1 → on_line l x ≡ true → Between low most l x) → all_within low most (clipped r l) ≡ true
  clipped_within r l f = by (int_le (int_max r.0 l.0) (int_min r.1 l.1)) refl
    where
      on : (x : ℤ) → l.0 ≤ℤ x → x ≤ℤ l.1 → on_line l x ≡ true
      on x a b = and_from (int_le l.0 x) (int_le x l.1) (le_test l.0 x a) (le_test x l.1 b)

      by : (t : Bool) → int_le (int_max r.0 l.0) (int_min r.1 l.1) ≡ t → all_within low most (if t then (l.2 +ℤ (int_max r.0 l.0 -ℤ l.0), l.2 +ℤ (int_min r.1 l.1 -ℤ l.0)) ∷ [] else []) ≡ true
      by true e =
          let o = le_fact (int_max r.0 l.0) (int_min r.1 l.1) e in
          let one = f (int_max r.0 l.0) (omega (arith, ints, clamps)) (omega (arith, ints, clamps, o)) (on (int_max r.0 l.0) (omega (arith, ints, clamps)) (omega (arith, ints, clamps, o))) in
          let two = f (int_min r.1 l.1) (omega (arith, ints, clamps, o)) (omega (arith, ints, clamps)) (on (int_min r.1 l.1) (omega (arith, ints, clamps, o)) (omega (arith, ints, clamps))) in
          and_from (int_le low (l.2 +ℤ (int_max r.0 l.0 -ℤ l.0))) (int_le (l.2 +ℤ (int_min r.1 l.1 -ℤ l.0)) most && true) (le_test low (l.2 +ℤ (int_max r.0 l.0 -ℤ l.0)) one.0)
          (and_from (int_le (l.2 +ℤ (int_min r.1 l.1 -ℤ l.0)) most) true (le_test (l.2 +ℤ (int_min r.1 l.1 -ℤ l.0)) most two.1) refl)
      by false e = refl

  lines_within : (r : ℤ × ℤ) (ls : List Line) → ((x : ℤ) → r.0 ≤ℤ x → x ≤ℤ r.1 → Maps low most x ls) → all_within low most (flat_map (clipped r) ls) ≡ true
  lines_within r [] f = refl
  lines_within r (l ∷ ls) f = within_append low most (clipped r l) (flat_map (clipped r) ls) (clipped_within r l (λ x a b. (f x a b).0)) (lines_within r ls (λ x a b. (f x a b).1))

  ranges_within : (rs : Ranges) (ls : List Line) → ((x : ℤ) → has rs x ≡ true → Maps low most x ls) → all_within low most (flat_map (λ (r : ℤ × ℤ). flat_map (clipped r) ls) rs) ≡ true
  ranges_within [] ls f = refl
  ranges_within (r ∷ rs) ls f =
      within_append low most (flat_map (clipped r) ls) (flat_map (λ (z : ℤ × ℤ). flat_map (clipped z) ls) rs)
      (lines_within r ls (λ x a b. f x (or_left (int_le r.0 x && int_le x r.1) (has rs x) (and_from (int_le r.0 x) (int_le x r.1) (le_test r.0 x a) (le_test x r.1 b)))))
      (ranges_within rs ls (λ x m. f x (or_right (int_le r.0 x && int_le x r.1) (has rs x) m)))

  module _ (ls : List MapLine) (differ : all_differ share (map line_of ls) ≡ true) (set : Ranges) (keyed : (x : ℤ) → has set x ≡ true → has (keys_to low most ls) x ≡ true) where
    each_once : (x : ℤ) → has set x ≡ true → IsKeyOnce low most x (map line_of ls)
    each_once x m = key_once x ls differ (keys_one ls x (keyed x m))

    pub images_counted : AreRanges set → count (flat_map (λ (r : ℤ × ℤ). flat_map (clipped r) (map line_of ls)) set) ≡ count set
    images_counted h = as_many set (map line_of ls) h (λ x m. (each_once x m).once)

    pub images_within : all_within low most (flat_map (λ (r : ℤ × ℤ). flat_map (clipped r) (map line_of ls)) set) ≡ true
    images_within = ranges_within set (map line_of ls) (λ x m. (each_once x m).maps)
