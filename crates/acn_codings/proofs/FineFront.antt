-- The lines at the front of a table that are one to one have no fault, and what they give is the unions of what each gives.
use Rattle.std.proofs.Common.{◌≡◌, Bool, true, false, not, ℤ, pos, ◌≤ℤ◌, ◌+ℤ◌, ◌-ℤ◌, List, [], ◌∷◌, ◌++◌, Some, None, refl, sym, ap, ◌∙◌, arith}
use Rattle.std.specs.Prelude.{◌&&◌, ◌||◌, int_le, map, option_map, if◌then◌else◌}
use Rattle.std.specs.List.{list_all, list_any}
use Rattle.std.proofs.lemmas.Bool.{and_parts, and_from, or_parts, not-true, false_from_ne_true, true≢false}
use Rattle.std.proofs.lemmas.Int.{ints}
use Rattle.acn_num.specs.Ranges.{Ranges, AreRanges, bottom, top, has, some_range, meet, union, outside, least}
use Rattle.acn_num.specs.Unions.{unions}
use Rattle.acn_num.proofs.Members.{has_meet}
use Rattle.acn_num.proofs.Order.{has_union, meet_above, outside_above, same_set}
use Rattle.acn_grammar.specs.Leaves.{all_differ, is_number, line_fine, share}
use Rattle.acn_grammar.proofs.WholeTests.{le_fact, le_test}
use Rattle.acn_codings.specs.Tables.{Line, keys, images, last_image, lesser, taken, line_fault, or_else, fault_behind}
use Rattle.acn_codings.proofs.Apart.{low, high}

-- Sets.

pub union_ranges : (a b : Ranges) → AreRanges a → AreRanges b → AreRanges (union a b)
unfolding union outside
union_ranges a b h k = outside_above (bottom -ℤ pos 1) _ (meet_above (bottom -ℤ pos 1) (bottom -ℤ pos 1) _ _ (outside_above (bottom -ℤ pos 1) a h) (outside_above (bottom -ℤ pos 1) b k))

pub union_has : (a b : Ranges) (x : ℤ) → AreRanges a → AreRanges b → has (union a b) x ≡ (has a x || has b x)
unfolding union
union_has a b x h k = has_union a b x h k

-- they have no number in common
abbrev Free : Ranges → Ranges → Type 0
Free a b = (x : ℤ) → (has a x && has b x) ≡ false

free_meet : (a b : Ranges) → AreRanges a → AreRanges b → Free a b → meet a b ≡ []
free_meet a b h k f = same_set (bottom -ℤ pos 1) (meet a b) [] (meet_above (bottom -ℤ pos 1) (bottom -ℤ pos 1) a b h k) tt (λ x. has_meet a b x ∙ f x)

free_union : (a b c : Ranges) → AreRanges b → AreRanges c → Free a b → Free a c → Free a (union b c)
free_union a b c h k f g x = ap (λ t. has a x && t) (union_has b c x h k) ∙ neither (has a x) (has b x) (has c x) (f x) (g x)
  where
    neither : (p q r : Bool) → (p && q) ≡ false → (p && r) ≡ false → (p && (q || r)) ≡ false
    neither false q r f g = refl
    neither true false r f g = g
    neither true true r f g = f

-- Ranges.

pub range_ranges : (lo hi : ℤ) → bottom ≤ℤ lo → hi ≤ℤ top → AreRanges (some_range lo hi)
range_ranges lo hi l h = by (int_le lo hi) refl
  where
    by : (t : Bool) → int_le lo hi ≡ t → AreRanges (if t then (lo, hi) ∷ [] else [])
    by true e = (omega (arith, ints, l), le_fact lo hi e, h, tt)
    by false e = tt

in_both : (lo hi x : ℤ) (p q : Bool) → int_le lo x ≡ p → int_le x hi ≡ q → ((p && q) || false) ≡ true → (lo ≤ℤ x) × (x ≤ℤ hi)
in_both lo hi x true true e f h = (le_fact lo x e, le_fact x hi f)
in_both lo hi x true false e f h = absurd (true≢false (sym h))
in_both lo hi x false q e f h = absurd (true≢false (sym h))

pub in_range : (lo hi x : ℤ) → has (some_range lo hi) x ≡ true → (lo ≤ℤ x) × (x ≤ℤ hi)
in_range lo hi x = by (int_le lo hi)
  where
    by : (t : Bool) → has (if t then (lo, hi) ∷ [] else []) x ≡ true → (lo ≤ℤ x) × (x ≤ℤ hi)
    by true h = in_both lo hi x (int_le lo x) (int_le x hi) refl refl h
    by false h = absurd (true≢false (sym h))

free_ranges : (lo hi lo' hi' : ℤ) → (int_le lo hi' && int_le lo' hi) ≡ false → Free (some_range lo' hi') (some_range lo hi)
free_ranges lo hi lo' hi' h x = false_from_ne_true _ (λ t.
    let f = and_parts (has (some_range lo' hi') x) (has (some_range lo hi) x) t in
    let a = in_range lo' hi' x f.0 in
    let b = in_range lo hi x f.1 in
    let c = a.0 in let d = a.1 in let e = b.0 in let g = b.1 in
    true≢false (sym (and_from (int_le lo hi') (int_le lo' hi) (le_test lo hi' (omega (arith, ints, d, e))) (le_test lo' hi (omega (arith, ints, c, g)))) ∙ h))

-- Lines.

pub record LineRanges (l : Line) : Type 0 where
  pub of_keys : AreRanges (keys l)
  pub of_images : AreRanges (images l)

pub line_ranges : (l : Line) → line_fine l ≡ true → LineRanges l
line_ranges l h =
    let a = and_parts (int_le l.0 l.1) (is_number l.0 && (is_number l.1 && (is_number l.2 && is_number (last_image l)))) h in
    let b = and_parts (is_number l.0) (is_number l.1 && (is_number l.2 && is_number (last_image l))) a.1 in
    let c = and_parts (is_number l.1) (is_number l.2 && is_number (last_image l)) b.1 in
    let d = and_parts (is_number l.2) (is_number (last_image l)) c.1 in
    record {
      of_keys = range_ranges l.0 l.1 (let k = low l.0 b.0 in omega (arith, ints, k)) (let k = high l.1 c.0 in omega (arith, ints, k));
      of_images = range_ranges l.2 (last_image l) (let k = low l.2 d.0 in omega (arith, ints, k)) (let k = high (last_image l) d.1 in omega (arith, ints, k));
    }

-- no line has a key or an image of these
abbrev AllFree : (keys_before images_before : Ranges) → List Line → Type 0
AllFree keys_before images_before [] = Unit {0}
AllFree keys_before images_before (l ∷ ls) = Free (keys l) keys_before × Free (images l) images_before × AllFree keys_before images_before ls

still_free : (ks is : Ranges) (l : Line) (ls : List Line) → AreRanges ks → AreRanges is → line_fine l ≡ true → list_any (share l) ls ≡ false → AllFree ks is ls → AllFree (union ks (keys l)) (union is (images l)) ls
still_free ks is l [] h k fine none free = tt
still_free ks is l (m ∷ ms) h k fine none free =
    let n = or_parts (share l m) (list_any (share l) ms) none in
    let s = or_parts (int_le l.0 m.1 && int_le m.0 l.1) (int_le l.2 (last_image m) && int_le m.2 (last_image l)) n.0 in
    let r = line_ranges l fine in (
      free_union (keys m) ks (keys l) h r.of_keys free.0 (free_ranges l.0 l.1 m.0 m.1 s.0),
      free_union (images m) is (images l) k r.of_images free.1 (free_ranges l.2 (last_image l) m.2 (last_image m) s.1),
      still_free ks is l ms h k fine n.1 free.2,
    )

no_fault : (ks is : Ranges) (l : Line) → AreRanges ks → AreRanges is → line_fine l ≡ true → Free (keys l) ks → Free (images l) is → line_fault ks is l ≡ None
no_fault ks is l h k fine f g =
    let r = line_ranges l fine in
    ap (λ (t : Bool). if t then taken ks is l else Some l.0) fine
    ∙ (ap (λ (z : Ranges). lesser (least z) (option_map (λ x. l.0 +ℤ (x -ℤ l.2)) (least (meet (images l) is)))) (free_meet (keys l) ks r.of_keys h f)
    ∙ ap (λ (z : Ranges). option_map (λ x. l.0 +ℤ (x -ℤ l.2)) (least z)) (free_meet (images l) is r.of_images k g))

passed : (ks is : Ranges) (front behind : List Line) → AreRanges ks → AreRanges is → list_all line_fine front ≡ true → all_differ share front ≡ true → AllFree ks is front
    → fault_behind ks is (front ++ behind) ≡ fault_behind (unions ks (map keys front)) (unions is (map images front)) behind
passed ks is [] behind h k fine differ free = refl
passed ks is (l ∷ ls) behind h k fine differ free =
    let f = and_parts (line_fine l) (list_all line_fine ls) fine in
    let d = and_parts (not (list_any (share l) ls)) (all_differ share ls) differ in
    let r = line_ranges l f.0 in
    ap (λ o. or_else o (fault_behind (union ks (keys l)) (union is (images l)) (ls ++ behind))) (no_fault ks is l h k f.0 free.0 free.1)
    ∙ passed (union ks (keys l)) (union is (images l)) ls behind (union_ranges ks (keys l) h r.of_keys) (union_ranges is (images l) k r.of_images) f.1 d.1 (still_free ks is l ls h k f.0 (not-true _ d.0) free.2)

all_free : (ls : List Line) → AllFree [] [] ls
all_free [] = tt
all_free (l ∷ ls) = (λ x. nothing (has (keys l) x), λ x. nothing (has (images l) x), all_free ls)
  where
    nothing : (t : Bool) → (t && false) ≡ false
    nothing true = refl
    nothing false = refl

-- the first fault of lines whose front is one to one
pub front_passed : (lines front behind : List Line) → lines ≡ front ++ behind → (list_all line_fine front && all_differ share front) ≡ true
    → fault_behind (unions [] (map keys front)) (unions [] (map images front)) behind ≡ fault_behind [] [] lines
front_passed lines front behind e good =
    let g = and_parts (list_all line_fine front) (all_differ share front) good in
    sym (ap (fault_behind [] []) e ∙ passed [] [] front behind tt tt g.0 g.1 (all_free front))
