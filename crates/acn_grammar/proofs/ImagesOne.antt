-- The image of a permitted number tells it.
use Rattle.std.proofs.Common.{◌≡◌, ℕ, zero, suc, ℤ, pos, negsuc, ◌+ℤ◌, Bool, true, false, not, List, [], ◌∷◌, Option, Some, refl, sym, ap, ◌∙◌, arith, ◌&&◌}
use Rattle.std.specs.Prelude.{◌-ℤ◌, ◌≤ℤ◌, int_le, slice_get, option_map, if◌then◌else◌}
use Rattle.std.specs.List.{list_any}
use Rattle.std.specs.Ordering.{int_eq}
use Rattle.std.proofs.lemmas.Int.{ints}
use Rattle.std.proofs.lemmas.Bool.Decides.{nat_tests}
use Rattle.acn_grammar.specs.Code.{on_line, image_in, item_number}
use Rattle.acn_grammar.specs.Leaves.{all_differ, share}
use Rattle.std.proofs.lemmas.Bool.{or_parts, and_parts, not-true}
use Rattle.acn_grammar.proofs.WholeTests.{le_test, eq_self}

-- a key of a line
on : (line : ℤ × ℤ × ℤ) (x : ℤ) → on_line line x ≡ true → (line.0 ≤ℤ x) × (x ≤ℤ line.1)
on line x h = (grind (arith, ints, nat_tests), grind (arith, ints, nat_tests))

-- where two lines share no image, no keys of the two have one image
apart : (a b : ℤ × ℤ × ℤ) (x z : ℤ) → share a b ≡ false → on_line a x ≡ true → on_line b z ≡ true → a.2 +ℤ (x -ℤ a.0) ≡ b.2 +ℤ (z -ℤ b.0) → ⊥
apart a b x z h p q e =
    let m = on a x p in
    let n = on b z q in
    let one : a.2 ≤ℤ (b.2 +ℤ (b.1 -ℤ b.0)) = omega (arith, ints) in
    let two : b.2 ≤ℤ (a.2 +ℤ (a.1 -ℤ a.0)) = omega (arith, ints) in
    let f = (or_parts (int_le a.0 b.1 && int_le b.0 a.1) (int_le a.2 (b.2 +ℤ (b.1 -ℤ b.0)) && int_le b.2 (a.2 +ℤ (a.1 -ℤ a.0))) h).1 in
    let s = le_test a.2 (b.2 +ℤ (b.1 -ℤ b.0)) one in
    let t = le_test b.2 (a.2 +ℤ (a.1 -ℤ a.0)) two in
    let u : (int_le a.2 (b.2 +ℤ (b.1 -ℤ b.0)) && int_le b.2 (a.2 +ℤ (a.1 -ℤ a.0))) ≡ true = rw (s, t) in
    cc

by_line : {F : Type 0} (t : Bool) (v y : ℤ) (rest : Option ℤ) → (if t then Some v else rest) ≡ Some y → (t ≡ true → v ≡ y → F) → (rest ≡ Some y → F) → F
by_line true v y rest q f g = f refl cc
by_line false v y rest q f g = g q

abbrev image_on : (ℤ × ℤ × ℤ) → ℤ → ℤ
image_on line x = line.2 +ℤ (x -ℤ line.0)

apart_all : (a : ℤ × ℤ × ℤ) (lines : List (ℤ × ℤ × ℤ)) (x z y : ℤ) → list_any (share a) lines ≡ false → on_line a x ≡ true → image_in lines z ≡ Some y → image_on a x ≡ y → ⊥
apart_all a [] x z y h p q e = cc
apart_all a (b ∷ lines) x z y h p q e =
    let f = or_parts (share a b) (list_any (share a) lines) h in
    by_line {F = ⊥} (on_line b z) (image_on b z) y (image_in lines z) q (λ o v. apart a b x z f.0 p o (e ∙ sym v)) (λ r. apart_all a lines x z y f.1 p r e)

same_on : (a : ℤ × ℤ × ℤ) (x z y : ℤ) → image_on a x ≡ y → image_on a z ≡ y → x ≡ z
same_on a x z y p q = omega (arith, ints)

pub lines_one : (lines : List (ℤ × ℤ × ℤ)) (x z y : ℤ) → all_differ share lines ≡ true → image_in lines x ≡ Some y → image_in lines z ≡ Some y → x ≡ z
lines_one [] x z y h p q = cc
lines_one (a ∷ lines) x z y h p q =
    let f = and_parts (not (list_any (share a) lines)) (all_differ share lines) h in
    let alone = not-true (list_any (share a) lines) f.0 in
    by_line {F = x ≡ z} (on_line a x) (image_on a x) y (image_in lines x) p
    (λ o v. by_line {F = x ≡ z} (on_line a z) (image_on a z) y (image_in lines z) q (λ o' v'. same_on a x z y v v') (λ r. absurd (apart_all a lines x z y alone o r v)))
    (λ r. by_line {F = x ≡ z} (on_line a z) (image_on a z) y (image_in lines z) q (λ o v. absurd (apart_all a lines z x y alone o r v)) (λ r'. lines_one lines x z y f.1 r r'))

-- Items.

abbrev pub same_item : (List ℕ × ℤ) → (List ℕ × ℤ) → Bool
same_item a b = int_eq a.1 b.1

no_other : (a : List ℕ × ℤ) (items : List (List ℕ × ℤ)) (i : ℕ) → list_any (same_item a) items ≡ false → option_map (λ named. named.1) (slice_get items i) ≡ Some a.1 → ⊥
no_other a [] i h e = cc
no_other a (b ∷ items) zero h e =
    let f = (or_parts (int_eq a.1 b.1) (list_any (same_item a) items) h).0 in
    let is : b.1 ≡ a.1 = cc in
    let t : int_eq a.1 b.1 ≡ true = rw is (eq_self a.1) in
    cc
no_other a (b ∷ items) (suc i) h e = no_other a items i (or_parts (int_eq a.1 b.1) (list_any (same_item a) items) h).1 e

items_one : (items : List (List ℕ × ℤ)) (i j : ℕ) (y : ℤ) → all_differ same_item items ≡ true → option_map (λ named. named.1) (slice_get items i) ≡ Some y → option_map (λ named. named.1) (slice_get items j) ≡ Some y → i ≡ j
items_one [] i j y h p q = cc
items_one (a ∷ items) zero zero y h p q = refl
items_one (a ∷ items) zero (suc j) y h p q =
    let f = and_parts (not (list_any (same_item a) items)) (all_differ same_item items) h in
    absurd (no_other a items j (not-true (list_any (same_item a) items) f.0) (q ∙ sym p))
items_one (a ∷ items) (suc i) zero y h p q =
    let f = and_parts (not (list_any (same_item a) items)) (all_differ same_item items) h in
    absurd (no_other a items i (not-true (list_any (same_item a) items) f.0) (p ∙ sym q))
items_one (a ∷ items) (suc i) (suc j) y h p q =
    let f = and_parts (not (list_any (same_item a) items)) (all_differ same_item items) h in
    ap suc (items_one items i j y f.1 p q)

pub item_numbers_one : (items : List (List ℕ × ℤ)) (x z y : ℤ) → all_differ same_item items ≡ true → item_number items x ≡ Some y → item_number items z ≡ Some y → x ≡ z
item_numbers_one items (pos i) (pos j) y h p q = ap (λ n. pos n) (items_one items i j y h p q)
item_numbers_one items (pos i) (negsuc j) y h p q = cc
item_numbers_one items (negsuc i) z y h p q = cc
