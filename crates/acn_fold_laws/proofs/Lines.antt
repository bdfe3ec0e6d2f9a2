-- The keys and the images of lines, and those that lines in front have taken.
use Rattle.std.proofs.Common.{◌≡◌, Bool, true, false, ◌&&◌, ◌||◌, refl, sym, ap, ◌∙◌, ℤ, pos, [], ◌∷◌, List, map, arith}
use Rattle.std.specs.Prelude.{◌≤ℤ◌, ◌+ℤ◌, ◌-ℤ◌, int_le, if◌then◌else◌, option_map}
use Rattle.std.specs.Int.{int_max, int_min}
use Rattle.std.specs.List.{list_any}
use Rattle.std.proofs.lemmas.Bool.{and_parts}
use Rattle.std.proofs.lemmas.Int.{ints, clamps}
use Rattle.acn_num.specs.Ranges.{Ranges, has, AreRanges, some_range, meet, least, bottom, top, union}
use Rattle.acn_num.specs.Unions.{unions}
use Rattle.acn_num.proofs.Members.{has_meet, has_piece, and_or, or_assoc, true_le, le_true}
use Rattle.acn_num.proofs.Order.{meet_above}
use Rattle.acn_grammar.specs.Leaves.{line_fine, is_number}
use Rattle.acn_codings.proofs.Apart.{high, first_or_above}
use Rattle.acn_codings.proofs.FineFront.{range_ranges, line_ranges, union_ranges, union_has}
use Rattle.acn_codings.specs.Tables.{Line, last_image, keys, images, taken, keys_between, line_keys}
use Rattle.acn_fold_laws.specs.Ends.{IsLeast}
use Rattle.acn_fold_laws.specs.Tables.{has_key, has_image, image_of, maps_between}
use Rattle.acn_fold_laws.proofs.Ends.{least_same, least_or, least_moved}
use Rattle.acn_fold_laws.proofs.Sets.{least_in}

has_range : (low high x : ℤ) → has (some_range low high) x ≡ (int_le low x && int_le x high)
has_range low high x = grind (arith, ints)

pub key_in : (l : Line) (x : ℤ) → has (keys l) x ≡ has_key x l
key_in l x = has_range l.0 l.1 x

pub image_in : (l : Line) (y : ℤ) → has (images l) y ≡ has_image y l
image_in l y = has_range l.2 (last_image l) y

same_order : (a b c d : ℤ) → (a ≤ℤ b → c ≤ℤ d) → (c ≤ℤ d → a ≤ℤ b) → int_le a b ≡ int_le c d
same_order a b c d p q = by (int_le a b) (int_le c d) refl refl
  where
    by : (t u : Bool) → int_le a b ≡ t → int_le c d ≡ u → t ≡ u
    by true true e f = refl
    by true false e f = sym (le_true c d (p (true_le a b e))) ∙ f
    by false true e f = sym e ∙ le_true a b (q (true_le c d f))
    by false false e f = refl

moved_first : (a b x : ℤ) → int_le b (b +ℤ (x -ℤ a)) ≡ int_le a x
moved_first a b x = same_order b (b +ℤ (x -ℤ a)) a x (λ h. omega (arith, ints, h)) (λ h. omega (arith, ints, h))

moved_last : (a b x y : ℤ) → int_le (b +ℤ (x -ℤ a)) (b +ℤ (y -ℤ a)) ≡ int_le x y
moved_last a b x y = same_order (b +ℤ (x -ℤ a)) (b +ℤ (y -ℤ a)) x y (λ h. omega (arith, ints, h)) (λ h. omega (arith, ints, h))

-- a key of a line has an image of it
image_key : (l : Line) (x : ℤ) → has_image (image_of l x) l ≡ has_key x l
image_key l x = ap (λ t. t && int_le (image_of l x) (last_image l)) (moved_first l.0 l.2 x) ∙ ap (λ t. int_le l.0 x && t) (moved_last l.0 l.2 x l.1)

-- ---- keys that are taken

module _ (ks is : Ranges) (l : Line) (h : AreRanges ks) (k : AreRanges is) (fine : line_fine l ≡ true) where
  pub least_key : IsLeast (λ x. has_key x l && has ks x) (least (meet (keys l) ks))
  least_key =
      least_same (has (meet (keys l) ks)) (λ x. has_key x l && has ks x) (least (meet (keys l) ks)) (λ x. has_meet (keys l) ks x ∙ ap (λ t. t && has ks x) (key_in l x))
      (least_in (bottom -ℤ pos 1) (meet (keys l) ks) (meet_above (bottom -ℤ pos 1) (bottom -ℤ pos 1) (keys l) ks (line_ranges l fine).of_keys h))

  pub least_image : IsLeast (λ y. has_image y l && has is y) (least (meet (images l) is))
  least_image =
      least_same (has (meet (images l) is)) (λ y. has_image y l && has is y) (least (meet (images l) is)) (λ y. has_meet (images l) is y ∙ ap (λ t. t && has is y) (image_in l y))
      (least_in (bottom -ℤ pos 1) (meet (images l) is) (meet_above (bottom -ℤ pos 1) (bottom -ℤ pos 1) (images l) is (line_ranges l fine).of_images k))

  pub least_taken : IsLeast (λ x. has_key x l && (has ks x || has is (image_of l x))) (taken ks is l)
  least_taken =
      least_same (λ x. (has_key x l && has ks x) || (has_image (image_of l x) l && has is (image_of l x))) (λ x. has_key x l && (has ks x || has is (image_of l x))) (taken ks is l)
      (λ x. ap (λ t. (has_key x l && has ks x) || (t && has is (image_of l x))) (image_key l x) ∙ and_or (has_key x l) (has ks x) (has is (image_of l x)))
      (least_or (λ x. has_key x l && has ks x) (λ x. has_image (image_of l x) l && has is (image_of l x)) (least (meet (keys l) ks)) (option_map (λ x. l.0 +ℤ (x -ℤ l.2)) (least (meet (images l) is)))
      least_key (least_moved (λ y. has_image y l && has is y) l.0 l.2 (least (meet (images l) is)) least_image))

-- ---- keys whose images can be written

or_none : (t : Bool) → t ≡ (t || false)
or_none true = refl
or_none false = refl

moved_low : (a b x low : ℤ) → int_le (a +ℤ (low -ℤ b)) x ≡ int_le low (b +ℤ (x -ℤ a))
moved_low a b x low = same_order (a +ℤ (low -ℤ b)) x low (b +ℤ (x -ℤ a)) (λ h. omega (arith, ints, h)) (λ h. omega (arith, ints, h))

moved_high : (a b x high : ℤ) → int_le x (a +ℤ (high -ℤ b)) ≡ int_le (b +ℤ (x -ℤ a)) high
moved_high a b x high = same_order x (a +ℤ (high -ℤ b)) (b +ℤ (x -ℤ a)) high (λ h. omega (arith, ints, h)) (λ h. omega (arith, ints, h))

least_end : (a b high : ℤ) → a ≤ℤ high → int_min a b ≤ℤ high
least_end a b high h = omega (arith, ints, clamps, h)

word_top : (x : ℤ) → x ≤ℤ pos 18446744073709551615 → x ≤ℤ top
word_top x h = omega (arith, ints, h)

module _ (low most : ℤ) where
  written_ranges : (l : Line) → AreRanges (line_keys low most l)
  written_ranges l = by (line_fine l) refl
    where
      by : (t : Bool) → line_fine l ≡ t → AreRanges (if t then keys_between low most l else [])
      by true e =
          let a = and_parts (int_le l.0 l.1) (is_number l.0 && (is_number l.1 && (is_number l.2 && is_number (last_image l)))) e in
          let b = and_parts (is_number l.0) (is_number l.1 && (is_number l.2 && is_number (last_image l))) a.1 in
          let c = and_parts (is_number l.1) (is_number l.2 && is_number (last_image l)) b.1 in
          range_ranges (int_max l.0 (l.0 +ℤ (low -ℤ l.2))) (int_min l.1 (l.0 +ℤ (most -ℤ l.2))) (first_or_above l (l.0 +ℤ (low -ℤ l.2)) (int_max l.0 (l.0 +ℤ (low -ℤ l.2))) e refl) (least_end l.1 (l.0 +ℤ (most -ℤ l.2)) top (word_top l.1 (high l.1 c.0)))
      by false e = tt

  written_key : (l : Line) (x : ℤ) → has (line_keys low most l) x ≡ maps_between low most x l
  written_key l x = by (line_fine l)
    where
      by : (t : Bool) → has (if t then keys_between low most l else []) x ≡ (t && (has_key x l && (int_le low (image_of l x) && int_le (image_of l x) most)))
      by true =
          has_piece (l.0, l.1) (l.0 +ℤ (low -ℤ l.2), l.0 +ℤ (most -ℤ l.2)) x
          ∙ (ap (λ t. has_key x l && (t && int_le x (l.0 +ℤ (most -ℤ l.2)))) (moved_low l.0 l.2 x low) ∙ ap (λ t. has_key x l && (int_le low (image_of l x) && t)) (moved_high l.0 l.2 x most))
      by false = refl

  pub written_keys : {M : Type 0} (line : M → Line) (a : Ranges) (ls : List M) (x : ℤ) → AreRanges a → has (unions a (map (λ m. line_keys low most (line m)) ls)) x ≡ (has a x || list_any (maps_between low most x) (map line ls))
  written_keys line a [] x h = or_none (has a x)
  written_keys line a (m ∷ ls) x h =
      let r = written_ranges (line m) in
      written_keys line (union a (line_keys low most (line m))) ls x (union_ranges a (line_keys low most (line m)) h r)
      ∙ (ap (λ t. t || list_any (maps_between low most x) (map line ls)) (union_has a (line_keys low most (line m)) x h r ∙ ap (λ t. has a x || t) (written_key (line m) x))
      ∙ or_assoc (has a x) (maps_between low most x (line m)) (list_any (maps_between low most x) (map line ls)))
