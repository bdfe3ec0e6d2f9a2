-- A table whose lines give each number of a set once gives the set as many images as it has numbers.
use Rattle.std.proofs.Common.{◌≡◌, ℕ, zero, suc, ◌+◌, Bool, true, false, ◌&&◌, List, [], ◌∷◌, refl, sym, ap, ◌∙◌, ℤ, pos, ◌+ℤ◌, arith}
use Rattle.std.specs.Prelude.{◌-ℤ◌, ◌≤ℤ◌, ◌<ℤ◌, int_le, nat_abs, if◌then◌else◌}
use Rattle.std.specs.Int.{int_max, int_min}
use Rattle.std.specs.List.{flat_map}
use Rattle.std.proofs.lemmas.Bool.{or_left, or_right, and_from}
use Rattle.std.proofs.lemmas.Int.{ints, clamps}
use Rattle.acn_num.specs.Ranges.{Ranges, Above, AreRanges, bottom, has, count, size_of}
use Rattle.acn_codings.specs.Tables.{Line}
use Rattle.acn_grammar.specs.Code.{on_line}
use Rattle.acn_grammar.specs.Images.{clipped}
use Rattle.acn_grammar.proofs.HasImage.{count-append}
use Rattle.acn_grammar.proofs.WholeTests.{le_test, gt_test, le_fact, gt_fact}

-- how many numbers lie from a to b
abbrev span : ℤ → ℤ → ℕ
span a b = if int_le a b then suc (nat_abs (b -ℤ a)) else 0

span_some : (a b : ℤ) → a ≤ℤ b → pos (span a b) ≡ (b -ℤ a) +ℤ pos 1
span_some a b h = rw (le_test a b h) (omega (arith, ints))

span_none : (a b : ℤ) → b <ℤ a → span a b ≡ 0
span_none a b h = rw (gt_test a b h) refl

abbrev pub weight : Bool → ℕ
weight true = 1
weight false = 0

-- how many lines have the key
abbrev pub hits : ℤ → List Line → ℕ
hits x [] = 0
hits x (l ∷ ls) = weight (on_line l x) + hits x ls

-- ---- one number more

inside : (a b l0 l1 : ℤ) → a ≤ℤ b → l0 ≤ℤ b → b ≤ℤ l1 → span (int_max a l0) (int_min b l1) ≡ span (int_max a l0) (int_min (b -ℤ pos 1) l1) + 1
inside a b l0 l1 ab low high =
    ap (span (int_max a l0)) (first_is b l1 high) ∙ (one_more (int_max a l0) b (greater a l0 b ab low) ∙ ap (λ (d : ℤ). span (int_max a l0) d + 1) (sym (first_is (b -ℤ pos 1) l1 (omega (arith, ints, high)))))
  where
    first_is : (x y : ℤ) → x ≤ℤ y → int_min x y ≡ x
    first_is x y h = omega (arith, ints, clamps, h)

    greater : (x y z : ℤ) → x ≤ℤ z → y ≤ℤ z → int_max x y ≤ℤ z
    greater x y z h k = omega (arith, ints, clamps, h, k)

    one_more : (c b : ℤ) → c ≤ℤ b → span c b ≡ span c (b -ℤ pos 1) + 1
    one_more c b h = by (int_le c (b -ℤ pos 1)) refl
      where
        by : (t : Bool) → int_le c (b -ℤ pos 1) ≡ t → span c b ≡ span c (b -ℤ pos 1) + 1
        by true e =
            let one = span_some c b h in
            let two = span_some c (b -ℤ pos 1) (le_fact c (b -ℤ pos 1) e) in
            omega (arith, ints, one, two)
        by false e =
            let one = span_some c b h in
            let two = span_none c (b -ℤ pos 1) (gt_fact c (b -ℤ pos 1) e) in
            let three = gt_fact c (b -ℤ pos 1) e in
            omega (arith, ints, h, one, two, three)

above_line : (a b l0 l1 : ℤ) → l1 <ℤ b → span (int_max a l0) (int_min b l1) ≡ span (int_max a l0) (int_min (b -ℤ pos 1) l1) + 0
above_line a b l0 l1 h = ap (span (int_max a l0)) (ends_same b l1 h) ∙ omega arith
  where
    ends_same : (b l1 : ℤ) → l1 <ℤ b → int_min b l1 ≡ int_min (b -ℤ pos 1) l1
    ends_same b l1 h = omega (arith, ints, clamps, h)

below_line : (a b l0 l1 : ℤ) → b <ℤ l0 → span (int_max a l0) (int_min b l1) ≡ span (int_max a l0) (int_min (b -ℤ pos 1) l1) + 0
below_line a b l0 l1 h =
    span_none (int_max a l0) (int_min b l1) (omega (arith, ints, clamps, h)) ∙ ap (λ (n : ℕ). n + 0) (sym (span_none (int_max a l0) (int_min (b -ℤ pos 1) l1) (omega (arith, ints, clamps, h))))

line_more : (a b : ℤ) (l : Line) → a ≤ℤ b → span (int_max a l.0) (int_min b l.1) ≡ span (int_max a l.0) (int_min (b -ℤ pos 1) l.1) + weight (on_line l b)
line_more a b l h = by (int_le l.0 b) (int_le b l.1) refl refl
  where
    by : (low high : Bool) → int_le l.0 b ≡ low → int_le b l.1 ≡ high → span (int_max a l.0) (int_min b l.1) ≡ span (int_max a l.0) (int_min (b -ℤ pos 1) l.1) + weight (low && high)
    by true true e f = inside a b l.0 l.1 h (le_fact l.0 b e) (le_fact b l.1 f)
    by true false e f = above_line a b l.0 l.1 (gt_fact b l.1 f)
    by false high e f = below_line a b l.0 l.1 (gt_fact l.0 b e)

-- ---- the images of a range

count_clipped : (r : ℤ × ℤ) (l : Line) → count (clipped r l) ≡ span (int_max r.0 l.0) (int_min r.1 l.1)
count_clipped r l = by (int_max r.0 l.0) (int_min r.1 l.1) l.2 l.0 (int_le (int_max r.0 l.0) (int_min r.1 l.1))
  where
    by : (low high z first : ℤ) (t : Bool) → count (if t then (z +ℤ (low -ℤ first), z +ℤ (high -ℤ first)) ∷ [] else []) ≡ (if t then suc (nat_abs (high -ℤ low)) else 0)
    by low high z first true = omega (arith, ints)
    by low high z first false = refl

abbrev images : ℤ → ℤ → List Line → ℕ
images a b ls = count (flat_map (clipped (a, b)) ls)

images_more : (a b : ℤ) (ls : List Line) → a ≤ℤ b → images a b ls ≡ images a (b -ℤ pos 1) ls + hits b ls
images_more a b [] h = refl
images_more a b (l ∷ ls) h =
    let one = count-append (clipped (a, b) l) (flat_map (clipped (a, b)) ls) in
    let two = count_clipped (a, b) l in
    let three = line_more a b l h in
    let four = count-append (clipped (a, b -ℤ pos 1) l) (flat_map (clipped (a, b -ℤ pos 1)) ls) in
    let five = count_clipped (a, b -ℤ pos 1) l in
    let six = images_more a b ls h in
    omega arith

no_images : (a b : ℤ) (ls : List Line) → b <ℤ a → images a b ls ≡ 0
no_images a b [] h = refl
no_images a b (l ∷ ls) h =
    let one = count-append (clipped (a, b) l) (flat_map (clipped (a, b)) ls) in
    let two = count_clipped (a, b) l in
    let three = span_none (int_max a l.0) (int_min b l.1) (omega (arith, ints, clamps, h)) in
    let four = no_images a b ls h in
    omega arith

-- the n numbers from a
all_images : (a : ℤ) (n : ℕ) (ls : List Line) → ((x : ℤ) → a ≤ℤ x → x <ℤ (a +ℤ pos n) → hits x ls ≡ 1) → images a ((a +ℤ pos n) -ℤ pos 1) ls ≡ n
all_images a zero ls f = no_images a ((a +ℤ pos 0) -ℤ pos 1) ls (omega (arith, ints))
all_images a (suc n) ls f =
    let b = (a +ℤ pos (suc n)) -ℤ pos 1 in
    let one = images_more a b ls (omega (arith, ints)) in
    let two = f b (omega (arith, ints)) (omega (arith, ints)) in
    let three = ap (λ (z : ℤ). images a z ls) (before a n) in
    let four = all_images a n ls (λ x low high. f x low (next a n x high)) in
    sum (images a b ls) (images a (b -ℤ pos 1) ls) (images a ((a +ℤ pos n) -ℤ pos 1) ls) (hits b ls) n one two three four
  where
    before : (a : ℤ) (n : ℕ) → ((a +ℤ pos (suc n)) -ℤ pos 1) -ℤ pos 1 ≡ (a +ℤ pos n) -ℤ pos 1
    before a n = omega (arith, ints)

    next : (a : ℤ) (n : ℕ) (x : ℤ) → x <ℤ (a +ℤ pos n) → x <ℤ (a +ℤ pos (suc n))
    next a n x h = omega (arith, ints, h)

    sum : (whole less same here n : ℕ) → whole ≡ less + here → here ≡ 1 → less ≡ same → same ≡ n → whole ≡ suc n
    sum whole less same here n a b c d = omega (arith, a, b, c, d)

range_images : (r : ℤ × ℤ) (ls : List Line) → r.0 ≤ℤ r.1 → ((x : ℤ) → r.0 ≤ℤ x → x ≤ℤ r.1 → hits x ls ≡ 1) → count (flat_map (clipped r) ls) ≡ size_of r
range_images r ls h f =
    ap (λ (z : ℤ). images r.0 z ls) (high_is r.0 r.1 h) ∙ all_images r.0 (size_of r) ls (λ x low high. f x low (within r.0 r.1 x h high))
  where
    high_is : (a b : ℤ) → a ≤ℤ b → b ≡ (a +ℤ pos (suc (nat_abs (b -ℤ a)))) -ℤ pos 1
    high_is a b h = omega (arith, ints, h)

    within : (a b x : ℤ) → a ≤ℤ b → x <ℤ (a +ℤ pos (suc (nat_abs (b -ℤ a)))) → x ≤ℤ b
    within a b x h k = omega (arith, ints, h, k)

images_above : (b : ℤ) (rs : Ranges) (ls : List Line) → Above b rs → ((x : ℤ) → has rs x ≡ true → hits x ls ≡ 1) → count (flat_map (λ r. flat_map (clipped r) ls) rs) ≡ count rs
images_above b [] ls h f = refl
images_above b (r ∷ rs) ls h f =
    let one = count-append (flat_map (clipped r) ls) (flat_map (λ z. flat_map (clipped z) ls) rs) in
    let two = range_images r ls h.1 (λ x low high. f x (or_left (int_le r.0 x && int_le x r.1) (has rs x) (and_from (int_le r.0 x) (int_le x r.1) (le_test r.0 x low) (le_test x r.1 high)))) in
    let three = images_above (r.1 +ℤ pos 1) rs ls h.3 (λ x m. f x (or_right (int_le r.0 x && int_le x r.1) (has rs x) m)) in
    omega arith

pub as_many : (rs : Ranges) (ls : List Line) → AreRanges rs → ((x : ℤ) → has rs x ≡ true → hits x ls ≡ 1) → count (flat_map (λ r. flat_map (clipped r) ls) rs) ≡ count rs
as_many rs ls h f = images_above (bottom -ℤ pos 1) rs ls h f
