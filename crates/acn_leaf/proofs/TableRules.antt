-- Lines of tables one by one.
use Rattle.std.proofs.Common.{◌≡◌, ℕ, zero, suc, ◌+◌, ◌-◌, ◌^◌, ◌<◌, ◌≤◌, ℤ, pos, Bool, true, false, List, [], ◌∷◌, ◌++◌, length, get_or, take, drop, Option, Some, None, nat_eq, ◌&&◌, refl, sym, ap, ◌∙◌, arith}
use Rattle.std.specs.Prelude.{int_le, int_lt, neg_ℤ, ◌+ℤ◌, ◌-ℤ◌, ◌≤ℤ◌, ◌<ℤ◌, nat_abs, SomeIff}
use Rattle.std.specs.Int.{int_max, int_min}
use Rattle.std.specs.List.{list_all, flat_map}
use Rattle.std.proofs.lemmas.Bool.Decides.{nat_tests}
use Rattle.std.proofs.lemmas.Int.{ints, clamps}
use Rattle.std.proofs.lemmas.List.{drop_more}
use Rattle.acn_num.specs.Ranges.{count, distance}
use Rattle.acn_leaf.specs.Ends.{ends_behind}
use Rattle.acn_grammar.specs.Images.{ends, ends_from, clipped}
use Rattle.acn_grammar.specs.Leaves.{line_fine, is_number}
use Rattle.acn_leaf.specs.Taken.{left_of}
use Rattle.std.proofs.lemmas.Bool.{and_parts}
use Rattle.acn_grammar.proofs.WholeTests.{le_fact, lt_fact, le_test, lt_test, gt_test}
use Rattle.acn_grammar.proofs.HasImage.{count-append}

-- Numbers of a line.

abbrev Line : Type 0
Line = ℤ × ℤ × ℤ

pub record LineFacts (line : ℤ × ℤ × ℤ) : Type 0 where
  pub order : line.0 ≤ℤ line.1
  pub low : neg_ℤ (pos (2 ^ 63)) ≤ℤ line.0
  pub high : line.1 <ℤ pos (2 ^ 64)
  pub image_low : neg_ℤ (pos (2 ^ 63)) ≤ℤ line.2
  pub image_high : line.2 <ℤ pos (2 ^ 64)

pub number_low : (x : ℤ) → is_number x ≡ true → neg_ℤ (pos (2 ^ 63)) ≤ℤ x
number_low x h = le_fact _ x (and_parts (int_le (neg_ℤ (pos (2 ^ 63))) x) (int_lt x (pos (2 ^ 64))) h).0

pub number_high : (x : ℤ) → is_number x ≡ true → x <ℤ pos (2 ^ 64)
number_high x h = lt_fact x _ (and_parts (int_le (neg_ℤ (pos (2 ^ 63))) x) (int_lt x (pos (2 ^ 64))) h).1

pub line_facts : (line : ℤ × ℤ × ℤ) → line_fine line ≡ true → LineFacts line
line_facts line h =
    let a = and_parts (int_le line.0 line.1) (is_number line.0 && (is_number line.1 && (is_number line.2 && is_number (line.2 +ℤ (line.1 -ℤ line.0))))) h in
    let b = and_parts (is_number line.0) (is_number line.1 && (is_number line.2 && is_number (line.2 +ℤ (line.1 -ℤ line.0)))) a.1 in
    let c = and_parts (is_number line.1) (is_number line.2 && is_number (line.2 +ℤ (line.1 -ℤ line.0))) b.1 in
    let d = and_parts (is_number line.2) (is_number (line.2 +ℤ (line.1 -ℤ line.0))) c.1 in
    record { order = le_fact line.0 line.1 a.0; low = number_low line.0 b.0; high = number_high line.1 c.0; image_low = number_low line.2 d.0; image_high = number_high line.2 d.0 }

pub is_number_from : (x : ℤ) → neg_ℤ (pos (2 ^ 63)) ≤ℤ x → x <ℤ pos (2 ^ 64) → is_number x ≡ true
is_number_from x low high = rw (le_test (neg_ℤ (pos (2 ^ 63))) x low, lt_test x (pos (2 ^ 64)) high) refl

pub key_is_number : (line : ℤ × ℤ × ℤ) (key : ℤ) → line_fine line ≡ true → line.0 ≤ℤ key → key ≤ℤ line.1 → is_number key ≡ true
key_is_number line key h low high = (let f = line_facts line h in is_number_from key (omega (arith, ints)) (omega (arith, ints)))

pub four_and : (a b c d e r : Bool) → a ≡ true → b ≡ true → c ≡ true → d ≡ true → r ≡ e → r ≡ (a && (b && (c && (d && e))))
four_and a b c d e r p q s t h = rw (p, q, s, t) h

pub max_above : (a b : ℤ) → b ≤ℤ int_max a b
max_above a b = omega (arith, ints, clamps)

pub min_below : (a b : ℤ) → int_min a b ≤ℤ b
min_below a b = omega (arith, ints, clamps)

pub near_numbers : (low high : ℤ) → neg_ℤ (pos (2 ^ 63)) ≤ℤ low → high <ℤ pos (2 ^ 64) → low ≤ℤ high → distance low high < 2 ^ 66
near_numbers low high a b c = omega (arith, ints)

-- the same distance between images
pub same_distance : (l low high first : ℤ) → distance (l +ℤ (low -ℤ first)) (l +ℤ (high -ℤ first)) ≡ distance low high
same_distance l low high first =
    let e : (l +ℤ (high -ℤ first)) -ℤ (l +ℤ (low -ℤ first)) ≡ high -ℤ low = omega (arith, ints) in
    ap nat_abs e

pub clipped_some : (r : ℤ × ℤ) (line : ℤ × ℤ × ℤ) → int_max r.0 line.0 ≤ℤ int_min r.1 line.1 → clipped r line ≡ (line.2 +ℤ (int_max r.0 line.0 -ℤ line.0), line.2 +ℤ (int_min r.1 line.1 -ℤ line.0)) ∷ []
clipped_some r line h = rw (le_test (int_max r.0 line.0) (int_min r.1 line.1) h) refl

pub clipped_none : (r : ℤ × ℤ) (line : ℤ × ℤ × ℤ) → int_min r.1 line.1 <ℤ int_max r.0 line.0 → clipped r line ≡ []
clipped_none r line h = rw (gt_test (int_max r.0 line.0) (int_min r.1 line.1) h) refl

pub count_one : (r : ℤ × ℤ) (line : ℤ × ℤ × ℤ) → int_max r.0 line.0 ≤ℤ int_min r.1 line.1 → count (clipped r line) ≡ distance (int_max r.0 line.0) (int_min r.1 line.1) + 1
count_one r line h = rw (clipped_some r line h) (let k = same_distance line.2 (int_max r.0 line.0) (int_min r.1 line.1) line.0 in omega arith)

-- Counts taken one after the other.

abbrev pub then_left : Option ℕ → ℕ → Option ℕ
then_left None n = None
then_left (Some rest) n = left_of rest n

left_of-add : (whole a b : ℕ) → left_of whole (a + b) ≡ then_left (left_of whole a) b
left_of-add whole a b = grind (arith, nat_tests)

pub left_turn : {A : Type 0} (f : A → List (ℤ × ℤ)) (whole : ℕ) (xs : List A) (i : ℕ) (d : A) → i < length xs
    → left_of whole (count (flat_map f (drop i xs))) ≡ then_left (left_of whole (count (f (get_or xs i d)))) (count (flat_map f (drop (i + 1) xs)))
left_turn f whole xs i d h = rw (drop_more xs i d h) (ap (left_of whole) (count-append (f (get_or xs i d)) (flat_map f (drop (i + 1) xs))) ∙ left_of-add whole _ _)

-- Ends range by range.

ends_from-append : (e : ℤ × ℤ) (xs ys : List (ℤ × ℤ)) → ends_from e (xs ++ ys) ≡ ends_from (ends_from e xs) ys
ends_from-append e [] ys = refl
ends_from-append e (x ∷ xs) ys = ends_from-append (int_min e.0 x.0, int_max e.1 x.1) xs ys

ends_behind-append : (acc : Option (ℤ × ℤ)) (xs ys : List (ℤ × ℤ)) → ends_behind acc (xs ++ ys) ≡ ends_behind (ends_behind acc xs) ys
ends_behind-append None [] ys = refl
ends_behind-append None (x ∷ xs) ys = ap Some (ends_from-append x xs ys)
ends_behind-append (Some e) xs ys = ap Some (ends_from-append e xs ys)

pub ends_turn : {A : Type 0} (f : A → List (ℤ × ℤ)) (acc : Option (ℤ × ℤ)) (xs : List A) (i : ℕ) (d : A) → i < length xs
    → ends_behind acc (flat_map f (drop i xs)) ≡ ends_behind (ends_behind acc (f (get_or xs i d))) (flat_map f (drop (i + 1) xs))
ends_turn f acc xs i d h = rw (drop_more xs i d h) (ends_behind-append acc (f (get_or xs i d)) (flat_map f (drop (i + 1) xs)))

pub ends_step : (acc : Option (ℤ × ℤ)) (xs : List (ℤ × ℤ)) (i : ℕ) (d : ℤ × ℤ) → i < length xs → ends_behind acc (drop i xs) ≡ ends_behind (ends_behind acc (get_or xs i d ∷ [])) (drop (i + 1) xs)
ends_step acc xs i d h = rw (drop_more xs i d h) (ends_behind-append acc (get_or xs i d ∷ []) (drop (i + 1) xs))

pub ends_first : (rs : List (ℤ × ℤ)) → ends_behind None rs ≡ ends rs
ends_first [] = refl
ends_first (r ∷ rs) = refl

pub ends_last : (acc : Option (ℤ × ℤ)) → ends_behind acc [] ≡ acc
ends_last None = refl
ends_last (Some e) = refl

-- Tests of all elements.

pub all_drop : {A : Type 0} (p : A → Bool) (xs : List A) (i : ℕ) → list_all p xs ≡ true → list_all p (drop i xs) ≡ true
all_drop p xs zero h = h
all_drop p [] (suc i) h = refl
all_drop p (x ∷ xs) (suc i) h = all_drop p xs i (and_parts (p x) (list_all p xs) h).1

pub all_take : {A : Type 0} (p : A → Bool) (n : ℕ) (xs : List A) → list_all p xs ≡ true → list_all p (take n xs) ≡ true
all_take p zero xs h = refl
all_take p (suc n) [] h = refl
all_take p (suc n) (x ∷ xs) h = (let b = and_parts (p x) (list_all p xs) h in rw (b.0, all_take p n xs b.1) refl)

pub small_distance : (r : ℤ × ℤ) (line : ℤ × ℤ × ℤ) → line_fine line ≡ true → int_max r.0 line.0 ≤ℤ int_min r.1 line.1 → distance (int_max r.0 line.0) (int_min r.1 line.1) < 2 ^ 66
small_distance r line h some =
    let f = line_facts line h in
    let a : line.0 ≤ℤ int_max r.0 line.0 = max_above r.0 line.0 in
    let b : int_min r.1 line.1 ≤ℤ line.1 = min_below r.1 line.1 in
    near_numbers (int_max r.0 line.0) (int_min r.1 line.1) (omega (arith, ints)) (omega (arith, ints)) some

pub checked_left : (r : Option ℕ) (whole n : ℕ) → SomeIff r (n ≤ whole) (whole - n) → r ≡ left_of whole n
checked_left r whole n h = grind (arith, nat_tests)

pub left_none : (whole : ℕ) → Some whole ≡ left_of whole 0
left_none whole = grind (arith, nat_tests)

pub none_left : (whole n : ℕ) → None ≡ left_of whole n → false ≡ nat_eq n whole
none_left whole n h = grind (arith, nat_tests)

pub turned_some : {A : Type 0} (f : A → List (ℤ × ℤ)) (whole : ℕ) (xs : List A) (i : ℕ) (d : A) (less : ℕ) (goal : Option ℕ) → i < length xs → Some less ≡ left_of whole (count (f (get_or xs i d)))
    → left_of whole (count (flat_map f (drop i xs))) ≡ goal → left_of less (count (flat_map f (drop (i + 1) xs))) ≡ goal
turned_some f whole xs i d less goal h step same =
    ap (λ (o : Option ℕ). then_left o (count (flat_map f (drop (i + 1) xs)))) step ∙ (sym (left_turn f whole xs i d h) ∙ same)

pub turned_none : {A : Type 0} (f : A → List (ℤ × ℤ)) (whole : ℕ) (xs : List A) (i : ℕ) (d : A) (goal : Option ℕ) → i < length xs → None ≡ left_of whole (count (f (get_or xs i d)))
    → left_of whole (count (flat_map f (drop i xs))) ≡ goal → None ≡ goal
turned_none f whole xs i d goal h step same =
    ap (λ (o : Option ℕ). then_left o (count (flat_map f (drop (i + 1) xs)))) step ∙ (sym (left_turn f whole xs i d h) ∙ same)

-- What a line clips of a range.

pub line_left : (r : ℤ × ℤ) (line : ℤ × ℤ × ℤ) (low high : ℤ) → line_fine line ≡ true → low ≡ int_max r.0 line.0 → high ≡ int_min r.1 line.1 → int_le low high ≡ true
    → (distance low high < 2 ^ 66) × (count (clipped r line) ≡ distance low high + 1)
line_left r line low high fine e f h =
    let k : int_le (int_max r.0 line.0) (int_min r.1 line.1) ≡ true = rw (← e, ← f) h in
    let some = le_fact (int_max r.0 line.0) (int_min r.1 line.1) k in
    rw (e, f) (small_distance r line fine some, count_one r line some)

pub line_image : (r : ℤ × ℤ) (line : ℤ × ℤ × ℤ) (low high : ℤ) → low ≡ int_max r.0 line.0 → high ≡ int_min r.1 line.1 → int_le low high ≡ true
    → (clipped r line ≡ (line.2 +ℤ (low -ℤ line.0), line.2 +ℤ (high -ℤ line.0)) ∷ []) × (line.0 ≤ℤ low) × (low ≤ℤ high) × (high ≤ℤ line.1)
line_image r line low high e f h =
    let k : int_le (int_max r.0 line.0) (int_min r.1 line.1) ≡ true = rw (← e, ← f) h in
    let some = le_fact (int_max r.0 line.0) (int_min r.1 line.1) k in
    rw (e, f) (clipped_some r line some, max_above r.0 line.0, some, min_below r.1 line.1)

pub line_none : (r : ℤ × ℤ) (line : ℤ × ℤ × ℤ) (low high : ℤ) → low ≡ int_max r.0 line.0 → high ≡ int_min r.1 line.1 → int_le low high ≡ false → clipped r line ≡ []
line_none r line low high e f h =
    let k : int_le (int_max r.0 line.0) (int_min r.1 line.1) ≡ false = rw (← e, ← f) h in
    rw k refl

pub ends_turned : {A : Type 0} (f : A → List (ℤ × ℤ)) (acc wide goal : Option (ℤ × ℤ)) (xs : List A) (i : ℕ) (d : A) → i < length xs → wide ≡ ends_behind acc (f (get_or xs i d))
    → ends_behind acc (flat_map f (drop i xs)) ≡ goal → ends_behind wide (flat_map f (drop (i + 1) xs)) ≡ goal
ends_turned f acc wide goal xs i d h step same =
    ap (λ (o : Option (ℤ × ℤ)). ends_behind o (flat_map f (drop (i + 1) xs))) step ∙ (sym (ends_turn f acc xs i d h) ∙ same)

-- nine tests in three groups
pub grouped : (a b c d e f g h i : Bool) → (a && (b && (c && (d && (e && (f && (g && (h && (i && true))))))))) ≡ ((a && (b && (c && d))) && ((e && (f && g)) && (h && i)))
grouped false b c d e f g h i = refl
grouped true false c d e f g h i = refl
grouped true true false d e f g h i = refl
grouped true true true false e f g h i = refl
grouped true true true true false f g h i = refl
grouped true true true true true false g h i = refl
grouped true true true true true true false h i = refl
grouped true true true true true true true false i = refl
grouped true true true true true true true true false = refl
grouped true true true true true true true true true = refl
