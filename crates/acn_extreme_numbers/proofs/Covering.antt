-- What is tried covers each number: something that is tried has a code no longer than its own, and something one no shorter.
use Rattle.std.proofs.Common.{◌≡◌, ℕ, ◌<◌, ◌≤◌, ℤ, pos, ◌+ℤ◌, Bool, true, false, not, ◌&&◌, List, [], ◌∷◌, ◌++◌, Option, Some, None, append_assoc, refl, sym, ap, ◌∙◌, arith, inl, inr, ◌⊎◌, IsTrue, max, nat_eq, nat_lt}
use Rattle.std.proofs.lemmas.Bool.{and_parts, eqb-true, or_left, or_right, or_parts, not-true}
use Rattle.std.proofs.lemmas.Bool.Decides.{nat_tests}
use Rattle.std.proofs.lemmas.Int.{ints}
use Rattle.std.specs.Prelude.{◌-ℤ◌, ◌≤ℤ◌, ◌<ℤ◌, int_le, int_lt, if◌then◌else◌, unwrap_or}
use Rattle.std.specs.Int.{int_max, int_min}
use Rattle.std.specs.List.{flat_map, list_any, list_all}
use Rattle.acn_num.specs.Ranges.{In, has, are_ranges, count}
use Rattle.acn_grammar.specs.Code.{on_line, image_in, image_by, image_of, item_number}
use Rattle.acn_grammar.specs.Images.{ends, images_by}
use Rattle.acn_grammar.specs.Interval.{nearest, origin}
use Rattle.acn_grammar.specs.Leaves.{num_fine, takes, set_fine, integer_set_fine, no_items, share, all_differ, table_fine, has_size, line_fine}
use Rattle.acn_grammar.specs.Length.{coding_length, num_length, least}
use Rattle.acn_grammar.specs.declared.node.NumCoding.{NumCoding}
use Rattle.acn_grammar.specs.declared.node.NumCoding.TheVariants.{Range, CountedFrom, CountedSigned, PosInt, Twos, Bcd, BcdEnded, Ascii, AsciiEnded, Flag, Fixed}
use Rattle.acn_grammar.specs.declared.node.NumKind.{NumKind}
use Rattle.acn_grammar.specs.declared.node.NumKind.TheVariants.{Integer, Boolean, Enumerated, Null}
use Rattle.acn_grammar.specs.declared.node.NumLeaf.{NumLeaf}
use Rattle.acn_grammar.specs.declared.node.Items.{Items}
use Rattle.acn_grammar.specs.declared.node.Table.{Table}
use Rattle.acn_grammar.proofs.FineLeaves.{rules_of, no_values}
use Rattle.acn_grammar.proofs.HasImage.{Ordered, key_sides, set_ordered, has_image}
use Rattle.acn_grammar.proofs.LeafLengths.{counted_kind}
use Rattle.acn_grammar.proofs.Monotone.{Varies, range_has}
use Rattle.acn_grammar.proofs.WholeTests.{either, le_fact, le_test}
use Rattle.acn_grammar.proofs.Within.{between}
use Rattle.acn_extreme_laws.specs.Codes.{ahead, pick}
use Rattle.acn_extreme_laws.specs.declared.side.Side.{Side}
use Rattle.acn_extreme_laws.specs.declared.side.Side.TheVariants.{Shortest, Longest}
use Rattle.acn_extreme_laws.proofs.Codes.{Among, among_left, among_right, among_either, in_range, least_in, not_below}
use Rattle.acn_extreme_numbers.specs.Tries.{image_on, nearest_key, tried_on, tried_by, lesser, least_of, picked_of}
use Rattle.acn_extreme_numbers.proofs.Picking.{near_between}

-- What is picked.

module _ (len : ℤ → ℕ) where
  picked : (side : Side) (P : ℤ → Type 0) (best : ℤ) (xs : List ℤ) → P best → ((k : ℤ) → Among k xs → P k) → P (pick len side best xs)
  picked side P best [] h f = h
  picked side P best (x ∷ xs) h f = picked side P (if ahead side (len x) (len best) then x else best) xs (by (ahead side (len x) (len best))) (λ k q. f k (inr q))
    where
      by : (b : Bool) → P (if b then x else best)
      by true = f x (inl refl)
      by false = h

  first_short : (best : ℤ) (xs : List ℤ) → len (pick len Shortest best xs) ≤ len best
  first_short best [] = omega arith
  first_short best (x ∷ xs) = by (nat_lt (len x) (len best)) refl (first_short (if nat_lt (len x) (len best) then x else best) xs)
    where
      by : (b : Bool) → nat_lt (len x) (len best) ≡ b → len (pick len Shortest (if nat_lt (len x) (len best) then x else best) xs) ≤ len (if nat_lt (len x) (len best) then x else best) → len (pick len Shortest (if nat_lt (len x) (len best) then x else best) xs) ≤ len best
      by true e h = (let l : len x < len best = grind (arith, nat_tests, e) in let same : len (if nat_lt (len x) (len best) then x else best) ≡ len x = ap (λ (c : Bool). len (if c then x else best)) e in omega arith)
      by false e h = (let same : len (if nat_lt (len x) (len best) then x else best) ≡ len best = ap (λ (c : Bool). len (if c then x else best)) e in omega arith)

  each_short : (best : ℤ) (xs : List ℤ) (k : ℤ) → Among k xs → len (pick len Shortest best xs) ≤ len k
  each_short best [] k h = absurd h
  each_short best (x ∷ xs) k (inr h) = each_short (if nat_lt (len x) (len best) then x else best) xs k h
  each_short best (x ∷ xs) k (inl is) = by (nat_lt (len x) (len best)) refl (first_short (if nat_lt (len x) (len best) then x else best) xs)
    where
      by : (b : Bool) → nat_lt (len x) (len best) ≡ b → len (pick len Shortest (if nat_lt (len x) (len best) then x else best) xs) ≤ len (if nat_lt (len x) (len best) then x else best) → len (pick len Shortest (if nat_lt (len x) (len best) then x else best) xs) ≤ len k
      by true e h = (let here = ap len is in let same : len (if nat_lt (len x) (len best) then x else best) ≡ len x = ap (λ (c : Bool). len (if c then x else best)) e in omega arith)
      by false e h = (let here = ap len is in let l : len best ≤ len x = grind (arith, nat_tests, e) in let same : len (if nat_lt (len x) (len best) then x else best) ≡ len best = ap (λ (c : Bool). len (if c then x else best)) e in omega arith)

  first_long : (best : ℤ) (xs : List ℤ) → len best ≤ len (pick len Longest best xs)
  first_long best [] = omega arith
  first_long best (x ∷ xs) = by (nat_lt (len best) (len x)) refl (first_long (if nat_lt (len best) (len x) then x else best) xs)
    where
      by : (b : Bool) → nat_lt (len best) (len x) ≡ b → len (if nat_lt (len best) (len x) then x else best) ≤ len (pick len Longest (if nat_lt (len best) (len x) then x else best) xs) → len best ≤ len (pick len Longest (if nat_lt (len best) (len x) then x else best) xs)
      by true e h = (let l : len best < len x = grind (arith, nat_tests, e) in let same : len (if nat_lt (len best) (len x) then x else best) ≡ len x = ap (λ (c : Bool). len (if c then x else best)) e in omega arith)
      by false e h = (let same : len (if nat_lt (len best) (len x) then x else best) ≡ len best = ap (λ (c : Bool). len (if c then x else best)) e in omega arith)

  each_long : (best : ℤ) (xs : List ℤ) (k : ℤ) → Among k xs → len k ≤ len (pick len Longest best xs)
  each_long best [] k h = absurd h
  each_long best (x ∷ xs) k (inr h) = each_long (if nat_lt (len best) (len x) then x else best) xs k h
  each_long best (x ∷ xs) k (inl is) = by (nat_lt (len best) (len x)) refl (first_long (if nat_lt (len best) (len x) then x else best) xs)
    where
      by : (b : Bool) → nat_lt (len best) (len x) ≡ b → len (if nat_lt (len best) (len x) then x else best) ≤ len (pick len Longest (if nat_lt (len best) (len x) then x else best) xs) → len k ≤ len (pick len Longest (if nat_lt (len best) (len x) then x else best) xs)
      by true e h = (let here = ap len is in let same : len (if nat_lt (len best) (len x) then x else best) ≡ len x = ap (λ (c : Bool). len (if c then x else best)) e in omega arith)
      by false e h = (let here = ap len is in let l : len x ≤ len best = grind (arith, nat_tests, e) in let same : len (if nat_lt (len best) (len x) then x else best) ≡ len best = ap (λ (c : Bool). len (if c then x else best)) e in omega arith)

-- Something that is tried has a code no longer than that of a number, and something one no shorter.

record Covers (len : ℤ → ℕ) (xs : List ℤ) (n : ℕ) : Type 0 where
  low : ℤ
  low_there : Among low xs
  shorter : len low ≤ n
  high : ℤ
  high_there : Among high xs
  longer : n ≤ len high

covers_left : (len : ℤ → ℕ) (xs ys : List ℤ) (n : ℕ) → Covers len xs n → Covers len (xs ++ ys) n
covers_left len xs ys n c = record { low = c.low; low_there = among_left c.low xs ys c.low_there; shorter = c.shorter; high = c.high; high_there = among_left c.high xs ys c.high_there; longer = c.longer }

covers_right : (len : ℤ → ℕ) (xs ys : List ℤ) (n : ℕ) → Covers len ys n → Covers len (xs ++ ys) n
covers_right len xs ys n c = record { low = c.low; low_there = among_right c.low xs ys c.low_there; shorter = c.shorter; high = c.high; high_there = among_right c.high xs ys c.high_there; longer = c.longer }

three_cover : (len : ℤ → ℕ) (low near high : ℤ) (n : ℕ) → len near ≤ n → n ≤ max (len low) (len high) → Covers len (low ∷ near ∷ high ∷ []) n
three_cover len low near high n a b = by (nat_lt (len low) (len high)) refl
  where
    by : (t : Bool) → nat_lt (len low) (len high) ≡ t → Covers len (low ∷ near ∷ high ∷ []) n
    by true e = (let l : len low < len high = grind (arith, nat_tests, e) in record { low = near; low_there = inr (inl refl); shorter = a; high = high; high_there = inr (inr (inl refl)); longer = omega arith })
    by false e = (let l : len high ≤ len low = grind (arith, nat_tests, e) in record { low = near; low_there = inr (inl refl); shorter = a; high = low; high_there = inl refl; longer = omega arith })

-- A key of a line is a key of no other.

abbrev pub Line : Type 0
Line = ℤ × ℤ × ℤ

other_off : (m l : Line) (x : ℤ) → share m l ≡ false → on_line l x ≡ true → on_line m x ≡ false
other_off m l x h on = by (on_line m x) refl (key_sides m l h)
  where
    by : (t : Bool) → on_line m x ≡ t → (l.1 <ℤ m.0) ⊎ (m.1 <ℤ l.0) → on_line m x ≡ false
    by false e s = e
    by true e (inl s) =
        let u = and_parts (int_le m.0 x) (int_le x m.1) e in
        let w = and_parts (int_le l.0 x) (int_le x l.1) on in
        let a = le_fact m.0 x u.0 in
        let b = le_fact x l.1 w.1 in
        absurd (omega (arith, ints))
    by true e (inr s) =
        let u = and_parts (int_le m.0 x) (int_le x m.1) e in
        let w = and_parts (int_le l.0 x) (int_le x l.1) on in
        let a = le_fact x m.1 u.1 in
        let b = le_fact l.0 x w.0 in
        absurd (omega (arith, ints))

any_at : (p : Line → Bool) (before : List Line) (l : Line) (after : List Line) → list_any p (before ++ l ∷ after) ≡ false → p l ≡ false
any_at p [] l after h = (or_parts (p l) (list_any p after) h).0
any_at p (m ∷ before) l after h = any_at p before l after (or_parts (p m) (list_any p (before ++ l ∷ after)) h).1

pub mapped : (before : List Line) (l : Line) (after : List Line) (x : ℤ) → all_differ share (before ++ l ∷ after) ≡ true → on_line l x ≡ true → image_in (before ++ l ∷ after) x ≡ Some (image_on l x)
mapped [] l after x d on = rw on refl
mapped (m ∷ before) l after x d on =
    let f = and_parts (not (list_any (share m) (before ++ l ∷ after))) (all_differ share (before ++ l ∷ after)) d in
    let off = other_off m l x (any_at (share m) before l after (not-true (list_any (share m) (before ++ l ∷ after)) f.0)) on in
    rw off (mapped before l after x f.1 on)

-- What is tried covers each number of the set.

module _ (coding : NumCoding) (varies : Varies coding) (len : ℤ → ℕ) where
  abbrev Tried : Option Table → List (ℤ × ℤ) → List ℤ
  Tried table rs = tried_by (origin coding) table rs

  plain_cover : ((k : ℤ) → len k ≡ coding_length coding k) → (rs : List (ℤ × ℤ)) (x : ℤ) → has rs x ≡ true → Covers len (Tried None rs) (len x)
  plain_cover is [] x h = cc
  plain_cover is (r ∷ rs) x h = either {F = Covers len (Tried None (r ∷ rs)) (len x)} (int_le r.0 x && int_le x r.1) (has rs x) h
      (λ q. let w = between r.0 r.1 x q in
      let two = range_has coding varies r x w.0 w.1 in
      let a = is x in let b = is r.0 in let c = is (nearest (origin coding) r) in let d = is r.1 in
      let e = two.0 in let f = two.1 in
      covers_left len (r.0 ∷ nearest (origin coding) r ∷ r.1 ∷ []) (Tried None rs) (len x) (three_cover len r.0 (nearest (origin coding) r) r.1 (len x) (omega arith) (omega arith)))
      (λ q. covers_right len (r.0 ∷ nearest (origin coding) r ∷ r.1 ∷ []) (Tried None rs) (len x) (plain_cover is rs x q))

  low_of : (a b x : ℤ) → a ≤ℤ x → b ≤ℤ x → int_max a b ≤ℤ x
  low_of a b x h k = grind (arith, ints, nat_tests, h, k)

  high_of : (a b x : ℤ) → x ≤ℤ a → x ≤ℤ b → x ≤ℤ int_min a b
  high_of a b x h k = grind (arith, ints, nat_tests, h, k)

  max_left : (a b x : ℤ) → int_max a b ≤ℤ x → a ≤ℤ x
  max_left a b x h = grind (arith, ints, nat_tests)

  max_right : (a b x : ℤ) → int_max a b ≤ℤ x → b ≤ℤ x
  max_right a b x h = grind (arith, ints, nat_tests)

  min_left : (a b x : ℤ) → x ≤ℤ int_min a b → x ≤ℤ a
  min_left a b x h = grind (arith, ints, nat_tests)

  min_right : (a b x : ℤ) → x ≤ℤ int_min a b → x ≤ℤ b
  min_right a b x h = grind (arith, ints, nat_tests)

  keeps : (a b c d : ℤ) → a ≤ℤ b → (c +ℤ (a -ℤ d)) ≤ℤ (c +ℤ (b -ℤ d))
  keeps a b c d h = omega (arith, ints)

  key_between : (low high z l0 n : ℤ) → (z +ℤ (low -ℤ l0)) ≤ℤ n → n ≤ℤ (z +ℤ (high -ℤ l0)) → (low ≤ℤ (l0 +ℤ (n -ℤ z))) × ((l0 +ℤ (n -ℤ z)) ≤ℤ high)
  key_between low high z l0 n a b = (omega (arith, ints), omega (arith, ints))

  back : (n z l0 : ℤ) → z +ℤ ((l0 +ℤ (n -ℤ z)) -ℤ l0) ≡ n
  back n z l0 = omega (arith, ints)

  on_cover : (r : ℤ × ℤ) (l : Line) → ((k : ℤ) → on_line l k ≡ true → len k ≡ coding_length coding (image_on l k)) → (x : ℤ) → r.0 ≤ℤ x → x ≤ℤ r.1 → on_line l x ≡ true → Covers len (tried_on (origin coding) r l) (len x)
  on_cover r l is x a b on =
      let w = and_parts (int_le l.0 x) (int_le x l.1) on in
      let low = int_max r.0 l.0 in
      let high = int_min r.1 l.1 in
      let above = low_of r.0 l.0 x a (le_fact l.0 x w.0) in
      let below = high_of r.1 l.1 x b (le_fact x l.1 w.1) in
      let order : low ≤ℤ high = whole low x high above below in
      let n = nearest (origin coding) (image_on l low, image_on l high) in
      let near = near_between (origin coding) (image_on l low, image_on l high) (keeps low high l.2 l.0 order) in
      let key = key_between low high l.2 l.0 n near.0 near.1 in
      let on_low = in_range l.0 l.1 low (max_right r.0 l.0 low (same low)) (min_right r.1 l.1 low order) in
      let on_high = in_range l.0 l.1 high (max_right r.0 l.0 high order) (min_right r.1 l.1 high (same high)) in
      let on_near = in_range l.0 l.1 (nearest_key (origin coding) l low high) (max_right r.0 l.0 _ key.0) (min_right r.1 l.1 _ key.1) in
      let two = range_has coding varies (image_on l low, image_on l high) (image_on l x) (keeps low x l.2 l.0 above) (keeps x high l.2 l.0 below) in
      let len_x = is x on in
      let len_low = is low on_low in
      let len_high = is high on_high in
      let len_near = is (nearest_key (origin coding) l low high) on_near ∙ ap (coding_length coding) (back n l.2 l.0) in
      let e = two.0 in
      let f = two.1 in
      rw (le_test low high order) (three_cover len low (nearest_key (origin coding) l low high) high (len x) (omega arith) (omega arith))
    where
      same : (x : ℤ) → x ≤ℤ x
      same x = omega (arith, ints)

      whole : (a x b : ℤ) → a ≤ℤ x → x ≤ℤ b → a ≤ℤ b
      whole a x b h k = omega (arith, ints)

  lines_cover : (all before ls : List Line) → all ≡ before ++ ls → all_differ share all ≡ true → ((k y : ℤ) → image_in all k ≡ Some y → len k ≡ coding_length coding y)
      → (r : ℤ × ℤ) (x y : ℤ) → r.0 ≤ℤ x → x ≤ℤ r.1 → image_in ls x ≡ Some y → Covers len (flat_map (tried_on (origin coding) r) ls) (len x)
  lines_cover all before [] e d is r x y a b i = cc
  lines_cover all before (l ∷ ls) e d is r x y a b i = by (on_line l x) refl i (λ q. lines_cover all (before ++ l ∷ []) ls (e ∙ sym (append_assoc before (l ∷ []) ls)) d is r x y a b q)
    where
      by : (t : Bool) → on_line l x ≡ t → (if t then Some (l.2 +ℤ (x -ℤ l.0)) else image_in ls x) ≡ Some y → (image_in ls x ≡ Some y → Covers len (flat_map (tried_on (origin coding) r) ls) (len x)) → Covers len (flat_map (tried_on (origin coding) r) (l ∷ ls)) (len x)
      by true on q f = covers_left len (tried_on (origin coding) r l) (flat_map (tried_on (origin coding) r) ls) (len x)
          (on_cover r l (λ k h. is k (image_on l k) (ap (λ z. image_in z k) e ∙ mapped before l ls k (sym (ap (all_differ share) e) ∙ d) h)) x a b on)
      by false on q f = covers_right len (tried_on (origin coding) r l) (flat_map (tried_on (origin coding) r) ls) (len x) (f q)

  table_cover : (table : Table) → all_differ share table.lines ≡ true → ((k y : ℤ) → image_in table.lines k ≡ Some y → len k ≡ coding_length coding y)
      → (rs : List (ℤ × ℤ)) (x y : ℤ) → has rs x ≡ true → image_in table.lines x ≡ Some y → Covers len (Tried (Some table) rs) (len x)
  table_cover table d is [] x y h i = cc
  table_cover table d is (r ∷ rs) x y h i = either {F = Covers len (Tried (Some table) (r ∷ rs)) (len x)} (int_le r.0 x && int_le x r.1) (has rs x) h
      (λ q. let w = between r.0 r.1 x q in covers_left len (flat_map (tried_on (origin coding) r) table.lines) (Tried (Some table) rs) (len x) (lines_cover table.lines [] table.lines refl d is r x y w.0 w.1 i))
      (λ q. covers_right len (flat_map (tried_on (origin coding) r) table.lines) (Tried (Some table) rs) (len x) (table_cover table d is rs x y q i))

  -- What is tried is permitted.

  three_in : (a b k : ℤ) (n : ℤ) → a ≤ℤ b → a ≤ℤ n → n ≤ℤ b → Among k (a ∷ n ∷ b ∷ []) → (a ≤ℤ k) × (k ≤ℤ b)
  three_in a b k n o l h (inl e) = (omega (arith, ints), omega (arith, ints))
  three_in a b k n o l h (inr (inl e)) = (rw e l, rw e h)
  three_in a b k n o l h (inr (inr (inl e))) = (rw e o, omega (arith, ints))
  three_in a b k n o l h (inr (inr (inr e))) = absurd e

  on_in : (r : ℤ × ℤ) (l : Line) (k : ℤ) → Among k (tried_on (origin coding) r l) → (r.0 ≤ℤ k) × (k ≤ℤ r.1)
  on_in r l k h = by (int_le (int_max r.0 l.0) (int_min r.1 l.1)) refl h
    where
      low : ℤ
      low = int_max r.0 l.0

      high : ℤ
      high = int_min r.1 l.1

      by : (t : Bool) → int_le (int_max r.0 l.0) (int_min r.1 l.1) ≡ t → Among k (if t then low ∷ nearest_key (origin coding) l low high ∷ high ∷ [] else []) → (r.0 ≤ℤ k) × (k ≤ℤ r.1)
      by true e q =
          let order = le_fact low high e in
          let near = near_between (origin coding) (image_on l low, image_on l high) (keeps low high l.2 l.0 order) in
          let key = key_between low high l.2 l.0 (nearest (origin coding) (image_on l low, image_on l high)) near.0 near.1 in
          let w = three_in low high k (nearest_key (origin coding) l low high) order key.0 key.1 q in
          (max_left r.0 l.0 k w.0, min_left r.1 l.1 k w.1)
      by false e q = absurd q

  lines_in : (r : ℤ × ℤ) (ls : List Line) (k : ℤ) → Among k (flat_map (tried_on (origin coding) r) ls) → (r.0 ≤ℤ k) × (k ≤ℤ r.1)
  lines_in r [] k h = absurd h
  lines_in r (l ∷ ls) k h = among_either {F = (r.0 ≤ℤ k) × (k ≤ℤ r.1)} k (tried_on (origin coding) r l) (flat_map (tried_on (origin coding) r) ls) h (on_in r l k) (lines_in r ls k)

  tried_in : (table : Option Table) (rs : List (ℤ × ℤ)) → Ordered rs → (k : ℤ) → Among k (Tried table rs) → has rs k ≡ true
  tried_in None [] o k h = absurd h
  tried_in (Some table) [] o k h = absurd h
  tried_in None (r ∷ rs) o k h = among_either {F = has (r ∷ rs) k ≡ true} k (r.0 ∷ nearest (origin coding) r ∷ r.1 ∷ []) (Tried None rs) h
      (λ q. let n = near_between (origin coding) r o.0 in let w = three_in r.0 r.1 k (nearest (origin coding) r) o.0 n.0 n.1 q in or_left (int_le r.0 k && int_le k r.1) (has rs k) (in_range r.0 r.1 k w.0 w.1))
      (λ q. or_right (int_le r.0 k && int_le k r.1) (has rs k) (tried_in None rs o.1 k q))
  tried_in (Some table) (r ∷ rs) o k h = among_either {F = has (r ∷ rs) k ≡ true} k (flat_map (tried_on (origin coding) r) table.lines) (Tried (Some table) rs) h
      (λ q. let w = lines_in r table.lines k q in or_left (int_le r.0 k && int_le k r.1) (has rs k) (in_range r.0 r.1 k w.0 w.1))
      (λ q. or_right (int_le r.0 k && int_le k r.1) (has rs k) (tried_in (Some table) rs o.1 k q))

-- The least of those with one length is permitted too, and has that length.

pub record Keeps (leaf : NumLeaf) (best x : ℤ) : Type 0 where
  pub there : In leaf.set x
  pub alike : num_length leaf x ≡ num_length leaf best

pub lesser_keeps : (leaf : NumLeaf) (x best : ℤ) → In leaf.set best → Keeps leaf best (lesser leaf x best)
lesser_keeps leaf x best h = by (has leaf.set x && (nat_eq (num_length leaf x) (num_length leaf best) && int_lt x best)) refl
  where
    by : (t : Bool) → (has leaf.set x && (nat_eq (num_length leaf x) (num_length leaf best) && int_lt x best)) ≡ t → Keeps leaf best (if t then x else best)
    by true e =
        let a = and_parts (has leaf.set x) (nat_eq (num_length leaf x) (num_length leaf best) && int_lt x best) e in
        let b = and_parts (nat_eq (num_length leaf x) (num_length leaf best)) (int_lt x best) a.1 in
        record { there = a.0; alike = eqb-true (num_length leaf x) (num_length leaf best) b.0 }
    by false e = record { there = h; alike = refl }

pub least_keeps : (leaf : NumLeaf) (best : ℤ) (xs : List ℤ) → In leaf.set best → Keeps leaf best (least_of leaf best xs)
least_keeps leaf best [] h = record { there = h; alike = refl }
least_keeps leaf best (x ∷ xs) h =
    let one = lesser_keeps leaf x best h in
    let two = least_keeps leaf (lesser leaf x best) xs one.there in
    record { there = two.there; alike = two.alike ∙ one.alike }

-- Leaves that keep their rules.

is_integer : (kind : NumKind) (coding : NumCoding) → Varies coding → takes kind coding ≡ true → kind ≡ Integer
is_integer kind (CountedFrom low) v t = counted_kind kind (CountedFrom low) t refl refl refl
is_integer kind CountedSigned v t = counted_kind kind CountedSigned t refl refl refl
is_integer kind BcdEnded v t = counted_kind kind BcdEnded t refl refl refl
is_integer kind (AsciiEnded end signed) v t = counted_kind kind (AsciiEnded end signed) t refl refl refl
is_integer kind (Range low width) v t = absurd v
is_integer kind (PosInt n) v t = absurd v
is_integer kind (Twos n) v t = absurd v
is_integer kind (Bcd n) v t = absurd v
is_integer kind (Ascii n signed) v t = absurd v
is_integer kind (Flag p q) v t = absurd v
is_integer kind (Fixed pattern) v t = absurd v

no_values_in : (kind : NumKind) (coding : NumCoding) (items : Items) (table : Option Table) (set : List (ℤ × ℤ)) → kind ≡ Integer → set_fine kind coding items table set ≡ true → items.values ≡ false
no_values_in Integer coding items table set k h = no_values items (and_parts (integer_set_fine coding (ends set)) (no_items items) (and_parts (are_ranges set) (integer_set_fine coding (ends set) && no_items items) h).1).1
no_values_in Boolean coding items table set k h = cc
no_values_in Enumerated coding items table set k h = cc
no_values_in Null coding items table set k h = cc

-- the numbers of a table are those of its images
lines_differ : (leaf : NumLeaf) (table : Table) → table_fine leaf.coding leaf.set (Some table) ≡ true → all_differ share table.lines ≡ true
lines_differ leaf table h =
    let a = and_parts (has_size leaf.coding) (list_all line_fine table.lines && (all_differ share table.lines && nat_eq (count (images_by (Some table) leaf.set)) (count leaf.set))) h in
    let b = and_parts (list_all line_fine table.lines) (all_differ share table.lines && nat_eq (count (images_by (Some table) leaf.set)) (count leaf.set)) a.1 in
    (and_parts (all_differ share table.lines) (nat_eq (count (images_by (Some table) leaf.set)) (count leaf.set)) b.1).0

module _ (leaf : NumLeaf) (fine : IsTrue (num_fine leaf)) (varies : Varies leaf.coding) where
  pub kind_is : leaf.kind ≡ Integer
  kind_is = is_integer leaf.kind leaf.coding varies (rules_of leaf fine).kind

  pub values_are : leaf.items.values ≡ false
  values_are = no_values_in leaf.kind leaf.coding leaf.items leaf.table leaf.set kind_is (rules_of leaf fine).set

  image_is : (x : ℤ) → image_of leaf x ≡ image_by leaf.table x
  image_is x = ap (λ (b : Bool). if b then item_number leaf.items.items x else image_by leaf.table x) values_are

  pub length_is : (x y : ℤ) → image_by leaf.table x ≡ Some y → num_length leaf x ≡ coding_length leaf.coding y
  length_is x y e = ap (λ o. coding_length leaf.coding (unwrap_or o (pos 0))) (image_is x ∙ e)

  pub image_there : (x : ℤ) → In leaf.set x → (y : ℤ) × (image_by leaf.table x ≡ Some y)
  image_there x h = (let found = has_image leaf fine x h in (found.0, sym (image_is x) ∙ found.1))

  pub apart : (table : Table) → leaf.table ≡ Some table → all_differ share table.lines ≡ true
  apart table e = lines_differ leaf table (ap (table_fine leaf.coding leaf.set) (sym e) ∙ (rules_of leaf fine).table)

  covered : (x : ℤ) → In leaf.set x → Covers (num_length leaf) (tried_by (origin leaf.coding) leaf.table leaf.set) (num_length leaf x)
  covered x h = by leaf.table refl
    where
      image : (y : ℤ) × (image_by leaf.table x ≡ Some y)
      image = image_there x h

      by : (t : Option Table) → leaf.table ≡ t → Covers (num_length leaf) (tried_by (origin leaf.coding) t leaf.set) (num_length leaf x)
      by None e = plain_cover leaf.coding varies (num_length leaf) (λ k. length_is k k (ap (λ t. image_by t k) e)) leaf.set x h
      by (Some table) e = table_cover leaf.coding varies (num_length leaf) table (apart table e)
          (λ k y i. length_is k y (ap (λ t. image_by t k) e ∙ i)) leaf.set x image.0 h (ap (λ t. image_by t x) (sym e) ∙ image.1)

  pub picked_permitted : (side : Side) → In leaf.set (picked_of side leaf)
  picked_permitted side = picked (num_length leaf) side (In leaf.set) (least leaf.set) (tried_by (origin leaf.coding) leaf.table leaf.set) (least_in leaf fine)
      (tried_in leaf.coding varies (num_length leaf) leaf.table leaf.set (set_ordered leaf.kind leaf.coding leaf.items leaf.table leaf.set (rules_of leaf fine).set))

  -- no code is nearer to the side than that of what is picked
  pub picked_extreme : (side : Side) (x : ℤ) → In leaf.set x → ahead side (num_length leaf x) (num_length leaf (picked_of side leaf)) ≡ false
  picked_extreme Shortest x h =
      let c = covered x h in
      let low = each_short (num_length leaf) (least leaf.set) (tried_by (origin leaf.coding) leaf.table leaf.set) c.low c.low_there in
      let a = c.shorter in
      not_below (num_length leaf x) (num_length leaf (picked_of Shortest leaf)) (omega arith)
  picked_extreme Longest x h =
      let c = covered x h in
      let high = each_long (num_length leaf) (least leaf.set) (tried_by (origin leaf.coding) leaf.table leaf.set) c.high c.high_there in
      let b = c.longer in
      not_below (num_length leaf (picked_of Longest leaf)) (num_length leaf x) (omega arith)
