-- The leaf of an ENUMERATED is fine.
use Rattle.std.proofs.Common.{◌≡◌, ℕ, ◌-◌, ◌^◌, ◌<◌, Bool, true, false, not, ◌&&◌, cond, List, [], ◌∷◌, map, filter, length, Option, Some, None, refl, sym, ap, subst, ◌∙◌, ℤ, pos, arith, inr}
use Rattle.std.specs.Prelude.{◌-ℤ◌, ◌≤ℤ◌, int_le, int_lt, nat_lt, if◌then◌else◌}
use Rattle.std.specs.Int.{int_min, int_max}
use Rattle.std.specs.List.{list_all}
use Rattle.std.specs.Ordering.{int_eq}
use Rattle.std.proofs.lemmas.Bool.{and_parts, and_from, lt-ltb, ltb-true, cond_both, true≢false}
use Rattle.std.proofs.lemmas.Int.{ints}
use Rattle.acn_num.specs.Bits.{is_least_width}
use Rattle.acn_num.specs.Ranges.{Ranges, has, some_range, distance}
use Rattle.acn_asn_syntax.specs.declared.types.Item.{Item}
use Rattle.acn_acn_syntax.specs.Mirror.{Field}
use Rattle.acn_codings.specs.Codings.{fits, numbers}
use Rattle.acn_codings.specs.Items.{or_zero}
use Rattle.acn_codings.specs.Left.{left_of, least_lost}
use Rattle.acn_codings.specs.declared.coding.Coding.{Coding}
use Rattle.acn_codings.specs.declared.coding.Coding.TheVariants as coding
use Rattle.acn_codings.proofs.FineFront.{range_ranges, in_range}
use Rattle.acn_grammar.specs.Asks.{same_name}
use Rattle.acn_grammar.specs.Images.{ends, ends_from}
use Rattle.acn_grammar.specs.Leaves.{takes, coding_fine, can_be_little, is_signed_text, begins_below_zero, can_write, can_write_all, is_number, is_range, all_differ, items_fine, values_fine, set_fine}
use Rattle.acn_grammar.specs.declared.node.NumCoding.{NumCoding}
use Rattle.acn_grammar.specs.declared.node.NumCoding.TheVariants.{Range}
use Rattle.acn_grammar.specs.declared.node.NumKind.TheVariants.{Enumerated}
use Rattle.acn_grammar.specs.declared.node.NumLeaf.{NumLeaf}
use Rattle.acn_grammar.proofs.FineLeaves.{Rules}
use Rattle.acn_grammar.proofs.WholeTests.{eq_self, le_fact, le_test}
use Rattle.acn_leaves.specs.Leaves.{range_from, low_end, high_end, as_said, greatest_behind, greatest_of, values_range}
use Rattle.acn_leaves.specs.Ordered.{ascending, Ranked, rank, ranked, items_in_order}
use Rattle.acn_leaves.specs.Widths.{least_width}
use Rattle.acn_written.specs.Items.{Numbered, item_numbers}
use Rattle.acn_written.specs.Numbers.{through, closed_set, indices, values_of, least_behind, least_of, is_among, is_value, lost_values}
use Rattle.acn_written.specs.Widths.{is_whole_octets}
use Rattle.acn_written.proofs.Within.{ends_within as coding_within}
use Rattle.acn_leaf_laws.specs.Laws.{AreItems, item_names}
use Rattle.acn_leaf_laws.proofs.Constrained.{IsBounded}
use Rattle.acn_leaf_laws.proofs.Integers.{is_sized, unsized, step_parts, little_said, writes_said}
use Rattle.acn_leaf_laws.proofs.Items.{name_symmetric, number_symmetric, one_number, numbered_names, AreNumbered}
use Rattle.acn_leaf_laws.proofs.Left.{left_is}
use Rattle.acn_leaf_laws.proofs.Ordering.{one_min, one_max, length_map, map_map, differ_map, second_parts, length_ascending, differ_ascending, ends_ascending}
use Rattle.acn_leaf_laws.proofs.Rules.{implied}
use Rattle.acn_leaf_laws.proofs.Sets.{one_range, in_one, one_has}
use Rattle.acn_leaf_laws.proofs.Widths.{least_is}

-- ---- the items in the order of their numbers

module _ (items : List Item) (braces : Option (List Field)) (numbered : AreNumbered items (values_of items braces)) where
  abbrev values : List Numbered
  values = values_of items braces

  abbrev ranks : List Ranked
  ranks = ranked items braces

  long_as : (xs : List Numbered) → map (λ (i : Numbered). i.0) xs ≡ item_names items → length xs ≡ length items
  long_as xs e = sym (length_map (λ (i : Numbered). i.0) xs) ∙ (ap length e ∙ length_map (λ (i : Item). i.name) items)

  seconds : map (λ (r : Ranked). r.1) ranks ≡ values
  seconds = second_parts (map (λ (i : Numbered). i.1) (item_numbers items)) values (length_map (λ (i : Numbered). i.1) (item_numbers items) ∙ (long_as (item_numbers items) (numbered_names items) ∙ sym (long_as values numbered.names)))

  pub length_in_order : length (items_in_order items braces) ≡ length items
  unfolding items_in_order
  length_in_order =
      length_map (λ (r : Ranked). r.1) (ascending rank ranks)
      ∙ (length_ascending rank ranks ∙ (sym (length_map (λ (r : Ranked). r.1) ranks) ∙ (ap length seconds ∙ long_as values numbered.names)))

  differ_in_order : (same : Numbered → Numbered → Bool) → ((x y : Numbered) → same x y ≡ same y x) → all_differ same values ≡ true → all_differ same (items_in_order items braces) ≡ true
  unfolding items_in_order
  differ_in_order same symmetric h =
      differ_map (λ (r : Ranked). r.1) same (ascending rank ranks)
      ∙ (differ_ascending rank (λ (r q : Ranked). same r.1 q.1) (λ r q. symmetric r.1 q.1) ranks
      ∙ (sym (differ_map (λ (r : Ranked). r.1) same ranks) ∙ (ap (all_differ same) seconds ∙ h)))

  names_differ : all_differ same_name (item_names items) ≡ true → all_differ (λ (a b : Numbered). same_name a.0 b.0) (items_in_order items braces) ≡ true
  names_differ h =
      differ_in_order (λ (a b : Numbered). same_name a.0 b.0) (λ x y. name_symmetric x.0 y.0)
      (sym (differ_map (λ (i : Numbered). i.0) same_name values) ∙ (ap (all_differ same_name) numbered.names ∙ h))

  pub fine_in_order : (k : NumCoding) (v : Bool) → all_differ same_name (item_names items) ≡ true → items_fine k (record { items = items_in_order items braces; values = v }) ≡ true
  fine_in_order k v h =
      and_from (all_differ (λ (a b : Numbered). same_name a.0 b.0) (items_in_order items braces)) (all_differ one_number (items_in_order items braces)) (names_differ h)
      (differ_in_order one_number (λ x y. number_symmetric x.1 y.1) numbered.numbers)

  abbrev twice : Numbered → ℤ × ℤ
  twice i = (i.1, i.1)

  pub ends_in_order : ends (map twice (items_in_order items braces)) ≡ ends (map twice values)
  unfolding items_in_order
  ends_in_order =
      ap ends (map_map (λ (r : Ranked). r.1) twice (ascending rank ranks))
      ∙ (ends_ascending rank (λ (r : Ranked). r.1.1) ranks ∙ (sym (ap ends (map_map (λ (r : Ranked). r.1) twice ranks)) ∙ ap (λ (l : List Numbered). ends (map twice l)) seconds))

-- ---- the least and the greatest of written numbers

abbrev double : Numbered → ℤ × ℤ
double i = (i.1, i.1)

least_from : (e : ℤ × ℤ) (is : List Numbered) → least_behind (Some e.0) is ≡ Some (ends_from e (map double is)).0
least_from e [] = refl
least_from e (i ∷ is) = ap (λ (z : ℤ). least_behind (Some z) is) (one_min i.1 e.0) ∙ least_from (int_min e.0 i.1, int_max e.1 i.1) is

greatest_from : (e : ℤ × ℤ) (is : List Numbered) → greatest_behind (Some e.1) is ≡ Some (ends_from e (map double is)).1
greatest_from e [] = refl
greatest_from e (i ∷ is) = ap (λ (z : ℤ). greatest_behind (Some z) is) (one_max i.1 e.1) ∙ greatest_from (int_min e.0 i.1, int_max e.1 i.1) is

-- where all pass, so do the least and the greatest
ends_pass : (p : ℤ → Bool) (e : ℤ × ℤ) (is : List Numbered) → p e.0 ≡ true → p e.1 ≡ true → list_all (λ (i : Numbered). p i.1) is ≡ true → (p (ends_from e (map double is)).0 ≡ true) × (p (ends_from e (map double is)).1 ≡ true)
ends_pass p e [] a b h = (a, b)
ends_pass p e (i ∷ is) a b h =
    let c = and_parts (p i.1) (list_all (λ (j : Numbered). p j.1) is) h in
    ends_pass p (int_min e.0 i.1, int_max e.1 i.1) is
    (cond_both (int_lt i.1 e.0) i.1 e.0 (λ z. p z ≡ true) (λ f. c.0) (λ f. a))
    (cond_both (int_lt i.1 e.1) e.1 i.1 (λ z. p z ≡ true) (λ f. b) (λ f. c.0))
    c.1

never_none : (a : ℤ) (is : List Numbered) → least_behind (Some a) is ≡ None → ⊥
never_none a [] h = cc
never_none a (i ∷ is) h = never_none (int_min i.1 a) is h

none_least : (is : List Numbered) → least_of is ≡ None → is ≡ []
none_least [] h = refl
none_least (i ∷ is) h = absurd (never_none i.1 is h)

none_fail : (p : Numbered → Bool) (is : List Numbered) → filter (λ (i : Numbered). not (p i)) is ≡ [] → list_all p is ≡ true
none_fail p [] h = refl
none_fail p (i ∷ is) h = by (p i) refl h (none_fail p is)
  where
    by : (t : Bool) → p i ≡ t → cond (not t) (i ∷ filter (λ (j : Numbered). not (p j)) is) (filter (λ (j : Numbered). not (p j)) is) ≡ [] → (filter (λ (j : Numbered). not (p j)) is ≡ [] → list_all p is ≡ true) → (p i && list_all p is) ≡ true
    by true e f rest = and_from (p i) (list_all p is) e (rest f)
    by false e f rest = cc

-- ---- codings

-- an index, or a number in a fixed count of bits
abbrev pub is_plain : Coding → Bool
is_plain coding.Default = true
is_plain (coding.PosInt n) = true
is_plain (coding.Twos n) = true
is_plain _ = false

module _ (low : ℤ) (width : ℕ) (end : List Bool) where
  abbrev said : Coding → NumCoding
  said c = as_said (Range low width) end c

  plain_taken : (c : Coding) → is_plain c ≡ true → takes Enumerated (said c) ≡ true
  plain_taken coding.Default h = refl
  plain_taken (coding.PosInt n) h = refl
  plain_taken (coding.Twos n) h = refl
  plain_taken (coding.Bcd n) h = cc
  plain_taken coding.BcdEnded h = cc
  plain_taken (coding.Ascii n sign) h = cc
  plain_taken (coding.AsciiEnded sign) h = cc

  plain_unsigned : (c : Coding) → is_plain c ≡ true → is_signed_text (said c) ≡ false
  plain_unsigned coding.Default h = refl
  plain_unsigned (coding.PosInt n) h = refl
  plain_unsigned (coding.Twos n) h = refl
  plain_unsigned (coding.Bcd n) h = cc
  plain_unsigned coding.BcdEnded h = cc
  plain_unsigned (coding.Ascii n sign) h = cc
  plain_unsigned (coding.AsciiEnded sign) h = cc

  plain_fine : (c : Coding) → is_plain c ≡ true → fits c ≡ true → coding_fine (said c) ≡ true
  plain_fine coding.Default h f = refl
  plain_fine (coding.PosInt n) h f = (step_parts 1 1 64 n f).0
  plain_fine (coding.Twos n) h f = (step_parts 1 1 64 n f).0
  plain_fine (coding.Bcd n) h f = cc
  plain_fine coding.BcdEnded h f = cc
  plain_fine (coding.Ascii n sign) h f = cc
  plain_fine (coding.AsciiEnded sign) h f = cc

-- ---- the rules

-- what is known of the items of a site without a reason
pub record IsEnumeration (items : List Item) (values : List Numbered) (written : Bool) (c : Coding) (little : Bool) : Type 0 where
  pub width : fits c ≡ true
  pub plain : is_plain c ≡ true
  pub order : little ≡ true → is_whole_octets c ≡ true
  pub lost_values : written ≡ true → least_of (lost_values c values) ≡ None
  pub lost_indices : written ≡ false → least_lost (closed_set (indices items)) (through None (numbers c)) ≡ None

-- the default coding: of the numbers of the items, or of the indices
abbrev pub default_of : List Item → List Numbered → Bool → NumCoding
default_of items values written = if written then values_range values else range_from (low_end (indices items)) (high_end (indices items))

abbrev pub leaf_from : (items : List Item) (values : List Numbered) (in_order : List Numbered) (written : Bool) (c : Coding) (end : List Bool) (little : Bool) → NumLeaf
leaf_from items values in_order written c end little = record { kind = Enumerated; set = indices items; coding = as_said (default_of items values written) end c; little = little; table = None; items = record { items = in_order; values = written } }

indices_are : (items : List Item) → 0 < length items → indices items ≡ (pos 0, pos (length items - 1)) ∷ []
indices_are items h = some_indices (length items) h
  where
    some_indices : (n : ℕ) → 0 < n → some_range (pos 0) (pos n -ℤ pos 1) ≡ (pos 0, pos (n - 1)) ∷ []
    some_indices n h = let e : pos n -ℤ pos 1 ≡ pos (n - 1) = omega (arith, ints, h) in ap (λ (z : ℤ). some_range (pos 0) z) e ∙ ap (λ (t : Bool). if t then (pos 0, pos (n - 1)) ∷ [] else []) (le_test (pos 0) (pos (n - 1)) (omega (arith, ints)))

bounded_indices : (m : ℕ) → m < 2 ^ 64 → IsBounded (closed_set ((pos 0, pos m) ∷ []))
bounded_indices m h = record {
  ranges = one_range (pos 0) (pos m) (omega (arith, ints)) (omega (arith, ints)) (omega (arith, ints, h));
  some = refl;
  low = λ x i. let a = (in_one (pos 0) (pos m) x i).0 in omega (arith, ints, a);
  high = λ x i. let a = (in_one (pos 0) (pos m) x i).1 in omega (arith, ints, a, h);
  words = inr (refl, λ x i. (in_one (pos 0) (pos m) x i).0);
}

one_left : (m : ℕ) (can : Ranges) → left_of (closed_set ((pos 0, pos m) ∷ [])) can ≡ (pos 0, pos m) ∷ []
unfolding left_of
one_left m can = refl

-- the indices can be written
indices_written : (m : ℕ) (c : Coding) → m < 2 ^ 64 → fits c ≡ true → least_lost (closed_set ((pos 0, pos m) ∷ [])) (through None (numbers c)) ≡ None → ((numbers c).0 ≤ℤ pos 0) × (pos m ≤ℤ (numbers c).1)
indices_written m c h f lost =
    let e = coding_within c (numbers c) f refl in
    let can = range_ranges (numbers c).0 (numbers c).1 e.0 e.2 in
    let l = left_is (closed_set ((pos 0, pos m) ∷ [])) (through None (numbers c)) (bounded_indices m h) can lost in
    let one = in_range (numbers c).0 (numbers c).1 (pos 0) (l.written (pos 0) (ap (λ (s : Ranges). has s (pos 0)) (one_left m (through None (numbers c))) ∙ one_has (pos 0) (pos m) (pos 0) (omega (arith, ints)) (omega (arith, ints)))) in
    let two = in_range (numbers c).0 (numbers c).1 (pos m) (l.written (pos m) (ap (λ (s : Ranges). has s (pos m)) (one_left m (through None (numbers c))) ∙ one_has (pos 0) (pos m) (pos m) (omega (arith, ints)) (omega (arith, ints)))) in
    (one.0, two.1)

-- a range from one number to another, or a width in which both stand
range_written : (low high : ℤ) (end : List Bool) (c : Coding) → (is_sized c ≡ false → distance low high < 2 ^ 64) → (is_sized c ≡ true → ((numbers c).0 ≤ℤ low) × (high ≤ℤ (numbers c).1)) → can_write (as_said (range_from low high) end c) (low, high) ≡ true
range_written low high end c near within = by (is_sized c) refl
  where
    indexed : distance low high < 2 ^ 64 → can_write (range_from low high) (low, high) ≡ true
    indexed h = and_from (int_eq low low) (is_least_width (distance low high) (least_width (distance low high))) (eq_self low) (least_is (distance low high) h)

    by : (t : Bool) → is_sized c ≡ t → can_write (as_said (range_from low high) end c) (low, high) ≡ true
    by true e = let w = within e in writes_said (range_from low high) end c (low, high) e w.0 w.1
    by false e = ap (λ (z : Coding). can_write (as_said (range_from low high) end z) (low, high)) (unsized c e) ∙ indexed (near e)

-- ---- the numbers of the items

-- the least and the greatest
record HasEnds (c : Coding) (values : List Numbered) : Type 0 where
  low : ℤ
  high : ℤ
  ends_there : ends (map double values) ≡ Some (low, high)
  least_there : least_of values ≡ Some low
  greatest_there : greatest_of values ≡ Some high
  low_written : is_value c (Some low) low ≡ true
  high_written : is_value c (Some low) high ≡ true

ends_of : (c : Coding) (i : Numbered) (is : List Numbered) → least_of (lost_values c (i ∷ is)) ≡ None → HasEnds c (i ∷ is)
ends_of c i is h =
    let e = ends_from (double i) (map double is) in
    let least = least_from (double i) is in
    let all = none_fail (λ (j : Numbered). is_value c (least_of (i ∷ is)) j.1) (i ∷ is) (none_least (lost_values c (i ∷ is)) h) in
    let so : list_all (λ (j : Numbered). is_value c (Some e.0) j.1) (i ∷ is) ≡ true = subst (λ (o : Option ℤ). list_all (λ (j : Numbered). is_value c o j.1) (i ∷ is) ≡ true) least all in
    let a = and_parts (is_value c (Some e.0) i.1) (list_all (λ (j : Numbered). is_value c (Some e.0) j.1) is) so in
    let p = ends_pass (λ (z : ℤ). is_value c (Some e.0) z) (double i) is a.0 a.0 a.1 in
    record { low = e.0; high = e.1; ends_there = refl; least_there = least; greatest_there = greatest_from (double i) is; low_written = p.0; high_written = p.1 }

-- without a width they are numbers, and near each other
word_parts : (low x : ℤ) → is_value coding.Default (Some low) x ≡ true → (is_number x ≡ true) × (distance low x < 2 ^ 64)
word_parts low x h = let a = and_parts (is_number x) (nat_lt (distance low x) (2 ^ 64)) h in (a.0, ltb-true (distance low x) (2 ^ 64) a.1)

value_within : (c : Coding) (low x : ℤ) → is_sized c ≡ true → is_value c (Some low) x ≡ true → ((numbers c).0 ≤ℤ x) × (x ≤ℤ (numbers c).1)
value_within c low x h v = among (numbers c) x (sized_value c h v)
  where
    among : (e : ℤ × ℤ) (x : ℤ) → is_among e x ≡ true → (e.0 ≤ℤ x) × (x ≤ℤ e.1)
    among e x h = let a = and_parts (int_le e.0 x) (int_le x e.1) h in (le_fact e.0 x a.0, le_fact x e.1 a.1)

    sized_value : (c : Coding) → is_sized c ≡ true → is_value c (Some low) x ≡ true → is_among (numbers c) x ≡ true
    sized_value coding.Default h v = cc
    sized_value (coding.PosInt n) h v = (and_parts (fits (coding.PosInt n)) (is_among (numbers (coding.PosInt n)) x) v).1
    sized_value (coding.Twos n) h v = (and_parts (fits (coding.Twos n)) (is_among (numbers (coding.Twos n)) x) v).1
    sized_value (coding.Bcd n) h v = (and_parts (fits (coding.Bcd n)) (is_among (numbers (coding.Bcd n)) x) v).1
    sized_value coding.BcdEnded h v = (and_parts (fits coding.BcdEnded) (is_among (numbers coding.BcdEnded) x) v).1
    sized_value (coding.Ascii n sign) h v = (and_parts (fits (coding.Ascii n sign)) (is_among (numbers (coding.Ascii n sign)) x) v).1
    sized_value (coding.AsciiEnded sign) h v = (and_parts (fits (coding.AsciiEnded sign)) (is_among (numbers (coding.AsciiEnded sign)) x) v).1

some_ends : (c : Coding) (values : List Numbered) → 0 < length values → least_of (lost_values c values) ≡ None → HasEnds c values
some_ends c [] some h = absurd (omega (arith, some))
some_ends c (i ∷ is) some h = ends_of c i is h

-- ---- all rules

module _ (items : List Item) (braces : Option (List Field)) (are : AreItems items) (numbered : AreNumbered items (values_of items braces)) (c : Coding) (end : List Bool) (little : Bool) where
  abbrev written_values : List Numbered
  written_values = values_of items braces

  abbrev in_order : List Numbered
  in_order = items_in_order items braces

  set_rule : (k : NumCoding) (v : Bool) → set_fine Enumerated k (record { items = in_order; values = v }) None (indices items) ≡ true
  set_rule k v =
      let e = length_in_order items braces numbered in
      and_from (nat_lt 0 (length in_order)) (is_range (pos 0) (pos (length in_order - 1)) (indices items) && items_fine k (record { items = in_order; values = v })) (ap (nat_lt 0) e ∙ lt-ltb 0 (length items) are.some)
      (and_from (is_range (pos 0) (pos (length in_order - 1)) (indices items)) (items_fine k (record { items = in_order; values = v }))
      (ap (λ (n : ℕ). is_range (pos 0) (pos (n - 1)) (indices items)) e
      ∙ (ap (is_range (pos 0) (pos (length items - 1))) (indices_are items are.some) ∙ and_from (int_eq (pos 0) (pos 0)) (int_eq (pos (length items - 1)) (pos (length items - 1))) refl (eq_self (pos (length items - 1)))))
      (fine_in_order items braces numbered k v are.differ))

  -- the numbers are written
  module _ (k : IsEnumeration items (values_of items braces) true c little) where
    ends_written : HasEnds c written_values
    ends_written = some_ends c written_values (subst (λ (n : ℕ). 0 < n) (sym (long_as items braces numbered written_values numbered.names)) are.some) (k.lost_values refl)

    values_by : (c : Coding) → HasEnds c written_values → values_fine true (as_said (values_range written_values) end c) (ends (map double written_values)) ≡ true
    values_by coding.Default h =
        let low = word_parts h.low h.low h.low_written in
        let high = word_parts h.low h.high h.high_written in
        ap (values_fine true (values_range written_values)) h.ends_there
        ∙ and_from (is_number h.low) (is_number h.high && nat_lt (distance h.low h.high) (2 ^ 64)) low.0 (and_from (is_number h.high) (nat_lt (distance h.low h.high) (2 ^ 64)) high.0 (lt-ltb (distance h.low h.high) (2 ^ 64) high.1))
    values_by (coding.PosInt n) h = refl
    values_by (coding.Twos n) h = refl
    values_by (coding.Bcd n) h = refl
    values_by coding.BcdEnded h = refl
    values_by (coding.Ascii n sign) h = refl
    values_by (coding.AsciiEnded sign) h = refl

    writes_by : HasEnds c written_values → can_write_all (as_said (values_range written_values) end c) (ends (map double written_values)) ≡ true
    writes_by h =
        ap (can_write_all (as_said (values_range written_values) end c)) h.ends_there
        ∙ (ap (λ (o : Option ℤ). can_write (as_said (range_from (or_zero o) (or_zero (greatest_of written_values))) end c) (h.low, h.high)) h.least_there
        ∙ (ap (λ (o : Option ℤ). can_write (as_said (range_from h.low (or_zero o)) end c) (h.low, h.high)) h.greatest_there
        ∙ range_written h.low h.high end c
        (λ e. (word_parts h.low h.high (subst (λ (z : Coding). is_value z (Some h.low) h.high ≡ true) (unsized c e) h.high_written)).1)
        (λ e. ((value_within c h.low h.low e h.low_written).0, (value_within c h.low h.high e h.high_written).1))))

    pub value_rules : Rules (leaf_from items written_values in_order true c end little)
    value_rules =
        let low = or_zero (least_of written_values) in
        let width = least_width (distance (or_zero (least_of written_values)) (or_zero (greatest_of written_values))) in
        let e = ends_in_order items braces numbered in
        record {
          kind = plain_taken low width end c k.plain;
          coding = plain_fine low width end c k.plain k.width;
          little = implied little (can_be_little (said low width end c)) (λ h. little_said (Range low width) end c (k.order h));
          sign = implied (is_signed_text (said low width end c)) (begins_below_zero (indices items)) (λ h. absurd (true≢false (sym h ∙ plain_unsigned low width end c k.plain)));
          set = set_rule (said low width end c) true;
          integer = refl;
          table = refl;
          values = ap (values_fine true (said low width end c)) e ∙ values_by c ends_written;
          writes = ap (can_write_all (said low width end c)) e ∙ writes_by ends_written;
        }

  -- the indices are written
  module _ (k : IsEnumeration items (values_of items braces) false c little) where
    few_indices : length items - 1 < 2 ^ 64
    few_indices = let f = are.few in omega (arith, f)

    lost_none : least_lost (closed_set ((pos 0, pos (length items - 1)) ∷ [])) (through None (numbers c)) ≡ None
    lost_none = subst (λ (s : Ranges). least_lost (closed_set s) (through None (numbers c)) ≡ None) (indices_are items are.some) (k.lost_indices refl)

    near_indices : (m : ℕ) → m < 2 ^ 64 → distance (pos 0) (pos m) < 2 ^ 64
    near_indices m h = omega (arith, ints, h)

    index_writes : can_write_all (as_said (range_from (low_end (indices items)) (high_end (indices items))) end c) (ends (indices items)) ≡ true
    index_writes =
        ap (λ (s : Ranges). can_write_all (as_said (range_from (low_end s) (high_end s)) end c) (ends s)) (indices_are items are.some)
        ∙ range_written (pos 0) (pos (length items - 1)) end c (λ e. near_indices (length items - 1) few_indices) (λ e. indices_written (length items - 1) c few_indices k.width lost_none)

    pub index_rules : Rules (leaf_from items written_values in_order false c end little)
    index_rules =
        let low = low_end (indices items) in
        let width = least_width (distance (low_end (indices items)) (high_end (indices items))) in
        record {
          kind = plain_taken low width end c k.plain;
          coding = plain_fine low width end c k.plain k.width;
          little = implied little (can_be_little (said low width end c)) (λ h. little_said (Range low width) end c (k.order h));
          sign = implied (is_signed_text (said low width end c)) (begins_below_zero (indices items)) (λ h. absurd (true≢false (sym h ∙ plain_unsigned low width end c k.plain)));
          set = set_rule (said low width end c) false;
          integer = refl;
          table = refl;
          values = refl;
          writes = index_writes;
        }
