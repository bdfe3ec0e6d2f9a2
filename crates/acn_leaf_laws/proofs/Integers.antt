-- The leaf of an INTEGER is fine.
use Rattle.std.proofs.Common.{◌≡◌, ℕ, ◌-◌, ◌/◌, ◌%◌, ◌^◌, ◌<◌, ◌≤◌, ◌⊎◌, inl, inr, Bool, true, false, not, ◌&&◌, List, [], ◌∷◌, map, Option, Some, None, refl, ap, ◌∙◌, ℤ, pos, negsuc, arith}
use Rattle.std.specs.Prelude.{◌-ℤ◌, ◌≤ℤ◌, ◌<ℤ◌, neg_ℤ, int_le, int_lt, nat_eq, nat_le, option_map}
use Rattle.std.specs.List.{flat_map, list_all}
use Rattle.std.specs.Ordering.{int_eq}
use Rattle.std.proofs.lemmas.Bool.{and_parts, and_from, or_left, or_right, not-true, eq-eqb}
use Rattle.std.proofs.lemmas.Int.{ints}
use Rattle.acn_num.specs.Bits.{is_least_width}
use Rattle.acn_num.specs.Ranges.{Ranges, has, AreRanges, least, greatest, distance, count, are_ranges, all_within}
use Rattle.acn_acn_syntax.specs.declared.maps.MapTable.{MapTable}
use Rattle.acn_acn_syntax.specs.declared.modules.Encoding.{Encoding}
use Rattle.acn_acn_syntax.specs.declared.modules.Encoding.TheVariants as encoding
use Rattle.acn_acn_syntax.specs.declared.modules.SizeAttr.{SizeAttr}
use Rattle.acn_acn_syntax.specs.declared.modules.SizeAttr.TheVariants as size
use Rattle.acn_codings.specs.Codings.{coding_of, is_step, fits, numbers}
use Rattle.acn_codings.specs.Items.{or_zero}
use Rattle.acn_codings.specs.Left.{left_of, least_lost}
use Rattle.acn_codings.specs.Tables.{line_of, table_fault}
use Rattle.acn_codings.specs.declared.coding.Coding.{Coding}
use Rattle.acn_codings.specs.declared.coding.Coding.TheVariants as coding
use Rattle.acn_codings.proofs.FineFront.{range_ranges, in_range}
use Rattle.acn_constraint.specs.Constraints.{Opened, starts_negative}
use Rattle.acn_grammar.specs.Images.{clipped, images_by, ends, ends_from}
use Rattle.acn_grammar.specs.Leaves.{takes, has_size, from_to, coding_fine, can_be_little, is_signed_text, begins_below_zero, can_write, can_write_all, line_fine, share, all_differ, table_fine, is_below, integer_set_fine, set_fine}
use Rattle.acn_grammar.specs.Leaves as leaves
use Rattle.acn_grammar.specs.declared.node.NumCoding.{NumCoding}
use Rattle.acn_grammar.specs.declared.node.NumCoding.TheVariants.{Range, CountedFrom, CountedSigned, PosInt, Twos, Bcd, BcdEnded, Ascii, AsciiEnded, Flag, Fixed}
use Rattle.acn_grammar.specs.declared.node.NumKind.TheVariants.{Integer}
use Rattle.acn_grammar.specs.declared.node.NumLeaf.{NumLeaf}
use Rattle.acn_grammar.proofs.FineLeaves.{Rules}
use Rattle.acn_grammar.proofs.WholeTests.{eq_self, le_test, lt_test}
use Rattle.acn_leaves.specs.Leaves.{default_coding, as_said, no_items, table_of}
use Rattle.acn_leaves.specs.Widths.{least_width}
use Rattle.acn_written.specs.Numbers.{through, has_sign}
use Rattle.acn_written.specs.Patterns.{ends_number}
use Rattle.acn_written.specs.Widths.{is_whole_octets}
use Rattle.acn_written.proofs.Within.{ends_within as coding_within}
use Rattle.acn_leaf_laws.proofs.Constrained.{IsBounded, InWords}
use Rattle.acn_leaf_laws.proofs.Left.{IsLeft, left_is}
use Rattle.acn_leaf_laws.proofs.Rules.{implied}
use Rattle.acn_leaf_laws.proofs.Sets.{in_order, first_has, least_below, greatest_has, some_greatest, ends_are, ends_within}
use Rattle.acn_leaf_laws.proofs.Tables.{table_parts, keys_ranges, images_counted, images_within}
use Rattle.acn_leaf_laws.proofs.Widths.{least_is}

-- ---- codings

-- the coding comes from `size`
abbrev pub is_sized : Coding → Bool
is_sized coding.Default = false
is_sized _ = true

-- it has a sign in its text
abbrev pub is_signed : Coding → Bool
is_signed (coding.Ascii n sign) = sign
is_signed (coding.AsciiEnded sign) = sign
is_signed _ = false

pub unsized : (c : Coding) → is_sized c ≡ false → c ≡ coding.Default
unsized coding.Default h = refl
unsized (coding.PosInt n) h = cc
unsized (coding.Twos n) h = cc
unsized (coding.Bcd n) h = cc
unsized coding.BcdEnded h = cc
unsized (coding.Ascii n sign) h = cc
unsized (coding.AsciiEnded sign) h = cc

pub sized_number : (sign : Bool) (n : ℕ) (e : Option Encoding) → is_sized (coding_of sign (Some (size.Number n)) e) ≡ true
sized_number sign n (Some encoding.PosInt) = refl
sized_number sign n (Some encoding.TwosComplement) = refl
sized_number sign n (Some encoding.Bcd) = refl
sized_number sign n (Some encoding.Ascii) = refl
sized_number true n None = refl
sized_number false n None = refl

pub sized_ended : (sign : Bool) (e : Option Encoding) → is_sized (coding_of sign (Some size.NullTerminated) e) ≡ true
sized_ended sign (Some encoding.PosInt) = refl
sized_ended sign (Some encoding.TwosComplement) = refl
sized_ended sign (Some encoding.Bcd) = refl
sized_ended sign (Some encoding.Ascii) = refl
sized_ended sign None = refl

-- a text has a sign where the number has one
pub signed_of : (sign : Bool) (o : Option SizeAttr) (e : Option Encoding) → is_signed (coding_of sign o e) ≡ true → sign ≡ true
signed_of sign None e h = cc
signed_of sign (Some (size.Number n)) (Some encoding.PosInt) h = cc
signed_of sign (Some (size.Number n)) (Some encoding.TwosComplement) h = cc
signed_of sign (Some (size.Number n)) (Some encoding.Bcd) h = cc
signed_of sign (Some (size.Number n)) (Some encoding.Ascii) h = h
signed_of true (Some (size.Number n)) None h = refl
signed_of false (Some (size.Number n)) None h = cc
signed_of sign (Some size.NullTerminated) (Some encoding.PosInt) h = h
signed_of sign (Some size.NullTerminated) (Some encoding.TwosComplement) h = h
signed_of sign (Some size.NullTerminated) (Some encoding.Bcd) h = cc
signed_of sign (Some size.NullTerminated) (Some encoding.Ascii) h = h
signed_of sign (Some size.NullTerminated) None h = h
signed_of sign (Some (size.Path p)) e h = cc

default_taken : (below above : Bool) (s : Ranges) → takes Integer (default_coding below above s) ≡ true
default_taken true above s = refl
default_taken false true s = refl
default_taken false false s = refl

default_fine : (below above : Bool) (s : Ranges) → coding_fine (default_coding below above s) ≡ true
default_fine true above s = refl
default_fine false true s = refl
default_fine false false s = refl

default_unsigned : (below above : Bool) (s : Ranges) → is_signed_text (default_coding below above s) ≡ false
default_unsigned true above s = refl
default_unsigned false true s = refl
default_unsigned false false s = refl

pub step_parts : (step low high n : ℕ) → is_step step low high n ≡ true → (from_to low high n ≡ true) × (nat_eq (n % step) 0 ≡ true)
step_parts step low high n h =
    let a = and_parts (nat_eq (n % step) 0 && nat_le low n) (nat_le n high) h in
    let b = and_parts (nat_eq (n % step) 0) (nat_le low n) a.0 in
    (and_from (nat_le low n) (nat_le n high) b.1 a.1, b.0)

both_steps : (step low high n : ℕ) → is_step step low high n ≡ true → (from_to low high n && nat_eq (n % step) 0) ≡ true
both_steps step low high n h = let p = step_parts step low high n h in and_from (from_to low high n) (nat_eq (n % step) 0) p.0 p.1

module _ (d : NumCoding) (end : List Bool) where
  taken_said : (c : Coding) → takes Integer d ≡ true → takes Integer (as_said d end c) ≡ true
  taken_said coding.Default h = h
  taken_said (coding.PosInt n) h = refl
  taken_said (coding.Twos n) h = refl
  taken_said (coding.Bcd n) h = refl
  taken_said coding.BcdEnded h = refl
  taken_said (coding.Ascii n sign) h = refl
  taken_said (coding.AsciiEnded sign) h = refl

  pub fine_said : (c : Coding) → coding_fine d ≡ true → fits c ≡ true → ends_number end ≡ true → coding_fine (as_said d end c) ≡ true
  fine_said coding.Default h f e = h
  fine_said (coding.PosInt n) h f e = (step_parts 1 1 64 n f).0
  fine_said (coding.Twos n) h f e = (step_parts 1 1 64 n f).0
  fine_said (coding.Bcd n) h f e = both_steps 4 4 76 n f
  fine_said coding.BcdEnded h f e = refl
  fine_said (coding.Ascii n false) h f e = both_steps 8 8 152 n f
  fine_said (coding.Ascii n true) h f e = both_steps 8 16 152 n f
  fine_said (coding.AsciiEnded sign) h f e = e

  pub little_said : (c : Coding) → is_whole_octets c ≡ true → can_be_little (as_said d end c) ≡ true
  little_said coding.Default h = cc
  little_said (coding.PosInt n) h = h
  little_said (coding.Twos n) h = h
  little_said (coding.Bcd n) h = cc
  little_said coding.BcdEnded h = cc
  little_said (coding.Ascii n sign) h = cc
  little_said (coding.AsciiEnded sign) h = cc

  signed_said : (c : Coding) → is_signed_text d ≡ false → is_signed_text (as_said d end c) ≡ true → is_signed c ≡ true
  signed_said coding.Default h e = cc
  signed_said (coding.PosInt n) h e = cc
  signed_said (coding.Twos n) h e = cc
  signed_said (coding.Bcd n) h e = cc
  signed_said coding.BcdEnded h e = cc
  signed_said (coding.Ascii n sign) h e = e
  signed_said (coding.AsciiEnded sign) h e = e

  size_said : (c : Coding) → is_sized c ≡ true → has_size (as_said d end c) ≡ true
  size_said coding.Default h = cc
  size_said (coding.PosInt n) h = refl
  size_said (coding.Twos n) h = refl
  size_said (coding.Bcd n) h = refl
  size_said coding.BcdEnded h = refl
  size_said (coding.Ascii n sign) h = refl
  size_said (coding.AsciiEnded sign) h = refl

  from_zero : (m : ℕ) (e : ℤ × ℤ) → pos 0 ≤ℤ e.0 → e.1 ≤ℤ (pos m -ℤ pos 1) → (int_le (pos 0) e.0 && int_lt e.1 (pos m)) ≡ true
  from_zero m e l h = and_from (int_le (pos 0) e.0) (int_lt e.1 (pos m)) (le_test (pos 0) e.0 l) (lt_test e.1 (pos m) (omega (arith, ints, h)))

  around : (m : ℕ) (e : ℤ × ℤ) → (pos 0 -ℤ pos m) ≤ℤ e.0 → e.1 ≤ℤ (pos m -ℤ pos 1) → (int_le (neg_ℤ (pos m)) e.0 && int_lt e.1 (pos m)) ≡ true
  around m e l h = and_from (int_le (neg_ℤ (pos m)) e.0) (int_lt e.1 (pos m)) (le_test (neg_ℤ (pos m)) e.0 (omega (arith, ints, l))) (lt_test e.1 (pos m) (omega (arith, ints, h)))

  even : (m : ℕ) (e : ℤ × ℤ) → (pos 1 -ℤ pos m) ≤ℤ e.0 → e.1 ≤ℤ (pos m -ℤ pos 1) → (int_lt (neg_ℤ (pos m)) e.0 && int_lt e.1 (pos m)) ≡ true
  even m e l h = and_from (int_lt (neg_ℤ (pos m)) e.0) (int_lt e.1 (pos m)) (lt_test (neg_ℤ (pos m)) e.0 (omega (arith, ints, l))) (lt_test e.1 (pos m) (omega (arith, ints, h)))

  words : (e : ℤ × ℤ) → negsuc 9223372036854775807 ≤ℤ e.0 → e.1 ≤ℤ pos 9223372036854775807 → (int_le (neg_ℤ (pos (2 ^ 63))) e.0 && int_lt e.1 (pos (2 ^ 63))) ≡ true
  words e l h = and_from (int_le (neg_ℤ (pos (2 ^ 63))) e.0) (int_lt e.1 (pos (2 ^ 63))) (le_test (neg_ℤ (pos (2 ^ 63))) e.0 (omega (arith, ints, l))) (lt_test e.1 (pos (2 ^ 63)) (omega (arith, ints, h)))

  -- what lies among the numbers of a coding it can write
  pub writes_said : (c : Coding) (e : ℤ × ℤ) → is_sized c ≡ true → (numbers c).0 ≤ℤ e.0 → e.1 ≤ℤ (numbers c).1 → can_write (as_said d end c) e ≡ true
  writes_said coding.Default e h l u = cc
  writes_said (coding.PosInt n) e h l u = from_zero (2 ^ n) e l u
  writes_said (coding.Twos n) e h l u = around (2 ^ (n - 1)) e l u
  writes_said (coding.Bcd n) e h l u = from_zero (10 ^ (n / 4)) e l u
  writes_said coding.BcdEnded e h l u = from_zero (2 ^ 64) e l u
  writes_said (coding.Ascii n false) e h l u = from_zero (10 ^ (n / 8)) e l u
  writes_said (coding.Ascii n true) e h l u = even (10 ^ (n / 8 - 1)) e l u
  writes_said (coding.AsciiEnded false) e h l u = from_zero (2 ^ 64) e l u
  writes_said (coding.AsciiEnded true) e h l u = words e l u

-- ---- the least and the greatest number

abbrev counts_signed : NumCoding → Bool
counts_signed CountedSigned = true
counts_signed _ = false

counted_default : (above : Bool) (s : Ranges) → counts_signed (default_coding false above s) ≡ false
counted_default true s = refl
counted_default false s = refl

counted_said : (d : NumCoding) (end : List Bool) (c : Coding) → counts_signed d ≡ false → counts_signed (as_said d end c) ≡ false
counted_said d end coding.Default h = h
counted_said d end (coding.PosInt n) h = refl
counted_said d end (coding.Twos n) h = refl
counted_said d end (coding.Bcd n) h = refl
counted_said d end coding.BcdEnded h = refl
counted_said d end (coding.Ascii n sign) h = refl
counted_said d end (coding.AsciiEnded sign) h = refl

below_any : (k : NumCoding) (low high : ℤ) → int_lt high (pos (2 ^ 63)) ≡ true → is_below k low high ≡ true
below_any CountedSigned low high h = h
below_any (Range l n) low high h = or_left (int_lt high (pos (2 ^ 63))) (int_le (pos 0) low && int_lt high (pos (2 ^ 64))) h
below_any (CountedFrom l) low high h = or_left (int_lt high (pos (2 ^ 63))) (int_le (pos 0) low && int_lt high (pos (2 ^ 64))) h
below_any (PosInt n) low high h = or_left (int_lt high (pos (2 ^ 63))) (int_le (pos 0) low && int_lt high (pos (2 ^ 64))) h
below_any (Twos n) low high h = or_left (int_lt high (pos (2 ^ 63))) (int_le (pos 0) low && int_lt high (pos (2 ^ 64))) h
below_any (Bcd n) low high h = or_left (int_lt high (pos (2 ^ 63))) (int_le (pos 0) low && int_lt high (pos (2 ^ 64))) h
below_any BcdEnded low high h = or_left (int_lt high (pos (2 ^ 63))) (int_le (pos 0) low && int_lt high (pos (2 ^ 64))) h
below_any (Ascii n sign) low high h = or_left (int_lt high (pos (2 ^ 63))) (int_le (pos 0) low && int_lt high (pos (2 ^ 64))) h
below_any (AsciiEnded p sign) low high h = or_left (int_lt high (pos (2 ^ 63))) (int_le (pos 0) low && int_lt high (pos (2 ^ 64))) h
below_any (Flag ones zeros) low high h = or_left (int_lt high (pos (2 ^ 63))) (int_le (pos 0) low && int_lt high (pos (2 ^ 64))) h
below_any (Fixed p) low high h = or_left (int_lt high (pos (2 ^ 63))) (int_le (pos 0) low && int_lt high (pos (2 ^ 64))) h

below_big : (k : NumCoding) (low high : ℤ) → counts_signed k ≡ false → (int_le (pos 0) low && int_lt high (pos (2 ^ 64))) ≡ true → is_below k low high ≡ true
below_big CountedSigned low high e h = cc
below_big (Range l n) low high e h = or_right (int_lt high (pos (2 ^ 63))) (int_le (pos 0) low && int_lt high (pos (2 ^ 64))) h
below_big (CountedFrom l) low high e h = or_right (int_lt high (pos (2 ^ 63))) (int_le (pos 0) low && int_lt high (pos (2 ^ 64))) h
below_big (PosInt n) low high e h = or_right (int_lt high (pos (2 ^ 63))) (int_le (pos 0) low && int_lt high (pos (2 ^ 64))) h
below_big (Twos n) low high e h = or_right (int_lt high (pos (2 ^ 63))) (int_le (pos 0) low && int_lt high (pos (2 ^ 64))) h
below_big (Bcd n) low high e h = or_right (int_lt high (pos (2 ^ 63))) (int_le (pos 0) low && int_lt high (pos (2 ^ 64))) h
below_big BcdEnded low high e h = or_right (int_lt high (pos (2 ^ 63))) (int_le (pos 0) low && int_lt high (pos (2 ^ 64))) h
below_big (Ascii n sign) low high e h = or_right (int_lt high (pos (2 ^ 63))) (int_le (pos 0) low && int_lt high (pos (2 ^ 64))) h
below_big (AsciiEnded p sign) low high e h = or_right (int_lt high (pos (2 ^ 63))) (int_le (pos 0) low && int_lt high (pos (2 ^ 64))) h
below_big (Flag ones zeros) low high e h = or_right (int_lt high (pos (2 ^ 63))) (int_le (pos 0) low && int_lt high (pos (2 ^ 64))) h
below_big (Fixed p) low high e h = or_right (int_lt high (pos (2 ^ 63))) (int_le (pos 0) low && int_lt high (pos (2 ^ 64))) h

-- ---- all rules

-- what is known of the numbers of a site without a reason
pub record IsInteger (set : Opened) (table : Option MapTable) (c : Coding) (end : List Bool) (little : Bool) : Type 0 where
  pub bounded : IsBounded set
  pub width : fits c ≡ true
  pub ended : ends_number end ≡ true
  pub order : little ≡ true → is_whole_octets c ≡ true
  pub sign : is_signed c ≡ true → has_sign set ≡ true
  pub sized : (t : MapTable) → table ≡ Some t → is_sized c ≡ true
  pub fault : (t : MapTable) → table ≡ Some t → table_fault t.lines ≡ None
  pub lost : least_lost set (through table (numbers c)) ≡ None

abbrev pub leaf_from : (set : Opened) (table : Option MapTable) (c : Coding) (end : List Bool) (little : Bool) (left : Ranges) → NumLeaf
leaf_from set table c end little left = record { kind = Integer; set = left; coding = as_said (default_coding set.open_below set.open_above left) end c; little = little; table = option_map table_of table; items = no_items }

can_ranges : (table : Option MapTable) (c : Coding) → fits c ≡ true → AreRanges (through table (numbers c))
can_ranges None c h = let e = coding_within c (numbers c) h refl in range_ranges (numbers c).0 (numbers c).1 e.0 e.2
can_ranges (Some t) c h = keys_ranges (numbers c).0 (numbers c).1 t.lines

-- the least and the greatest number of what is left
record HasEnds (set : Opened) (low high : ℤ) : Type 0 where
  order : low ≤ℤ high
  lowest : negsuc 9223372036854775807 ≤ℤ low
  most : high ≤ℤ pos 18446744073709551615
  words : (high ≤ℤ pos 9223372036854775807) ⊎ ((set.open_below ≡ false) × (pos 0 ≤ℤ low))

ends_of : (set : Opened) (can : Ranges) (r : ℤ × ℤ) (s : Ranges) → IsBounded set → IsLeft set can (r ∷ s) → HasEnds set r.0 (or_zero (greatest (r ∷ s)))
ends_of set can r s b l =
    let g = or_zero (greatest (r ∷ s)) in
    let first = l.inside r.0 (first_has r s l.ranges) in
    let there = greatest_has (r ∷ s) g l.ranges (some_greatest r s) in
    let last = l.inside g there in
    record {
      order = least_first r s l.ranges g there;
      lowest = b.low r.0 first;
      most = b.high g last;
      words = by b.words first last;
    }
  where
    least_first : (r : ℤ × ℤ) (s : Ranges) → AreRanges (r ∷ s) → (x : ℤ) → has (r ∷ s) x ≡ true → r.0 ≤ℤ x
    least_first r s h x m = least_below (r ∷ s) x r.0 h m refl

    by : InWords set → has set.numbers r.0 ≡ true → has set.numbers (or_zero (greatest (r ∷ s))) ≡ true → (or_zero (greatest (r ∷ s)) ≤ℤ pos 9223372036854775807) ⊎ ((set.open_below ≡ false) × (pos 0 ≤ℤ r.0))
    by (inl f) first last = inl (f (or_zero (greatest (r ∷ s))) last)
    by (inr f) first last = inr (f.0, f.1 r.0 first)

near : (set : Opened) (low high : ℤ) → HasEnds set low high → distance low high < 2 ^ 64
near set low high h = by h.words
  where
    one : (low high : ℤ) → low ≤ℤ high → negsuc 9223372036854775807 ≤ℤ low → high ≤ℤ pos 9223372036854775807 → distance low high < 2 ^ 64
    one low high o l u = omega (arith, ints, o, l, u)

    two : (low high : ℤ) → low ≤ℤ high → pos 0 ≤ℤ low → high ≤ℤ pos 18446744073709551615 → distance low high < 2 ^ 64
    two low high o l u = omega (arith, ints, o, l, u)

    by : (high ≤ℤ pos 9223372036854775807) ⊎ ((set.open_below ≡ false) × (pos 0 ≤ℤ low)) → distance low high < 2 ^ 64
    by (inl u) = one low high h.order h.lowest u
    by (inr z) = two low high h.order z.1 h.most

set_below : (set : Opened) (k : NumCoding) (low high : ℤ) → HasEnds set low high → (set.open_below ≡ false → counts_signed k ≡ false) → (int_le (neg_ℤ (pos (2 ^ 63))) low && is_below k low high) ≡ true
set_below set k low high h unsigned =
    and_from (int_le (neg_ℤ (pos (2 ^ 63))) low) (is_below k low high) (le_test (neg_ℤ (pos (2 ^ 63))) low (lowest low h.lowest)) (by h.words)
  where
    lowest : (x : ℤ) → negsuc 9223372036854775807 ≤ℤ x → neg_ℤ (pos (2 ^ 63)) ≤ℤ x
    lowest x h = omega (arith, ints, h)

    signed : (x : ℤ) → x ≤ℤ pos 9223372036854775807 → x <ℤ pos (2 ^ 63)
    signed x h = omega (arith, ints, h)

    unsigned_most : (x : ℤ) → x ≤ℤ pos 18446744073709551615 → x <ℤ pos (2 ^ 64)
    unsigned_most x h = omega (arith, ints, h)

    by : (high ≤ℤ pos 9223372036854775807) ⊎ ((set.open_below ≡ false) × (pos 0 ≤ℤ low)) → is_below k low high ≡ true
    by (inl u) = below_any k low high (lt_test high (pos (2 ^ 63)) (signed high u))
    by (inr z) = below_big k low high (unsigned z.0) (and_from (int_le (pos 0) low) (int_lt high (pos (2 ^ 64))) (le_test (pos 0) low z.1) (lt_test high (pos (2 ^ 64)) (unsigned_most high h.most)))

-- the default coding can write all from the least number to the greatest
default_writes : (below above : Bool) (r : ℤ × ℤ) (s : Ranges) → distance r.0 (or_zero (greatest (r ∷ s))) < 2 ^ 64 → can_write (default_coding below above (r ∷ s)) (r.0, or_zero (greatest (r ∷ s))) ≡ true
default_writes true above r s h = refl
default_writes false true r s h = eq_self r.0
default_writes false false r s h =
    let g = or_zero (greatest (r ∷ s)) in
    and_from (int_eq r.0 r.0) (is_least_width (distance r.0 g) (least_width (distance r.0 g))) (eq_self r.0) (least_is (distance r.0 g) h)

-- what ranges that lie among the numbers of a coding need, it can write
ranges_written : (d : NumCoding) (end : List Bool) (c : Coding) (images : Ranges) (n : ℕ) → is_sized c ≡ true → all_within (numbers c).0 (numbers c).1 images ≡ true → count images ≡ n → 1 ≤ n → can_write_all (as_said d end c) (ends images) ≡ true
ranges_written d end c [] n h w e some = absurd (omega (arith, e, some))
ranges_written d end c (q ∷ qs) n h w e some = let f = ends_within (numbers c).0 (numbers c).1 q qs w in writes_said d end c (ends_from q qs) h f.0 f.1

module _ (set : Opened) (c : Coding) (end : List Bool) (little : Bool) where
  -- what the coding can write, without a table and with one
  plain_writes : (r : ℤ × ℤ) (s : Ranges) → IsInteger set None c end little → IsLeft set (through None (numbers c)) (r ∷ s) → HasEnds set r.0 (or_zero (greatest (r ∷ s)))
      → can_write (as_said (default_coding set.open_below set.open_above (r ∷ s)) end c) (r.0, or_zero (greatest (r ∷ s))) ≡ true
  plain_writes r s k l e = by (is_sized c) refl
    where
      by : (t : Bool) → is_sized c ≡ t → can_write (as_said (default_coding set.open_below set.open_above (r ∷ s)) end c) (r.0, or_zero (greatest (r ∷ s))) ≡ true
      by true is =
          let g = or_zero (greatest (r ∷ s)) in
          let one = in_range (numbers c).0 (numbers c).1 r.0 (l.written r.0 (first_has r s l.ranges)) in
          let two = in_range (numbers c).0 (numbers c).1 g (l.written g (greatest_has (r ∷ s) g l.ranges (some_greatest r s))) in
          writes_said (default_coding set.open_below set.open_above (r ∷ s)) end c (r.0, g) is one.0 two.1
      by false is =
          ap (λ (z : Coding). can_write (as_said (default_coding set.open_below set.open_above (r ∷ s)) end z) (r.0, or_zero (greatest (r ∷ s)))) (unsized c is)
          ∙ default_writes set.open_below set.open_above r s (near set r.0 (or_zero (greatest (r ∷ s))) e)

  all_written : (table : Option MapTable) (r : ℤ × ℤ) (s : Ranges) → IsInteger set table c end little → IsLeft set (through table (numbers c)) (r ∷ s) → HasEnds set r.0 (or_zero (greatest (r ∷ s)))
      → can_write_all (as_said (default_coding set.open_below set.open_above (r ∷ s)) end c) (ends (images_by (option_map table_of table) (r ∷ s))) ≡ true
  all_written None r s k l e = ap (can_write_all (as_said (default_coding set.open_below set.open_above (r ∷ s)) end c)) (ends_are r s l.ranges) ∙ plain_writes r s k l e
  all_written (Some t) r s k l e =
      let lines = table_parts t.lines (k.fault t refl) in
      ranges_written (default_coding set.open_below set.open_above (r ∷ s)) end c (images_by (option_map table_of (Some t)) (r ∷ s)) (count (r ∷ s)) (k.sized t refl)
      (images_within (numbers c).0 (numbers c).1 t.lines lines.1 (r ∷ s) l.written)
      (images_counted (numbers c).0 (numbers c).1 t.lines lines.1 (r ∷ s) l.written l.ranges) (some_numbers r s)
    where
      some_numbers : (r : ℤ × ℤ) (s : Ranges) → 1 ≤ count (r ∷ s)
      some_numbers r s = omega arith

  table_good : (table : Option MapTable) (d : NumCoding) (left : Ranges) → IsInteger set table c end little → IsLeft set (through table (numbers c)) left → table_fine (as_said d end c) left (option_map table_of table) ≡ true
  table_good None d left k l = refl
  table_good (Some t) d left k l =
      let parts = table_parts t.lines (k.fault t refl) in
      let lines = map line_of t.lines in
      let images = flat_map (λ (r : ℤ × ℤ). flat_map (clipped r) lines) left in
      and_from (has_size (as_said d end c)) (list_all line_fine lines && (all_differ share lines && nat_eq (count images) (count left))) (size_said d end c (k.sized t refl))
      (and_from (list_all line_fine lines) (all_differ share lines && nat_eq (count images) (count left)) parts.0
      (and_from (all_differ share lines) (nat_eq (count images) (count left)) parts.1
      (eq-eqb (count images) (count left) (images_counted (numbers c).0 (numbers c).1 t.lines parts.1 left l.written l.ranges))))

  sign_good : (table : Option MapTable) (left : Ranges) → IsInteger set table c end little → IsLeft set (through table (numbers c)) left → is_signed_text (as_said (default_coding set.open_below set.open_above left) end c) ≡ true → begins_below_zero left ≡ true
  sign_good table left k l h =
      let signed = k.sign (signed_said (default_coding set.open_below set.open_above left) end c (default_unsigned set.open_below set.open_above left) h) in
      let p = and_parts (not set.open_below) (starts_negative (least set.numbers)) signed in
      l.sign (not-true set.open_below p.0) p.1

  unsigned : (r : Ranges) → set.open_below ≡ false → counts_signed (as_said (default_coding set.open_below set.open_above r) end c) ≡ false
  unsigned r h = counted_said (default_coding set.open_below set.open_above r) end c (ap (λ (b : Bool). counts_signed (default_coding b set.open_above r)) h ∙ counted_default set.open_above r)

  set_good : (table : Option MapTable) (r : ℤ × ℤ) (s : Ranges) → IsLeft set (through table (numbers c)) (r ∷ s) → HasEnds set r.0 (or_zero (greatest (r ∷ s)))
      → set_fine Integer (as_said (default_coding set.open_below set.open_above (r ∷ s)) end c) no_items (option_map table_of table) (r ∷ s) ≡ true
  set_good table r s l e =
      let k = as_said (default_coding set.open_below set.open_above (r ∷ s)) end c in
      and_from (are_ranges (r ∷ s)) (integer_set_fine k (ends (r ∷ s)) && leaves.no_items no_items) (in_order (r ∷ s) l.ranges)
      (and_from (integer_set_fine k (ends (r ∷ s))) (leaves.no_items no_items)
      (ap (integer_set_fine k) (ends_are r s l.ranges) ∙ set_below set k r.0 (or_zero (greatest (r ∷ s))) e (unsigned (r ∷ s))) refl)

  rules_left : (table : Option MapTable) (left : Ranges) → IsInteger set table c end little → IsLeft set (through table (numbers c)) left → Rules (leaf_from set table c end little left)
  rules_left table [] k l = let e = l.some in cc
  rules_left table (r ∷ s) k l =
      let d = default_coding set.open_below set.open_above (r ∷ s) in
      let e = ends_of set (through table (numbers c)) r s k.bounded l in
      record {
        kind = taken_said d end c (default_taken set.open_below set.open_above (r ∷ s));
        coding = fine_said d end c (default_fine set.open_below set.open_above (r ∷ s)) k.width k.ended;
        little = implied little (can_be_little (as_said d end c)) (λ h. little_said d end c (k.order h));
        sign = implied (is_signed_text (as_said d end c)) (begins_below_zero (r ∷ s)) (sign_good table (r ∷ s) k l);
        set = set_good table r s l e;
        integer = refl;
        table = table_good table d (r ∷ s) k l;
        values = refl;
        writes = all_written table r s k l e;
      }

  pub integer_rules : (table : Option MapTable) → IsInteger set table c end little → Rules (leaf_from set table c end little (left_of set (through table (numbers c))))
  integer_rules table k = rules_left table (left_of set (through table (numbers c))) k (left_is set (through table (numbers c)) k.bounded (can_ranges table c k.width) k.lost)
