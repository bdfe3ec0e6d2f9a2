-- A leaf that keeps its rules has widths, ends and tables that fit.
use Rattle.std.proofs.Common.{◌≡◌, ℕ, zero, suc, ◌-◌, ◌*◌, ◌/◌, ◌%◌, ◌^◌, ◌<◌, ◌≤◌, ℤ, pos, ◌+ℤ◌, Bool, true, false, not, List, [], ◌∷◌, length, map, Option, Some, None, refl, sym, ap, ◌∙◌, subst, arith, nat_eq, nat_le, ◌&&◌, ◌||◌, IsTrue}
use Rattle.std.specs.Prelude.{◌-ℤ◌, ◌≤ℤ◌, ◌<ℤ◌, neg_ℤ, nat_lt, int_le, int_lt, if◌then◌else◌}
use Rattle.std.specs.List.{list_all}
use Rattle.std.specs.Ordering.{int_eq}
use Rattle.std.proofs.lemmas.Int.{ints}
use Rattle.std.proofs.lemmas.Bool.Decides.{nat_tests}
use Rattle.std.proofs.Math.Nat.{pow-le-pow_right, div-add-mod, mul-le-mul_left}
use native.Mathlib.Decide.{dec_lt}
use Rattle.acn_num.specs.Bits.{is_least_width}
use Rattle.acn_num.specs.Ranges.{distance, are_ranges, are_ranges_above, count, has, bottom, Above, AreRanges}
use Rattle.acn_grammar.specs.Images.{images_by, ends}
use Rattle.acn_grammar.specs.Leaves.{num_fine, takes, coding_fine, implies, can_be_little, from_to, is_terminator, is_pattern, begins_number, flag_patterns_fine, same_bits, has_size, table_fine, line_fine, all_differ, share, is_number, values_fine, set_fine, is_range, no_items, items_fine, integer_set_fine, can_write_all}
use Rattle.acn_grammar.specs.Spell.{octet_numbers}
use Rattle.acn_grammar.specs.declared.node.Items.{Items}
use Rattle.acn_grammar.specs.declared.node.NumCoding.{NumCoding}
use Rattle.acn_grammar.specs.declared.node.NumCoding.TheVariants.{Range, CountedFrom, CountedSigned, PosInt, Twos, Bcd, BcdEnded, Ascii, AsciiEnded, Flag, Fixed}
use Rattle.acn_grammar.specs.declared.node.NumKind.{NumKind}
use Rattle.acn_grammar.specs.declared.node.NumKind.TheVariants.{Integer, Boolean, Enumerated, Null}
use Rattle.acn_grammar.specs.declared.node.NumLeaf.{NumLeaf}
use Rattle.acn_grammar.specs.declared.node.Table.{Table}
use Rattle.acn_grammar.proofs.FineLeaves.{rules_of, implied}
use Rattle.acn_grammar.proofs.Within.{ends-has}
use Rattle.acn_grammar.proofs.LeafLengths.{some_ends, int_ends, is_plain, counted_kind}
use Rattle.acn_ints.specs.Limits.{IsNear, IsEnd, AreNear, IsNearTable, IsApartTable, ArePairsNear, PlainEnded, OrderFits, DigitsFit, SignedDigitsFit, EndFits, PatternsFit, CodingFits, LeafFits}
use Rattle.std.proofs.lemmas.Bool.{and_parts, not-true, eqb-true}
use Rattle.acn_grammar.proofs.WholeTests.{le_fact, lt_fact, eq_fact, either}

from_to_is : (low high n : ℕ) → from_to low high n ≡ true → (low ≤ n) × (n ≤ high)
from_to_is low high n h =
    let f = and_parts (nat_le low n) (nat_le n high) h in
    (le_is low n f.0, le_is n high f.1)
  where
    le_is : (a b : ℕ) → nat_le a b ≡ true → a ≤ b
    le_is a b h = grind (arith, nat_tests)

-- Widths and patterns.

order_fits : (n : ℕ) (little : Bool) → from_to 1 64 n ≡ true → implies little (nat_eq (n % 8) 0) ≡ true → OrderFits little n
order_fits n little h k =
    let r = from_to_is 1 64 n h in
    (r.0, r.1, λ e. eqb-true (n % 8) 0 (implied little (nat_eq (n % 8) 0) k e))

digits_fit : (size low high n : ℕ) → (from_to low high n && nat_eq (n % size) 0) ≡ true → 0 < size → size ≤ low → high ≤ size * 19 → DigitsFit size n
digits_fit size low high n h p l m =
    let f = and_parts (from_to low high n) (nat_eq (n % size) 0) h in
    let r = from_to_is low high n f.0 in
    let zero_rest = eqb-true (n % size) 0 f.1 in
    (n / size, whole size n p zero_rest, few size n p zero_rest (omega (arith, r.1, m)), some (n / size) (whole size n p zero_rest) (omega (arith, r.0, l)))
  where
    whole : (size n : ℕ) → 0 < size → n % size ≡ 0 → n ≡ size * (n / size)
    whole size n p e = let d = div-add-mod n size in omega (arith, d, e)

    some : (q : ℕ) → n ≡ size * q → size ≤ n → 1 ≤ q
    some zero e h = absurd (omega (arith, nothing size, e, h, p))
      where
        nothing : (s : ℕ) → s * zero ≡ 0
        nothing s = omega arith
    some (suc q) e h = omega arith

    few : (size n : ℕ) → 0 < size → n % size ≡ 0 → n ≤ size * 19 → n / size ≤ 19
    few size n p e h = below (n / size) (subst (λ (k : ℕ). k ≤ size * 19) (whole size n p e) h)
      where
        below : (q : ℕ) → size * q ≤ size * 19 → q ≤ 19
        below q h = elim (dec_lt 19 q) [ yes more ↦ let m = mul-le-mul_left {m = 20} {n = q} size (omega arith) in absurd (omega (arith, h, m, p)) | no fine ↦ omega arith ]

signed_fit : (n : ℕ) → (from_to 16 152 n && nat_eq (n % 8) 0) ≡ true → SignedDigitsFit n
signed_fit n h =
    let f = and_parts (from_to 16 152 n) (nat_eq (n % 8) 0) h in
    let r = from_to_is 16 152 n f.0 in
    (r.0, r.1, eqb-true (n % 8) 0 f.1)

end_fits : (end : List Bool) → is_terminator end ≡ true → EndFits end
end_fits end h =
    let f = and_parts (is_pattern end) (nat_eq (length end % 8) 0) h in
    let r = from_to_is 1 64 (length end) f.0 in
    let e = eqb-true (length end % 8) 0 f.1 in
    let some = r.0 in
    (omega (arith, e, some), r.1, e)

patterns_fit : (p q : Option (List Bool)) → flag_patterns_fine p q ≡ true → PatternsFit p q
patterns_fit None None h = tt
patterns_fit (Some p) None h = tt
patterns_fit None (Some q) h = tt
patterns_fit (Some p) (Some q) h =
    let a = and_parts (is_pattern p) (nat_eq (length p) (length q) && not (same_bits p q)) h in
    eqb-true (length p) (length q) (and_parts (nat_eq (length p) (length q)) (not (same_bits p q)) a.1).0

-- The ends of a range.

pub record Ends (e : ℤ × ℤ) : Type 0 where
  pub low : neg_ℤ (pos (2 ^ 63)) ≤ℤ e.0
  pub top : e.0 <ℤ pos (2 ^ 64)
  pub near : distance e.0 e.1 < 2 ^ 64

number_ends : (x : ℤ) → is_number x ≡ true → (neg_ℤ (pos (2 ^ 63)) ≤ℤ x) × (x <ℤ pos (2 ^ 64))
number_ends x h = let f = and_parts (int_le (neg_ℤ (pos (2 ^ 63))) x) (int_lt x (pos (2 ^ 64))) h in (le_fact _ _ f.0, lt_fact _ _ f.1)

one_range : (low high : ℤ) (set : List (ℤ × ℤ)) → is_range low high set ≡ true → ends set ≡ Some (low, high)
one_range low high (r ∷ []) h =
    let f = and_parts (int_eq r.0 low) (int_eq r.1 high) h in
    ap Some (pair_is r.0 r.1 low high (eq_fact r.0 low f.0) (eq_fact r.1 high f.1))
  where
    pair_is : (a b c d : ℤ) → a ≡ c → b ≡ d → ◌≡◌ {A = ℤ × ℤ} (a, b) (c, d)
    pair_is a b c d e f = cc
one_range low high [] h = cc
one_range low high (r ∷ s ∷ rs) h = cc

same_ends : (o : Option (ℤ × ℤ)) (a b : ℤ × ℤ) → o ≡ Some a → o ≡ Some b → a ≡ b
same_ends o a b h k = cc

ends_order : (set : List (ℤ × ℤ)) (e : ℤ × ℤ) → are_ranges set ≡ true → ends set ≡ Some e → e.0 ≤ℤ e.1
ends_order [] e h is = cc
ends_order (r ∷ rs) e h is =
    let f = and_parts (int_le r.0 r.1) (are_ranges_above (r.1 +ℤ pos 1) rs) h in
    let b = ends-has (r ∷ rs) r.0 e (here r.0 r.1 (has rs r.0) f.0) is in
    let low = b.0 in
    let high = b.1 in
    omega (arith, ints)
  where
    here : (a b : ℤ) (more : Bool) → int_le a b ≡ true → ((int_le a a && int_le a b) || more) ≡ true
    here a b more h = let same : int_le a a ≡ true = grind (arith, ints, nat_tests) in rw (same, h)

-- the ends of a set whose numbers are written as they are
plain_ends : (kind : NumKind) (low : ℤ) (width : ℕ) (items : Items) (table : Option Table) (set : List (ℤ × ℤ)) (e : ℤ × ℤ) → takes kind (Range low width) ≡ true → set_fine kind (Range low width) items table set ≡ true → length items.items < 2 ^ 64 → ends set ≡ Some e → Ends e
plain_ends Integer low width items table set e t s few is =
    let a = and_parts (are_ranges set) (integer_set_fine (Range low width) (ends set) && no_items items) s in
    let b = and_parts (integer_set_fine (Range low width) (ends set)) (no_items items) a.1 in
    let f = int_ends (Range low width) (ends set) b.0 in
    let same : f.0 ≡ e = same_ends (ends set) f.0 e f.1 is in
    let order = ends_order set e a.0 is in
    subst Ends same (either {F = Ends f.0} (int_lt f.0.1 (pos (2 ^ 63))) (int_le (pos 0) f.0.0 && int_lt f.0.1 (pos (2 ^ 64))) f.3
    (λ h. let low' = le_fact _ _ f.2 in let high = lt_fact _ _ h in let o = ordered f.0 same order in record { low = low'; top = omega (arith, ints, high, o); near = far f.0.0 f.0.1 low' high o })
    (λ h. let k = and_parts (int_le (pos 0) f.0.0) (int_lt f.0.1 (pos (2 ^ 64))) h in let zero_low = le_fact _ _ k.0 in let high = lt_fact _ _ k.1 in let o = ordered f.0 same order in record { low = omega (arith, ints, zero_low); top = omega (arith, ints, high, o); near = close f.0.0 f.0.1 zero_low high o }))
  where
    ordered : (f : ℤ × ℤ) → f ≡ e → e.0 ≤ℤ e.1 → f.0 ≤ℤ f.1
    ordered f same order = subst (λ (z : ℤ × ℤ). z.0 ≤ℤ z.1) (sym same) order

    far : (a b : ℤ) → neg_ℤ (pos (2 ^ 63)) ≤ℤ a → b <ℤ pos (2 ^ 63) → a ≤ℤ b → distance a b < 2 ^ 64
    far a b h k o = omega (arith, ints)

    close : (a b : ℤ) → pos 0 ≤ℤ a → b <ℤ pos (2 ^ 64) → a ≤ℤ b → distance a b < 2 ^ 64
    close a b h k o = omega (arith, ints)
plain_ends Boolean low width items table set e t s few is = cc
plain_ends Enumerated low width items table set e t s few is =
    let a = and_parts (nat_lt 0 (length items.items)) (is_range (pos 0) (pos (length items.items - 1)) set && items_fine (Range low width) items) s in
    let b = and_parts (is_range (pos 0) (pos (length items.items - 1)) set) (items_fine (Range low width) items) a.1 in
    let same = same_ends (ends set) (pos 0, pos (length items.items - 1)) e (one_range (pos 0) (pos (length items.items - 1)) set b.0) is in
    subst Ends same (record { low = omega (arith, ints); top = omega (arith, ints); near = span (length items.items) few })
  where
    span : (n : ℕ) → n < 2 ^ 64 → distance (pos 0) (pos (n - 1)) < 2 ^ 64
    span n h = omega (arith, ints)
plain_ends Null low width items table set e t s few is =
    let b = and_parts (is_range (pos 0) (pos 0) set) (no_items items) s in
    let same = same_ends (ends set) (pos 0, pos 0) e (one_range (pos 0) (pos 0) set b.0) is in
    subst Ends same (record { low = omega (arith, ints); top = omega (arith, ints); near = omega (arith, ints) })

width_small : (d width : ℕ) → is_least_width d width ≡ true → d < 2 ^ 64 → width ≤ 64
width_small d width h few =
    let f = and_parts (nat_lt d (2 ^ width)) (nat_eq width 0 || nat_le (2 ^ (width - 1)) d) h in
    either {F = width ≤ 64} (nat_eq width 0) (nat_le (2 ^ (width - 1)) d) f.1
    (λ z. let e = eqb-true width 0 z in omega arith)
    (λ l. elim (dec_lt 64 width) [ yes more ↦ let low = le_is (2 ^ (width - 1)) d l in let m = pow-le-pow_right {n = 2} (omega arith) {i = 64} {j = width - 1} (omega arith) in absurd (omega (arith, low, m, few)) | no fine ↦ omega arith ])
  where
    le_is : (a b : ℕ) → nat_le a b ≡ true → a ≤ b
    le_is a b h = grind (arith, nat_tests)

ends_by : (b : Bool) (low : ℤ) (width : ℕ) (items images : List (ℤ × ℤ)) (e : ℤ × ℤ) → values_fine b (Range low width) (ends (if b then items else images)) ≡ true → ends (if b then items else images) ≡ Some e → (b ≡ false → ends images ≡ Some e → Ends e) → Ends e
ends_by true low width items images e h is f =
    let v : values_fine true (Range low width) (Some e) ≡ true = subst (λ (o : Option (ℤ × ℤ)). values_fine true (Range low width) o ≡ true) is h in
    let a = and_parts (is_number e.0) (is_number e.1 && nat_lt (distance e.0 e.1) (2 ^ 64)) v in
    let b = and_parts (is_number e.1) (nat_lt (distance e.0 e.1) (2 ^ 64)) a.1 in
    let n = number_ends e.0 a.0 in
    record { low = n.0; top = n.1; near = lt_is (distance e.0 e.1) (2 ^ 64) b.1 }
  where
    lt_is : (a b : ℕ) → nat_lt a b ≡ true → a < b
    lt_is a b h = grind (arith, nat_tests)
ends_by false low width items images e h is f = f refl is

plain_images : (low : ℤ) (width : ℕ) (table : Option Table) (set : List (ℤ × ℤ)) → table_fine (Range low width) set table ≡ true → images_by table set ≡ set
plain_images low width None set h = refl
plain_images low width (Some table) set h =
    let a = and_parts (has_size (Range low width)) (list_all line_fine table.lines && (all_differ share table.lines && nat_eq (count (images_by (Some table) set)) (count set))) h in
    let w = a.0 in
    cc

pub range_ends : (kind : NumKind) (low : ℤ) (width : ℕ) (items : Items) (table : Option Table) (set : List (ℤ × ℤ)) (e : ℤ × ℤ) → takes kind (Range low width) ≡ true → set_fine kind (Range low width) items table set ≡ true → table_fine (Range low width) set table ≡ true
    → values_fine items.values (Range low width) (ends (if items.values then map (λ named. (named.1, named.1)) items.items else images_by table set)) ≡ true
    → ends (if items.values then map (λ named. (named.1, named.1)) items.items else images_by table set) ≡ Some e → length items.items < 2 ^ 64 → Ends e
range_ends kind low width items table set e t s f v is few =
    ends_by items.values low width (map (λ named. (named.1, named.1)) items.items) (images_by table set) e v is
    (λ _ images. plain_ends kind low width items table set e t s few (ap ends (sym (plain_images low width table set f)) ∙ images))

range_fits : (kind : NumKind) (low : ℤ) (width : ℕ) (items : Items) (table : Option Table) (set : List (ℤ × ℤ)) → takes kind (Range low width) ≡ true → set_fine kind (Range low width) items table set ≡ true → table_fine (Range low width) set table ≡ true
    → values_fine items.values (Range low width) (ends (if items.values then map (λ named. (named.1, named.1)) items.items else images_by table set)) ≡ true
    → can_write_all (Range low width) (ends (if items.values then map (λ named. (named.1, named.1)) items.items else images_by table set)) ≡ true → length items.items < 2 ^ 64 → IsEnd low × (width ≤ 64)
range_fits kind low width items table set t s f v w few =
    let g = some_ends (Range low width) (ends (if items.values then map (λ named. (named.1, named.1)) items.items else images_by table set)) w in
    let e = range_ends kind low width items table set g.0 t s f v g.1 few in
    let c = and_parts (int_eq low g.0.0) (is_least_width (distance g.0.0 g.0.1) width) g.2 in
    let same = eq_fact low g.0.0 c.0 in
    let a = e.low in
    let b = e.top in
    ((omega (arith, ints, same, a), omega (arith, ints, same, b)), width_small (distance g.0.0 g.0.1) width c.1 e.near)

counted_fits : (kind : NumKind) (low : ℤ) (items : Items) (table : Option Table) (set : List (ℤ × ℤ)) → takes kind (CountedFrom low) ≡ true → set_fine kind (CountedFrom low) items table set ≡ true → table_fine (CountedFrom low) set table ≡ true
    → can_write_all (CountedFrom low) (ends (if items.values then map (λ named. (named.1, named.1)) items.items else images_by table set)) ≡ true → IsEnd low
counted_fits kind low items table set t s f w =
    let p = is_plain kind (CountedFrom low) items table set (counted_kind kind (CountedFrom low) t refl refl refl) refl s f in
    let e = int_ends (CountedFrom low) (ends set) p.2 in
    let all : ends (if items.values then map (λ named. (named.1, named.1)) items.items else images_by table set) ≡ ends set = rw (p.0, p.1) in
    let v = some_ends (CountedFrom low) (ends (if items.values then map (λ named. (named.1, named.1)) items.items else images_by table set)) w in
    let pair : v.0 ≡ e.0 = same_ends (ends set) v.0 e.0 (sym all ∙ v.1) e.1 in
    let first : low ≡ e.0.0 = eq_fact low v.0.0 v.2 ∙ ap (λ z. z.0) pair in
    let order = ends_of_plain (CountedFrom low) kind items table set e.0 s (counted_kind kind (CountedFrom low) t refl refl refl) e.1 in
    let a = le_fact (neg_ℤ (pos (2 ^ 63))) e.0.0 e.2 in
    let b = below_end e.0 e.3 order in
    (omega (arith, ints, first, a), omega (arith, ints, first, b))
  where
    ends_of_plain : (coding : NumCoding) (kind : NumKind) (items : Items) (table : Option Table) (set : List (ℤ × ℤ)) (e : ℤ × ℤ) → set_fine kind coding items table set ≡ true → kind ≡ Integer → ends set ≡ Some e → e.0 ≤ℤ e.1
    ends_of_plain coding Integer items table set e s k is = ends_order set e (and_parts (are_ranges set) (integer_set_fine coding (ends set) && no_items items) s).0 is
    ends_of_plain coding Boolean items table set e s k is = cc
    ends_of_plain coding Enumerated items table set e s k is = cc
    ends_of_plain coding Null items table set e s k is = cc

    below_end : (e : ℤ × ℤ) → (int_lt e.1 (pos (2 ^ 63)) || (int_le (pos 0) e.0 && int_lt e.1 (pos (2 ^ 64)))) ≡ true → e.0 ≤ℤ e.1 → e.0 <ℤ pos (2 ^ 64)
    below_end e h o = either {F = e.0 <ℤ pos (2 ^ 64)} (int_lt e.1 (pos (2 ^ 63))) (int_le (pos 0) e.0 && int_lt e.1 (pos (2 ^ 64))) h
        (λ x. let y = lt_fact e.1 (pos (2 ^ 63)) x in omega (arith, ints, y, o))
        (λ x. let y = lt_fact e.1 (pos (2 ^ 64)) (and_parts (int_le (pos 0) e.0) (int_lt e.1 (pos (2 ^ 64))) x).1 in omega (arith, ints, y, o))

-- Tables.

line_near : (line : ℤ × ℤ × ℤ) → line_fine line ≡ true → IsNear line.0 × IsNear line.1 × IsNear line.2
line_near line h =
    let a = and_parts (int_le line.0 line.1) (is_number line.0 && (is_number line.1 && (is_number line.2 && is_number (line.2 +ℤ (line.1 -ℤ line.0))))) h in
    let b = and_parts (is_number line.0) (is_number line.1 && (is_number line.2 && is_number (line.2 +ℤ (line.1 -ℤ line.0)))) a.1 in
    let c = and_parts (is_number line.1) (is_number line.2 && is_number (line.2 +ℤ (line.1 -ℤ line.0))) b.1 in
    let d = and_parts (is_number line.2) (is_number (line.2 +ℤ (line.1 -ℤ line.0))) c.1 in
    (near line.0 b.0, near line.1 c.0, near line.2 d.0)
  where
    near : (x : ℤ) → is_number x ≡ true → IsNear x
    near x h = let n = number_ends x h in let a = n.0 in let b = n.1 in (omega (arith, ints, a), omega (arith, ints, b))

lines_near : (lines : List (ℤ × ℤ × ℤ)) → list_all line_fine lines ≡ true → AreNear lines
lines_near [] h i d inside = absurd (omega arith)
lines_near (line ∷ lines) h zero d inside = line_near line (and_parts (line_fine line) (list_all line_fine lines) h).0
lines_near (line ∷ lines) h (suc i) d inside = lines_near lines (and_parts (line_fine line) (list_all line_fine lines) h).1 i d (omega arith)

table_near : (coding : NumCoding) (set : List (ℤ × ℤ)) (table : Option Table) → table_fine coding set table ≡ true → IsNearTable table
table_near coding set None h = tt
table_near coding set (Some table) h =
    let a = and_parts (has_size coding) (list_all line_fine table.lines && (all_differ share table.lines && nat_eq (count (images_by (Some table) set)) (count set))) h in
    lines_near table.lines (and_parts (list_all line_fine table.lines) (all_differ share table.lines && nat_eq (count (images_by (Some table) set)) (count set)) a.1).0

table_apart : (coding : NumCoding) (set : List (ℤ × ℤ)) (table : Option Table) → table_fine coding set table ≡ true → IsApartTable table
table_apart coding set None h = tt
table_apart coding set (Some table) h =
    let a = and_parts (has_size coding) (list_all line_fine table.lines && (all_differ share table.lines && nat_eq (count (images_by (Some table) set)) (count set))) h in
    let b = and_parts (list_all line_fine table.lines) (all_differ share table.lines && nat_eq (count (images_by (Some table) set)) (count set)) a.1 in
    (and_parts (all_differ share table.lines) (nat_eq (count (images_by (Some table) set)) (count set)) b.1).0

-- A leaf's coding.

coding_fits : (coding : NumCoding) (little : Bool) (kind : NumKind) (items : Items) (table : Option Table) (set : List (ℤ × ℤ)) → takes kind coding ≡ true → coding_fine coding ≡ true → implies little (can_be_little coding) ≡ true → set_fine kind coding items table set ≡ true → table_fine coding set table ≡ true
    → values_fine items.values coding (ends (if items.values then map (λ named. (named.1, named.1)) items.items else images_by table set)) ≡ true
    → can_write_all coding (ends (if items.values then map (λ named. (named.1, named.1)) items.items else images_by table set)) ≡ true → length items.items < 2 ^ 64 → CodingFits coding little
coding_fits (Range low width) little kind items table set t c o s f v w few = range_fits kind low width items table set t s f v w few
coding_fits (CountedFrom low) little kind items table set t c o s f v w few = counted_fits kind low items table set t s f w
coding_fits CountedSigned little kind items table set t c o s f v w few = tt
coding_fits (PosInt n) little kind items table set t c o s f v w few = order_fits n little c o
coding_fits (Twos n) little kind items table set t c o s f v w few = order_fits n little c o
coding_fits (Bcd n) little kind items table set t c o s f v w few = digits_fit 4 4 76 n c (omega arith) (omega arith) (omega arith)
coding_fits BcdEnded little kind items table set t c o s f v w few = tt
coding_fits (Ascii n false) little kind items table set t c o s f v w few = digits_fit 8 8 152 n c (omega arith) (omega arith) (omega arith)
coding_fits (Ascii n true) little kind items table set t c o s f v w few = signed_fit n c
coding_fits (AsciiEnded end signed) little kind items table set t c o s f v w few = end_fits end (and_parts (is_terminator end) (not (begins_number (octet_numbers end))) c).0
coding_fits (Flag p q) little kind items table set t c o s f v w few = patterns_fit p q c
coding_fits (Fixed pattern) little kind items table set t c o s f v w few = tt

-- an ended number is an INTEGER, which has no items
integer_values : (coding : NumCoding) (kind : NumKind) (items : Items) (table : Option Table) (set : List (ℤ × ℤ)) → kind ≡ Integer → set_fine kind coding items table set ≡ true → items.values ≡ false
integer_values coding Integer items table set k s =
    let a = and_parts (are_ranges set) (integer_set_fine coding (ends set) && no_items items) s in
    let b = and_parts (integer_set_fine coding (ends set)) (no_items items) a.1 in
    not-true items.values (and_parts (nat_eq (length items.items) 0) (not items.values) b.1).1
integer_values coding Boolean items table set k s = cc
integer_values coding Enumerated items table set k s = cc
integer_values coding Null items table set k s = cc

plain_ended : (coding : NumCoding) (kind : NumKind) (items : Items) (table : Option Table) (set : List (ℤ × ℤ)) → takes kind coding ≡ true → set_fine kind coding items table set ≡ true → PlainEnded coding items.values
plain_ended BcdEnded kind items table set t s = integer_values BcdEnded kind items table set (counted_kind kind BcdEnded t refl refl refl) s
plain_ended (AsciiEnded end signed) kind items table set t s = integer_values (AsciiEnded end signed) kind items table set (counted_kind kind (AsciiEnded end signed) t refl refl refl) s
plain_ended (Range low width) kind items table set t s = tt
plain_ended (CountedFrom low) kind items table set t s = tt
plain_ended CountedSigned kind items table set t s = tt
plain_ended (PosInt n) kind items table set t s = tt
plain_ended (Twos n) kind items table set t s = tt
plain_ended (Bcd n) kind items table set t s = tt
plain_ended (Ascii n signed) kind items table set t s = tt
plain_ended (Flag p q) kind items table set t s = tt
plain_ended (Fixed pattern) kind items table set t s = tt

-- The ranges of a set lie in its ends.

pairs_near : (b : ℤ) (rs : List (ℤ × ℤ)) → (bottom -ℤ pos 1) ≤ℤ b → Above b rs → ArePairsNear rs
pairs_near b [] low h i d inside = absurd (omega arith)
pairs_near b (r ∷ rs) low h zero d inside =
    let first = h.0 in
    let order = h.1 in
    let high = h.2 in
    ((omega (arith, ints, low, first), omega (arith, ints, order, high)), (omega (arith, ints, low, first, order), omega (arith, ints, high)))
pairs_near b (r ∷ rs) low h (suc i) d inside =
    let first = h.0 in
    let order = h.1 in
    pairs_near (r.1 +ℤ pos 1) rs (omega (arith, ints, low, first, order)) h.3 i d (omega arith)

pub ranges_near : (rs : List (ℤ × ℤ)) → AreRanges rs → ArePairsNear rs
ranges_near rs h = pairs_near (bottom -ℤ pos 1) rs (omega (arith, ints)) h

pub leaf_fits : (leaf : NumLeaf) → IsTrue (num_fine leaf) → length leaf.items.items < 2 ^ 64 → LeafFits leaf
leaf_fits leaf h few =
    let r = rules_of leaf h in
    record {
      coding = coding_fits leaf.coding leaf.little leaf.kind leaf.items leaf.table leaf.set r.kind r.coding r.little r.set r.table r.values r.writes few;
      table = table_near leaf.coding leaf.set leaf.table r.table;
      apart = table_apart leaf.coding leaf.set leaf.table r.table;
      plain = plain_ended leaf.coding leaf.kind leaf.items leaf.table leaf.set r.kind r.set;
    }
