-- The sizes of a string, a list or contained octets, and what says a size, are fine.
use Rattle.std.proofs.Common.{◌≡◌, ℕ, ◌^◌, ◌<◌, ◌≤◌, Bool, true, false, not, ◌&&◌, ◌||◌, [], ◌∷◌, length, Option, Some, None, refl, ap, subst, ◌∙◌, ℤ, pos, negsuc, min, arith}
use Rattle.std.specs.Prelude.{◌≤ℤ◌, nat_lt, nat_le, Result, Ok, Err, if◌then◌else◌}
use Rattle.std.specs.Ordering.{int_eq}
use Rattle.std.proofs.lemmas.Bool.{and_parts, and_from, lt-ltb, leb-true, not-false}
use Rattle.std.proofs.lemmas.Int.{ints}
use Rattle.acn_num.specs.Bits.{is_least_width}
use Rattle.acn_num.specs.Ranges.{Ranges, greatest, distance, are_ranges, all_within}
use Rattle.acn_num.specs.declared.limits.TheConstants.{MOST_SIZE}
use Rattle.acn_acn_syntax.specs.declared.modules.SizeAttr.{SizeAttr}
use Rattle.acn_acn_syntax.specs.declared.modules.SizeAttr.TheVariants as size
use Rattle.acn_asn_syntax.specs.Mirror.{AsnBase, boolean, null, integer, enumerated, octet_string, bit_string, ia5_string, sequence, sequence_of, sequence_size, choice, reference}
use Rattle.acn_codings.specs.Items.{or_zero}
use Rattle.acn_constraint.specs.Constraints.{Fault, size_of}
use Rattle.acn_grammar.specs.Interval.{size_of as number_of}
use Rattle.acn_grammar.specs.Leaves.{prefix_fine, rule_fine, sizes_fine, sizing_fine, list_rule_fine, list_fine}
use Rattle.acn_grammar.specs.Length.{ending}
use Rattle.acn_grammar.proofs.WholeTests.{eq_self}
use Rattle.acn_index.specs.World.{World}
use Rattle.acn_leaves.specs.Widths.{least_width}
use Rattle.acn_made.specs.Named.{Slots, determinant_by}
use Rattle.acn_made.specs.Sized.{in_front, said_by, ended_or, rule_at, sizing_at, list_sizing_at}
use Rattle.acn_reasons.specs.Classes.{class_of_base, class_of, is_sized, size_attr, is_ended}
use Rattle.acn_sites.specs.Sites.{Site, base_of}
use Rattle.acn_sites.specs.declared.attributes.AttrKind.TheVariants as kind
use Rattle.acn_written.specs.Ends.{ended_by, end_of}
use Rattle.acn_written.specs.Numbers.{Numbers, numbers_of_base, numbers_at}
use Rattle.acn_written.specs.Sizes.{if_sized, written_sizes, or_all, permitted, sizes_at}
use Rattle.acn_written.specs.Widths.{permits, one_size_fits, size_fits, bad_size}
use Rattle.acn_leaf_laws.proofs.Constrained.{AreFrom, sizes_from}
use Rattle.acn_leaf_laws.proofs.Patterns.{end_pattern}
use Rattle.acn_leaf_laws.proofs.Sets.{one_range, in_one, in_order, within, first_has, greatest_has, some_greatest}
use Rattle.acn_leaf_laws.proofs.Widths.{least_is}

-- ---- the permitted sizes

one_size : (n : ℕ) → nat_le n MOST_SIZE ≡ true → AreFrom (pos 0) (pos MOST_SIZE) ((pos n, pos n) ∷ [])
one_size n h =
    let few = leb-true n MOST_SIZE h in
    record {
      ranges = one_range (pos n) (pos n) (omega (arith, ints)) (omega (arith, ints)) (omega (arith, ints, few));
      some = refl;
      inside = λ x m. let i = in_one (pos n) (pos n) x m in let l = i.0 in let u = i.1 in (omega (arith, ints, l), omega (arith, ints, u, few));
    }

all_sizes : AreFrom (pos 0) (pos MOST_SIZE) ((pos 0, pos MOST_SIZE) ∷ [])
all_sizes = record { ranges = one_range (pos 0) (pos MOST_SIZE) (omega (arith, ints)) (omega (arith, ints)) (omega (arith, ints)); some = refl; inside = λ x m. in_one (pos 0) (pos MOST_SIZE) x m }

left_sizes : (written : Option Ranges) → ((t : Ranges) → written ≡ Some t → AreFrom (pos 0) (pos MOST_SIZE) t) → AreFrom (pos 0) (pos MOST_SIZE) (or_all written)
left_sizes None h = all_sizes
left_sizes (Some t) h = h t refl

permitted_sizes : (given : Option SizeAttr) (written : Option Ranges) → one_size_fits written given ≡ true → ((t : Ranges) → written ≡ Some t → AreFrom (pos 0) (pos MOST_SIZE) t) → AreFrom (pos 0) (pos MOST_SIZE) (permitted given written)
permitted_sizes None written fits h = left_sizes written h
permitted_sizes (Some (size.Number n)) written fits h = one_size n (and_parts (nat_le n MOST_SIZE) (permits written n) fits).0
permitted_sizes (Some (size.Path p)) written fits h = left_sizes written h
permitted_sizes (Some size.NullTerminated) written fits h = left_sizes written h

some_sized : (r : Result (Option Ranges) Fault) (t : Ranges) → if_sized r ≡ Some t → r ≡ Ok (Some t)
some_sized (Ok found) t h = ap (λ (o : Option Ranges). Ok o) h
some_sized (Err f) t h = cc

module _ (w : World) (s : Site) where
  sizes_written : (t : Ranges) → written_sizes w s ≡ Some t → AreFrom (pos 0) (pos MOST_SIZE) t
  unfolding written_sizes
  sizes_written t h = sizes_from w s.chain t (some_sized (size_of w s.chain) t h)

  no_numbers : (b : AsnBase) → is_sized (class_of_base b) ≡ true → numbers_of_base w s b ≡ None
  no_numbers boolean h = refl
  no_numbers null h = refl
  no_numbers (integer ns) h = cc
  no_numbers (enumerated items) h = cc
  no_numbers octet_string h = refl
  no_numbers bit_string h = refl
  no_numbers ia5_string h = refl
  no_numbers (sequence cs) h = refl
  no_numbers (sequence_of t) h = refl
  no_numbers (sequence_size c t) h = refl
  no_numbers (choice more) h = refl
  no_numbers (reference from name) h = refl

  size_fitting : is_sized (class_of s) ≡ true → bad_size w s ≡ false → one_size_fits (written_sizes w s) (size_attr s) ≡ true
  unfolding bad_size numbers_at
  size_fitting sized h =
      let fits : size_fits s (numbers_of_base w s (base_of s)) (written_sizes w s) ≡ true = not-false (size_fits s (numbers_of_base w s (base_of s)) (written_sizes w s)) h in
      let here : size_fits s None (written_sizes w s) ≡ true = subst (λ (o : Option Numbers). size_fits s o (written_sizes w s) ≡ true) (no_numbers (base_of s) sized) fits in
      subst (λ (b : Bool). (not b || one_size_fits (written_sizes w s) (size_attr s)) ≡ true) sized here

  pub sizes_are : is_sized (class_of s) ≡ true → bad_size w s ≡ false → AreFrom (pos 0) (pos MOST_SIZE) (sizes_at w s)
  unfolding sizes_at
  sizes_are sized h = permitted_sizes (size_attr s) (written_sizes w s) (size_fitting sized h) sizes_written

-- ---- their tests

some_ranges : (r : ℤ × ℤ) (s : Ranges) → nat_lt 0 (length (r ∷ s)) ≡ true
some_ranges r s = lt-ltb 0 (length (r ∷ s)) (omega arith)

pub sizes_good : (s : Ranges) → AreFrom (pos 0) (pos MOST_SIZE) s → sizes_fine s ≡ true
sizes_good [] f = let e = f.some in cc
sizes_good (r ∷ s) f =
    and_from (nat_lt 0 (length (r ∷ s))) (are_ranges (r ∷ s) && all_within (pos 0) (pos MOST_SIZE) (r ∷ s)) (some_ranges r s)
    (and_from (are_ranges (r ∷ s)) (all_within (pos 0) (pos MOST_SIZE) (r ∷ s)) (in_order (r ∷ s) f.ranges) (within (pos 0) (pos MOST_SIZE) (r ∷ s) f.ranges f.inside))

lesser : (n : ℕ) → n ≤ MOST_SIZE → min n MOST_SIZE ≡ n
lesser n h = omega (arith, h)

number_is : (x : ℤ) → pos 0 ≤ℤ x → x ≤ℤ pos MOST_SIZE → int_eq (pos (number_of (Some x))) x ≡ true
number_is (pos n) l h = ap (λ (m : ℕ). int_eq (pos m) (pos n)) (lesser n (omega (arith, ints, h))) ∙ eq_self (pos n)
number_is (negsuc n) l h = absurd (omega (arith, ints, l))

near : (low high : ℤ) → pos 0 ≤ℤ low → pos 0 ≤ℤ high → low ≤ℤ pos MOST_SIZE → high ≤ℤ pos MOST_SIZE → distance low high < 2 ^ 64
near low high a b c d = omega (arith, ints, a, b, c, d)

-- the size in front, as a range over the sizes
front_good : (s : Ranges) → AreFrom (pos 0) (pos MOST_SIZE) s → rule_fine s (in_front s) ≡ true
front_good [] f = let e = f.some in cc
front_good (r ∷ s) f =
    let g = or_zero (greatest (r ∷ s)) in
    let is = some_greatest r s in
    let low = f.inside r.0 (first_has r s f.ranges) in
    let high = f.inside g (greatest_has (r ∷ s) g f.ranges is) in
    ap (λ (o : Option ℤ). prefix_fine (number_of (Some r.0)) (least_width (distance r.0 g)) (Some r.0) o) is
    ∙ and_from (int_eq (pos (number_of (Some r.0))) r.0) (is_least_width (distance r.0 g) (least_width (distance r.0 g))) (number_is r.0 low.0 low.1)
    (least_is (distance r.0 g) (near r.0 g low.0 high.0 low.1 high.1))

pub said_good : (o : Option ℕ) (s : Ranges) → AreFrom (pos 0) (pos MOST_SIZE) s → rule_fine s (said_by o s) ≡ true
said_good None s f = front_good s f
said_good (Some slot) s f = refl

-- ---- strings, contained octets and lists

pub sizing_good : (w : World) (all : Slots) (s : Site) → is_sized (class_of s) ≡ true → bad_size w s ≡ false → sizing_fine (sizing_at w all s) ≡ true
sizing_good w all s sized h =
    let f = sizes_are w s sized h in
    and_from (sizes_fine (sizes_at w s)) (rule_fine (sizes_at w s) (rule_at w all s)) (sizes_good (sizes_at w s) f) (said_good (determinant_by kind.Size w all s) (sizes_at w s) f)

pub list_good : (w : World) (all : Slots) (s : Site) → is_sized (class_of s) ≡ true → bad_size w s ≡ false → list_fine (list_sizing_at w all s) ≡ true
list_good w all s sized h =
    let f = sizes_are w s sized h in
    and_from (sizes_fine (sizes_at w s)) (list_rule_fine (ending (ended_or (ended_by s) (rule_at w all s))) (list_sizing_at w all s)) (sizes_good (sizes_at w s) f)
    (by (is_ended (size_attr s)) f)
  where
    unended : (o : Option ℕ) → AreFrom (pos 0) (pos MOST_SIZE) (sizes_at w s) → list_rule_fine (ending (said_by o (sizes_at w s))) (record { sizes = sizes_at w s; rule = said_by o (sizes_at w s) }) ≡ true
    unended None f = front_good (sizes_at w s) f
    unended (Some slot) f = refl

    by : (t : Bool) → AreFrom (pos 0) (pos MOST_SIZE) (sizes_at w s) → list_rule_fine (ending (ended_or (if t then Some (end_of s) else None) (rule_at w all s))) (record { sizes = sizes_at w s; rule = ended_or (if t then Some (end_of s) else None) (rule_at w all s) }) ≡ true
    by true f = end_pattern s
    by false f = unended (determinant_by kind.Size w all s) f
