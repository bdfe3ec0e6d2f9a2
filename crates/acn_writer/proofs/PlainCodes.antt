-- Codes of numbers that are one subtraction, or a pattern.
use Rattle.std.proofs.Common.{◌≡◌, ℕ, ◌+◌, ◌-◌, ◌^◌, ◌<◌, ◌≤◌, ℤ, pos, ◌+ℤ◌, ◌-ℤ◌, ◌≤ℤ◌, ◌<ℤ◌, Bool, true, List, [], ◌∷◌, length, refl, sym, ◌∙◌, subst, arith, Option, Some, None, IfSome, IsTrue, to_z, of_z, nat_abs, nat_eq, nat_le, ◌&&◌, ◌||◌}
use Rattle.std.specs.Prelude.{nat_lt, int_le, int_lt}
use Rattle.std.specs.Int.{w128}
use Rattle.std.specs.Ordering.{int_eq}
use Rattle.std.proofs.lemmas.Bool.{and_parts}
use Rattle.std.proofs.lemmas.Bool.Decides.{nat_tests}
use Rattle.std.proofs.lemmas.Int.{ints}
use Rattle.std.proofs.Math.Nat.{pow-le-pow_right}
use Rattle.acn_num.specs.Bits.{IsNumber, is_least_width, low_bits, number}
use Rattle.acn_num.specs.Ranges.{AreRanges, In, bottom, distance, has, top}
use Rattle.acn_num.proofs.BitLists.{length-low_bits}
use Rattle.acn_bits.specs.Writing.{Puts, Writes, place_of}
use Rattle.acn_bits.specs.declared.write_cursor.WriteCursor.{WriteCursor}
use Rattle.acn_grammar.specs.Code.{Code, Written, image_of}
use Rattle.acn_grammar.specs.Images.{images_of, written_ends}
use Rattle.acn_grammar.specs.Leaves.{can_write, is_range, no_items, num_fine, set_fine, takes}
use Rattle.acn_grammar.specs.Length.{num_length}
use Rattle.acn_grammar.specs.declared.node.Items.{Items}
use Rattle.acn_grammar.specs.declared.node.NumCoding.{NumCoding}
use Rattle.acn_grammar.specs.declared.node.NumCoding.TheVariants.{Range, CountedFrom, CountedSigned, PosInt, Twos, Bcd, BcdEnded, Ascii, AsciiEnded, Flag, Fixed}
use Rattle.acn_grammar.specs.declared.node.NumKind.{NumKind}
use Rattle.acn_grammar.specs.declared.node.NumKind.TheVariants.{Integer, Boolean, Enumerated, Null}
use Rattle.acn_grammar.specs.declared.node.NumLeaf.{NumLeaf}
use Rattle.acn_grammar.specs.declared.node.Table.{Table}
use Rattle.acn_grammar.proofs.Counts.{number_bits}
use Rattle.acn_grammar.proofs.FineLeaves.{rules_of}
use Rattle.acn_grammar.proofs.HasImage.{range_within}
use Rattle.acn_grammar.proofs.LeafLengths.{code-length, some_ends}
use Rattle.acn_grammar.proofs.Within.{ends-has, image_has}
use Rattle.acn_grammar.proofs.WholeTests.{le_fact, lt_fact, eq_fact}
use Rattle.acn_ints.specs.Limits.{IsNear}
use Rattle.acn_ints.specs.Pieces.{IsBits}
use Rattle.acn_ints.proofs.PieceLemmas.{bits_low}
use Rattle.acn_writer.specs.Plain.{CanCount, IsAhead, IsBounded, IsCounted, IsOffset, IsPlain, IsPlainCode}
use Rattle.acn_writer.specs.declared.plain.PlainCode.{PlainCode}

-- a number of the one range is permitted
pub inside : (low high x : ℤ) (set : List (ℤ × ℤ)) → set ≡ (low, high) ∷ [] → low ≤ℤ x → x ≤ℤ high → In set x
inside low high x set e a b = rw e (grind (arith, ints))

pub bounded : (low high x : ℤ) (set : List (ℤ × ℤ)) → set ≡ (low, high) ∷ [] → AreRanges set → low ≤ℤ x → x ≤ℤ high → IsBounded x
bounded low high x set e are a b =
    let r = rw e at are in
    let first = r.0 in
    let last = r.2 in
    (omega (arith, ints), omega (arith, ints))

-- without a table a number is written itself
itself : (leaf : NumLeaf) (x : ℤ) → IsPlain leaf → image_of leaf x ≡ Some x
itself leaf x p = rw (p.values, p.table) refl

-- What is known of a permitted number that is written itself.

offset_from : (low y : ℤ) → low ≤ℤ y → y ≡ low +ℤ pos (nat_abs (y -ℤ low))
offset_from low y h = omega (arith, ints)

range_ahead : (low : ℤ) (width : ℕ) (e : ℤ × ℤ) (y : ℤ) → (int_eq low e.0 && is_least_width (distance e.0 e.1) width) ≡ true → e.0 ≤ℤ y → y ≤ℤ e.1 → IsAhead low y width
range_ahead low width e y h a b =
    let f = and_parts (int_eq low e.0) (is_least_width (distance e.0 e.1) width) h in
    let same = eq_fact low e.0 f.0 in
    let g = and_parts (nat_lt (distance e.0 e.1) (2 ^ width)) (nat_eq width 0 || nat_le (2 ^ (width - 1)) (distance e.0 e.1)) f.1 in
    let fits = lt_is (distance e.0 e.1) (2 ^ width) g.0 in
    let above : low ≤ℤ y = omega (arith, ints, same, a) in
    (nat_abs (y -ℤ low), offset_from low y above, near low e.0 e.1 y (2 ^ width) same a b fits)
  where
    lt_is : (a b : ℕ) → nat_lt a b ≡ true → a < b
    lt_is a b h = grind (arith, nat_tests)

    near : (low a b y : ℤ) (w : ℕ) → low ≡ a → a ≤ℤ y → y ≤ℤ b → distance a b < w → nat_abs (y -ℤ low) < w
    near low a b y w e h k m = omega (arith, ints)

unsigned_ahead : (n : ℕ) (e : ℤ × ℤ) (y : ℤ) → (int_le (pos 0) e.0 && int_lt e.1 (pos (2 ^ n))) ≡ true → e.0 ≤ℤ y → y ≤ℤ e.1 → IsAhead (pos 0) y n
unsigned_ahead n e y h a b =
    let f = and_parts (int_le (pos 0) e.0) (int_lt e.1 (pos (2 ^ n))) h in
    let low = le_fact (pos 0) e.0 f.0 in
    let high = lt_fact e.1 (pos (2 ^ n)) f.1 in
    let some : pos 0 ≤ℤ y = omega (arith, ints, low, a) in
    (nat_abs (y -ℤ pos 0), offset_from (pos 0) y some, below y (2 ^ n) some (omega (arith, ints, high, b)))
  where
    below : (y : ℤ) (n : ℕ) → pos 0 ≤ℤ y → y <ℤ pos n → nat_abs (y -ℤ pos 0) < n
    below y n h k = omega (arith, ints)

truth_ahead : (kind : NumKind) (p q : Option (List Bool)) (items : Items) (table : Option Table) (set : List (ℤ × ℤ)) (x : ℤ) → takes kind (Flag p q) ≡ true → set_fine kind (Flag p q) items table set ≡ true → has set x ≡ true → IsAhead (pos 0) x 1
truth_ahead Boolean p q items table set x t s h =
    let a = and_parts (is_range (pos 0) (pos 1) set) (no_items items) s in
    let r = range_within (pos 0) (pos 1) set x a.0 h in
    let low = r.0 in
    let high = r.1 in
    (nat_abs (x -ℤ pos 0), offset_from (pos 0) x low, few x low high)
  where
    few : (x : ℤ) → pos 0 ≤ℤ x → x ≤ℤ pos 1 → nat_abs (x -ℤ pos 0) < 2
    few x a b = omega (arith, ints)
truth_ahead Integer p q items table set x t s h = cc
truth_ahead Enumerated p q items table set x t s h = cc
truth_ahead Null p q items table set x t s h = cc

null_is : (kind : NumKind) (pattern : List Bool) (items : Items) (table : Option Table) (set : List (ℤ × ℤ)) (x : ℤ) → takes kind (Fixed pattern) ≡ true → set_fine kind (Fixed pattern) items table set ≡ true → has set x ≡ true → x ≡ pos 0
null_is Null pattern items table set x t s h =
    let a = and_parts (is_range (pos 0) (pos 0) set) (no_items items) s in
    let r = range_within (pos 0) (pos 0) set x a.0 h in
    let low = r.0 in
    let high = r.1 in
    omega (arith, ints, low, high)
null_is Integer pattern items table set x t s h = cc
null_is Boolean pattern items table set x t s h = cc
null_is Enumerated pattern items table set x t s h = cc

count_by : (coding : NumCoding) (kind : NumKind) (items : Items) (table : Option Table) (set : List (ℤ × ℤ)) (e : ℤ × ℤ) (x : ℤ) → takes kind coding ≡ true → set_fine kind coding items table set ≡ true → can_write coding e ≡ true → e.0 ≤ℤ x → x ≤ℤ e.1 → has set x ≡ true → CanCount coding x
count_by (Range low width) kind items table set e x t s w a b h = range_ahead low width e x w a b
count_by (PosInt n) kind items table set e x t s w a b h = unsigned_ahead n e x w a b
count_by (Flag p q) kind items table set e x t s w a b h = truth_ahead kind p q items table set x t s h
count_by (CountedFrom low) kind items table set e x t s w a b h = tt
count_by CountedSigned kind items table set e x t s w a b h = tt
count_by (Twos n) kind items table set e x t s w a b h = tt
count_by (Bcd n) kind items table set e x t s w a b h = tt
count_by BcdEnded kind items table set e x t s w a b h = tt
count_by (Ascii n signed) kind items table set e x t s w a b h = tt
count_by (AsciiEnded end signed) kind items table set e x t s w a b h = tt
count_by (Fixed pattern) kind items table set e x t s w a b h = null_is kind pattern items table set x t s h

pub can_count : (leaf : NumLeaf) (x : ℤ) → IsTrue (num_fine leaf) → In leaf.set x → IsPlain leaf → CanCount leaf.coding x
can_count leaf x fine p plain =
    let r = rules_of leaf fine in
    let v = some_ends leaf.coding (written_ends leaf) r.writes in
    let within = ends-has (images_of leaf) x v.0 (image_has leaf x x p (itself leaf x plain)) v.1 in
    count_by leaf.coding leaf.kind leaf.items leaf.table leaf.set v.0 x r.kind r.set v.2 within.0 within.1 p

can_as : (coding other : NumCoding) (x : ℤ) → coding ≡ other → CanCount coding x → CanCount other x
can_as coding other x e h = subst (λ (c : NumCoding). CanCount c x) e h

pub can_range : (coding : NumCoding) (low x : ℤ) (width : ℕ) → coding ≡ Range low width → CanCount coding x → IsAhead low x width
can_range coding low x width e h = can_as coding (Range low width) x e h

pub can_unsigned : (coding : NumCoding) (x : ℤ) (width : ℕ) → coding ≡ PosInt width → CanCount coding x → IsAhead (pos 0) x width
can_unsigned coding x width e h = can_as coding (PosInt width) x e h

pub can_truth : (coding : NumCoding) (x : ℤ) (ones zeros : Option (List Bool)) → coding ≡ Flag ones zeros → CanCount coding x → IsAhead (pos 0) x 1
can_truth coding x ones zeros e h = can_as coding (Flag ones zeros) x e h

-- How far a number is from the least one.

pub low_near : (low x : ℤ) (width : ℕ) → width ≤ 64 → IsBounded x → IsAhead low x width → IsNear low
low_near low x width few b a =
    let wide : 2 ^ width ≤ 2 ^ 64 = pow-le-pow_right {n = 2} (omega arith) {i = width} {j = 64} few in
    by low x a.0 (omega (arith, a.2, wide)) a.1 b.0 b.1
  where
    by : (low x : ℤ) (k : ℕ) → k < 2 ^ 64 → x ≡ low +ℤ pos k → bottom ≤ℤ x → x ≤ℤ top → IsNear low
    by low x k fits is first last = (omega (arith, ints), omega (arith, ints))

pub offset_made : (low x : ℤ) (width : ℕ) → width ≤ 64 → IsNear low → (a : IsAhead low x width) → IsOffset low x width width (nat_abs (to_z w128 (of_z w128 (to_z w128 (of_z w128 x) -ℤ to_z w128 (of_z w128 low)))))
offset_made low x width few near a =
    let wide : 2 ^ width ≤ 2 ^ 64 = pow-le-pow_right {n = 2} (omega arith) {i = width} {j = 64} few in
    let v = value low x a.0 near (omega (arith, a.2, wide)) a.1 in
    subst (λ (m : ℕ). IsOffset low x width width m) (sym v) (record { same = refl; few = few; fits = a.2; is = a.1 })
  where
    value : (low y : ℤ) (k : ℕ) → IsNear low → k < 2 ^ 64 → y ≡ low +ℤ pos k → nat_abs (to_z w128 (of_z w128 (to_z w128 (of_z w128 y) -ℤ to_z w128 (of_z w128 low)))) ≡ k
    value low y k near fits is = rw is (omega (arith, ints))

-- The codes.

pub range_code : (coding : NumCoding) (o : Option PlainCode) (low x : ℤ) (width : ℕ) → coding ≡ Range low width → IfSome o (λ code. IsOffset low x width code.width code.value) → IfSome o (λ code. IsCounted coding x code.width code.value)
range_code coding None low x width e h = tt
range_code coding (Some code) low x width e h =
    let same = h.same in
    record { few = h.few; fits = h.fits; spells = rw (e, ← same) (code.value, h.is, number_bits code.width code.value h.fits) }

natural : (k n : ℕ) (x : ℤ) → x ≡ pos 0 +ℤ pos k → k ≡ n → x ≡ pos n
natural k n x e s = omega (arith, ints)

pub unsigned_code : (coding : NumCoding) (o : Option PlainCode) (x : ℤ) (width : ℕ) → coding ≡ PosInt width → IfSome o (λ code. IsOffset (pos 0) x width code.width code.value) → IfSome o (λ code. IsCounted coding x code.width code.value)
unsigned_code coding None x width e h = tt
unsigned_code coding (Some code) x width e h =
    let same = h.same in
    record { few = h.few; fits = h.fits; spells = rw (e, ← same) (length-low_bits code.width code.value, natural code.value (number (low_bits code.width code.value)) x h.is (sym (number_bits code.width code.value h.fits).value)) }

pub truth_code : (coding : NumCoding) (o : Option PlainCode) (x : ℤ) (ones zeros : Option (List Bool)) → coding ≡ Flag ones zeros → ones ≡ None → zeros ≡ None → IfSome o (λ code. IsOffset (pos 0) x 1 code.width code.value) → IfSome o (λ code. IsCounted coding x code.width code.value)
truth_code coding None x ones zeros e f g h = tt
truth_code coding (Some code) x ones zeros e f g h =
    let same = h.same in
    record { few = h.few; fits = h.fits; spells = rw (e, f, g) (code.value, natural code.value code.value x h.is refl, subst (λ (k : ℕ). IsNumber k code.value (low_bits code.width code.value)) same (number_bits code.width code.value h.fits)) }

pub pattern_code : (coding : NumCoding) (x : ℤ) (pattern : List Bool) (width value : ℕ) → coding ≡ Fixed pattern → CanCount coding x → IsBits pattern width value → IsCounted coding x width value
pattern_code coding x pattern width value e h is =
    let b = bits_low pattern width value is in
    let zero : x ≡ pos 0 = can_as coding (Fixed pattern) x e h in
    record { few = is.small; fits = b.0; spells = rw e (zero, b.1) }

pub leaf_code : (leaf : NumLeaf) (o : Option PlainCode) (x : ℤ) → In leaf.set x → IsPlain leaf → IfSome o (λ code. IsCounted leaf.coding x code.width code.value) → IfSome o (λ code. IsPlainCode leaf x code.width code.value)
leaf_code leaf None x p plain h = tt
leaf_code leaf (Some code) x p plain h = record {
  few = h.few;
  fits = h.fits;
  code = record { permitted = p; image = x; maps = itself leaf x plain; spelled = rw plain.little h.spells };
}

-- A code that is put.

pub plain_long : (leaf : NumLeaf) (x : ℤ) (width value : ℕ) → IsTrue (num_fine leaf) → IsPlainCode leaf x width value → num_length leaf x ≡ width
plain_long leaf x width value fine is = sym (code-length Written leaf fine x (low_bits width value) is.code) ∙ length-low_bits width value

pub plain_put : {N : ℕ} (old new : WriteCursor N) (leaf : NumLeaf) (x : ℤ) (width value : ℕ) → IsPlainCode leaf x width value → Writes old new (place_of old) (low_bits width value) (place_of old + width) → Puts (Code Written leaf x) old new
plain_put old new leaf x width value is w = record {
  code = low_bits width value;
  writes = subst (λ (k : ℕ). Writes old new (place_of old) (low_bits width value) (place_of old + k)) (sym (length-low_bits width value)) w;
  holds = is.code;
}
