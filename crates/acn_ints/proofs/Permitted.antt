-- A permitted number has an image that the leaf's coding can write.
use Rattle.std.proofs.Common.{◌≡◌, ℕ, zero, suc, ◌-◌, ◌/◌, ◌^◌, ◌<◌, ℤ, pos, negsuc, ◌+ℤ◌, Bool, true, false, List, [], ◌∷◌, Option, Some, None, refl, arith, nat_eq, nat_le, ◌&&◌, ◌||◌, IsTrue, inl, inr, ◌⊎◌}
use Rattle.std.specs.Prelude.{◌-ℤ◌, ◌≤ℤ◌, ◌<ℤ◌, neg_ℤ, nat_abs, nat_lt, int_le, int_lt, if◌then◌else◌}
use Rattle.std.specs.List.{list_all}
use Rattle.std.specs.Ordering.{int_eq}
use Rattle.std.proofs.lemmas.Int.{ints}
use Rattle.std.proofs.lemmas.Bool.Decides.{nat_tests}
use Rattle.acn_num.specs.Bits.{is_least_width}
use Rattle.acn_num.specs.Ranges.{In, has, distance, count, bottom, top, Above, AreRanges}
use Rattle.acn_grammar.specs.Code.{image_of, image_by, item_number}
use Rattle.acn_grammar.specs.Images.{images_by, images_of, written_ends}
use Rattle.acn_grammar.specs.Leaves.{num_fine, takes, set_fine, table_fine, line_fine, all_differ, share, has_size, can_write, is_range, no_items}
use Rattle.acn_grammar.specs.declared.node.Items.{Items}
use Rattle.acn_grammar.specs.declared.node.NumCoding.{NumCoding}
use Rattle.acn_grammar.specs.declared.node.NumCoding.TheVariants.{Range, CountedFrom, CountedSigned, PosInt, Twos, Bcd, BcdEnded, Ascii, AsciiEnded, Flag, Fixed}
use Rattle.acn_grammar.specs.declared.node.NumKind.{NumKind}
use Rattle.acn_grammar.specs.declared.node.NumKind.TheVariants.{Integer, Boolean, Enumerated, Null}
use Rattle.acn_grammar.specs.declared.node.NumLeaf.{NumLeaf}
use Rattle.acn_grammar.specs.declared.node.Table.{Table}
use Rattle.acn_grammar.proofs.Counts.{fits_is}
use Rattle.acn_grammar.proofs.FineLeaves.{rules_of, no_values}
use Rattle.acn_grammar.proofs.LeafLengths.{some_ends, limits_of, Limits, plain_image}
use Rattle.acn_grammar.proofs.Within.{image_has, ends-has}
use Rattle.acn_ints.specs.Limits.{IsNear, CanWrite}
use Rattle.acn_ints.specs.Pieces.{CanCode}
use Rattle.std.proofs.lemmas.Bool.{and_parts}
use Rattle.acn_grammar.proofs.WholeTests.{le_fact, lt_fact, eq_fact}
use Rattle.acn_grammar.proofs.HasImage.{has_image, range_within}

-- What the ends of the written numbers allow.

natural : (y : ℤ) → pos 0 ≤ℤ y → y ≡ pos (nat_abs y)
natural (pos n) h = refl
natural (negsuc n) h = absurd (omega (arith, ints))

offset : (low y : ℤ) → low ≤ℤ y → y ≡ low +ℤ pos (nat_abs (y -ℤ low))
offset low y h = omega (arith, ints)

below_nat : (y : ℤ) (n : ℕ) → pos 0 ≤ℤ y → y <ℤ pos n → nat_abs y < n
below_nat y n h k = omega (arith, ints)

unsigned_can : (n : ℕ) (e : ℤ × ℤ) (y : ℤ) → (int_le (pos 0) e.0 && int_lt e.1 (pos n)) ≡ true → e.0 ≤ℤ y → y ≤ℤ e.1 → (k : ℕ) × (y ≡ pos k) × (k < n)
unsigned_can n e y h a b =
    let f = and_parts (int_le (pos 0) e.0) (int_lt e.1 (pos n)) h in
    let low = le_fact (pos 0) e.0 f.0 in
    let high = lt_fact e.1 (pos n) f.1 in
    let some : pos 0 ≤ℤ y = omega (arith, ints, low, a) in
    (nat_abs y, natural y some, below_nat y n some (omega (arith, ints, high, b)))

signed_can : (a b : ℤ) (e : ℤ × ℤ) (y : ℤ) → (int_le a e.0 && int_lt e.1 b) ≡ true → e.0 ≤ℤ y → y ≤ℤ e.1 → (a ≤ℤ y) × (y <ℤ b)
signed_can a b e y h l m =
    let f = and_parts (int_le a e.0) (int_lt e.1 b) h in
    let low = le_fact a e.0 f.0 in
    let high = lt_fact e.1 b f.1 in
    (omega (arith, ints, low, l), omega (arith, ints, high, m))

strict_can : (a b : ℤ) (e : ℤ × ℤ) (y : ℤ) → (int_lt a e.0 && int_lt e.1 b) ≡ true → e.0 ≤ℤ y → y ≤ℤ e.1 → (a <ℤ y) × (y <ℤ b)
strict_can a b e y h l m =
    let f = and_parts (int_lt a e.0) (int_lt e.1 b) h in
    let low = lt_fact a e.0 f.0 in
    let high = lt_fact e.1 b f.1 in
    (omega (arith, ints, low, l), omega (arith, ints, high, m))

range_can : (low : ℤ) (width : ℕ) (e : ℤ × ℤ) (y : ℤ) → (int_eq low e.0 && is_least_width (distance e.0 e.1) width) ≡ true → e.0 ≤ℤ y → y ≤ℤ e.1 → CanWrite (Range low width) y
range_can low width e y h a b =
    let f = and_parts (int_eq low e.0) (is_least_width (distance e.0 e.1) width) h in
    let same = eq_fact low e.0 f.0 in
    let g = and_parts (nat_lt (distance e.0 e.1) (2 ^ width)) (nat_eq width 0 || nat_le (2 ^ (width - 1)) (distance e.0 e.1)) f.1 in
    let fits = lt_is (distance e.0 e.1) (2 ^ width) g.0 in
    let above : low ≤ℤ y = omega (arith, ints, same, a) in
    (nat_abs (y -ℤ low), offset low y above, near low e.0 e.1 y (2 ^ width) same a b fits)
  where
    lt_is : (a b : ℕ) → nat_lt a b ≡ true → a < b
    lt_is a b h = grind (arith, nat_tests)

    near : (low a b y : ℤ) (w : ℕ) → low ≡ a → a ≤ℤ y → y ≤ℤ b → distance a b < w → nat_abs (y -ℤ low) < w
    near low a b y w e h k m = omega (arith, ints)

-- A Boolean's number is 0 or 1, and a NULL's 0.

no_table : (coding : NumCoding) (set : List (ℤ × ℤ)) (table : Option Table) → has_size coding ≡ false → table_fine coding set table ≡ true → table ≡ None
no_table coding set None n h = refl
no_table coding set (Some table) n h =
    let a = and_parts (has_size coding) (list_all line_fine table.lines && (all_differ share table.lines && nat_eq (count (images_by (Some table) set)) (count set))) h in
    let w = a.0 in
    cc

flag_number : (kind : NumKind) (p q : Option (List Bool)) (items : Items) (table : Option Table) (set : List (ℤ × ℤ)) (x y : ℤ) → takes kind (Flag p q) ≡ true → set_fine kind (Flag p q) items table set ≡ true → table_fine (Flag p q) set table ≡ true → has set x ≡ true
    → (if items.values then item_number items.items x else image_by table x) ≡ Some y → (y ≡ pos 0) ⊎ (y ≡ pos 1)
flag_number Boolean p q items table set x y t s f h i =
    let a = and_parts (is_range (pos 0) (pos 1) set) (no_items items) s in
    let same = plain_image items.values items table x y (no_values items a.1) (no_table (Flag p q) set table refl f) i in
    let r = range_within (pos 0) (pos 1) set x a.0 h in
    let low = r.0 in
    let high = r.1 in
    zero_or_one y (omega (arith, ints, same, low)) (omega (arith, ints, same, high))
  where
    zero_or_one : (y : ℤ) → pos 0 ≤ℤ y → y ≤ℤ pos 1 → (y ≡ pos 0) ⊎ (y ≡ pos 1)
    zero_or_one (pos zero) a b = inl refl
    zero_or_one (pos (suc zero)) a b = inr refl
    zero_or_one (pos (suc (suc n))) a b = absurd (omega (arith, ints))
    zero_or_one (negsuc n) a b = absurd (omega (arith, ints))
flag_number Integer p q items table set x y t s f h i = cc
flag_number Enumerated p q items table set x y t s f h i = cc
flag_number Null p q items table set x y t s f h i = cc

fixed_number : (kind : NumKind) (pattern : List Bool) (items : Items) (table : Option Table) (set : List (ℤ × ℤ)) (x y : ℤ) → takes kind (Fixed pattern) ≡ true → set_fine kind (Fixed pattern) items table set ≡ true → table_fine (Fixed pattern) set table ≡ true → has set x ≡ true
    → (if items.values then item_number items.items x else image_by table x) ≡ Some y → y ≡ pos 0
fixed_number Null pattern items table set x y t s f h i =
    let a = and_parts (is_range (pos 0) (pos 0) set) (no_items items) s in
    let same = plain_image items.values items table x y (no_values items a.1) (no_table (Fixed pattern) set table refl f) i in
    let r = range_within (pos 0) (pos 0) set x a.0 h in
    let low = r.0 in
    let high = r.1 in
    omega (arith, ints, same, low, high)
fixed_number Integer pattern items table set x y t s f h i = cc
fixed_number Boolean pattern items table set x y t s f h i = cc
fixed_number Enumerated pattern items table set x y t s f h i = cc

can_by : (coding : NumCoding) (kind : NumKind) (items : Items) (table : Option Table) (set : List (ℤ × ℤ)) (e : ℤ × ℤ) (x y : ℤ) → takes kind coding ≡ true → set_fine kind coding items table set ≡ true → table_fine coding set table ≡ true → can_write coding e ≡ true → Limits coding y → e.0 ≤ℤ y → y ≤ℤ e.1 → has set x ≡ true
    → (if items.values then item_number items.items x else image_by table x) ≡ Some y → CanWrite coding y
can_by (Range low width) kind items table set e x y t s f w l a b h i = range_can low width e y w a b
can_by (CountedFrom low) kind items table set e x y t s f w l a b h i =
    let same = eq_fact low e.0 w in
    let above : low ≤ℤ y = omega (arith, ints, same, a) in
    (nat_abs (y -ℤ low), offset low y above, l (nat_abs (y -ℤ low)) (offset low y above))
can_by CountedSigned kind items table set e x y t s f w l a b h i = fits_is y 8 l
can_by (PosInt n) kind items table set e x y t s f w l a b h i = unsigned_can (2 ^ n) e y w a b
can_by (Twos n) kind items table set e x y t s f w l a b h i = signed_can (neg_ℤ (pos (2 ^ (n - 1)))) (pos (2 ^ (n - 1))) e y w a b
can_by (Bcd n) kind items table set e x y t s f w l a b h i = unsigned_can (10 ^ (n / 4)) e y w a b
can_by BcdEnded kind items table set e x y t s f w l a b h i = unsigned_can (2 ^ 64) e y w a b
can_by (Ascii n false) kind items table set e x y t s f w l a b h i = unsigned_can (10 ^ (n / 8)) e y w a b
can_by (Ascii n true) kind items table set e x y t s f w l a b h i = strict_can (neg_ℤ (pos (10 ^ (n / 8 - 1)))) (pos (10 ^ (n / 8 - 1))) e y w a b
can_by (AsciiEnded end false) kind items table set e x y t s f w l a b h i = unsigned_can (2 ^ 64) e y w a b
can_by (AsciiEnded end true) kind items table set e x y t s f w l a b h i = signed_can (neg_ℤ (pos (2 ^ 63))) (pos (2 ^ 63)) e y w a b
can_by (Flag p q) kind items table set e x y t s f w l a b h i = flag_number kind p q items table set x y t s f h i
can_by (Fixed pattern) kind items table set e x y t s f w l a b h i = fixed_number kind pattern items table set x y t s f h i

pub can_write_image : (leaf : NumLeaf) (x y : ℤ) → IsTrue (num_fine leaf) → In leaf.set x → image_of leaf x ≡ Some y → CanWrite leaf.coding y
can_write_image leaf x y h p i =
    let r = rules_of leaf h in
    let v = some_ends leaf.coding (written_ends leaf) r.writes in
    let inside = ends-has (images_of leaf) y v.0 (image_has leaf x y p i) v.1 in
    can_by leaf.coding leaf.kind leaf.items leaf.table leaf.set v.0 x y r.kind r.set r.table v.2 (limits_of leaf x y h p i) inside.0 inside.1 p i

-- A set lies in its ends.

in_ends : (b : ℤ) (rs : List (ℤ × ℤ)) (x : ℤ) → Above b rs → has rs x ≡ true → (b <ℤ x) × (x ≤ℤ top)
in_ends b [] x a h = cc
in_ends b (r ∷ rs) x a h = go (λ later. in_ends (r.1 +ℤ pos 1) rs x a.3 later) (int_le r.0 x && int_le x r.1) refl h
  where
    go : (has rs x ≡ true → ((r.1 +ℤ pos 1) <ℤ x) × (x ≤ℤ top)) → (t : Bool) → (int_le r.0 x && int_le x r.1) ≡ t → (t || has rs x) ≡ true → (b <ℤ x) × (x ≤ℤ top)
    go less true e h =
        let f = and_parts (int_le r.0 x) (int_le x r.1) e in
        let low = le_fact r.0 x f.0 in
        let high = le_fact x r.1 f.1 in
        let first = a.0 in
        let last = a.2 in
        (omega (arith, ints, low, first), omega (arith, ints, high, last))
    go less false e h =
        let f = less h in
        let first = a.0 in
        let order = a.1 in
        let low = f.0 in
        (omega (arith, ints, first, order, low), f.1)

pub near_of : (rs : List (ℤ × ℤ)) (x : ℤ) → AreRanges rs → has rs x ≡ true → IsNear x
near_of rs x a h =
    let f = in_ends (bottom -ℤ pos 1) rs x a h in
    let low = f.0 in
    let high = f.1 in
    (omega (arith, ints, low), omega (arith, ints, high))

pub can_code : (leaf : NumLeaf) (x : ℤ) → IsTrue (num_fine leaf) → In leaf.set x → AreRanges leaf.set → CanCode leaf x
can_code leaf x h p a =
    let i = has_image leaf h x p in
    record { permitted = p; near = near_of leaf.set x a p; image = i.0; maps = i.1; can = can_write_image leaf x i.0 h p i.1 }
