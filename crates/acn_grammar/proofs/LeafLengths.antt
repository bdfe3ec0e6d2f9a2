-- A code of a leaf that keeps its rules has the length that the number determines.
use Rattle.std.proofs.Common.{◌≡◌, ℕ, suc, ◌*◌, ◌^◌, ◌<◌, ℤ, pos, negsuc, ◌+ℤ◌, Bool, true, false, not, List, [], ◌∷◌, ◌++◌, length, map, Option, Some, None, refl, sym, ap, ◌∙◌, arith, nat_eq, ◌&&◌, ◌||◌, IsTrue, inl, inr, length-append}
use Rattle.std.specs.Prelude.{◌-ℤ◌, ◌≤ℤ◌, ◌<ℤ◌, neg_ℤ, nat_abs, int_le, int_lt, unwrap_or, if◌then◌else◌}
use Rattle.std.specs.List.{list_all}
use Rattle.std.proofs.lemmas.Int.{ints}
use Rattle.acn_num.specs.Ranges.{In, has, are_ranges, count}
use Rattle.acn_grammar.specs.Code.{Mode, Written, Any, Code, CodingCode, image_by, image_of, item_number, SignOctet, nibbles, digit_octets, FlagCode, OtherPattern, opposite}
use Rattle.acn_grammar.specs.Images.{images_by, ends}
use Rattle.acn_grammar.specs.Leaves.{takes, coding_fine, set_fine, table_fine, can_write, can_write_all, integer_set_fine, is_below, no_items, num_fine, has_size, is_pattern, same_bits, line_fine, all_differ, share}
use Rattle.acn_grammar.specs.Length.{coding_length, num_length, fits_octets, sign_width}
use Rattle.acn_grammar.specs.declared.node.Items.{Items}
use Rattle.acn_grammar.specs.declared.node.NumCoding.{NumCoding}
use Rattle.acn_grammar.specs.declared.node.NumCoding.TheVariants.{Range, CountedFrom, CountedSigned, PosInt, Twos, Bcd, BcdEnded, Ascii, AsciiEnded, Flag, Fixed}
use Rattle.acn_grammar.specs.declared.node.NumKind.{NumKind}
use Rattle.acn_grammar.specs.declared.node.NumKind.TheVariants.{Integer, Boolean, Enumerated, Null}
use Rattle.acn_grammar.specs.declared.node.NumLeaf.{NumLeaf}
use Rattle.acn_grammar.specs.declared.node.Table.{Table}
use Rattle.acn_grammar.proofs.Counts.{counted-octets, counted-signed, digits-count, fits_true}
use Rattle.acn_grammar.proofs.FineLeaves.{rules_of}
use Rattle.acn_grammar.proofs.Within.{by_values, ends-has}
use Rattle.std.proofs.lemmas.Bool.{and_parts, not-true, eqb-true}
use Rattle.acn_grammar.proofs.WholeTests.{le_fact, lt_fact, eq_fact, either}

-- how great a number a code of several lengths can have
abbrev pub Limits : NumCoding → ℤ → Type 0
Limits (CountedFrom low) y = (k : ℕ) → y ≡ low +ℤ pos k → k < 2 ^ 64
Limits CountedSigned y = fits_octets y 8 ≡ true
Limits BcdEnded y = nat_abs y < 10 ^ 20
Limits (AsciiEnded end signed) y = nat_abs y < 10 ^ 20
Limits _ y = Unit {0}

pub nibbles-length : (ds : List ℕ) → length (nibbles ds) ≡ 4 * length ds
nibbles-length [] = refl
nibbles-length (d ∷ ds) = omega (arith, nibbles-length ds)

pub digit_octets-length : (ds : List ℕ) → length (digit_octets ds) ≡ 8 * length ds
digit_octets-length [] = refl
digit_octets-length (d ∷ ds) = omega (arith, digit_octets-length ds)

pub sign-length : (signed : Bool) (y : ℤ) (k : ℕ) (sign : List Bool) → SignOctet signed y k sign → (length sign ≡ sign_width signed) × (k ≡ nat_abs y)
sign-length false y k sign h = (ap length h.1, rw h.0 refl)
sign-length true (pos n) k sign h = (ap length h.1, h.0)
sign-length true (negsuc n) k sign h = (ap length h.1, h.0)

pub opposite-length : (p : List Bool) → length (opposite p) ≡ length p
opposite-length [] = refl
opposite-length (b ∷ p) = ap suc (opposite-length p)

one_pattern : (mode : Mode) (p bs : List Bool) → OtherPattern mode p bs → length bs ≡ length p
one_pattern Written p bs h = ap length h ∙ opposite-length p
one_pattern Any p bs h = h.0

flag-length : (mode : Mode) (p q : Option (List Bool)) (little : Bool) (y : ℤ) (bs : List Bool) → coding_fine (Flag p q) ≡ true → FlagCode mode p q y bs → length bs ≡ coding_length (Flag p q) y
flag-length mode None None little y bs f c = c.2.width
flag-length mode (Some p) None little y bs f (inl c) = ap length c.1
flag-length mode (Some p) None little y bs f (inr c) = one_pattern mode p bs c.1
flag-length mode None (Some q) little y bs f (inl c) = ap length c.1
flag-length mode None (Some q) little y bs f (inr c) = one_pattern mode q bs c.1
flag-length mode (Some p) (Some q) little y bs f (inl c) = ap length c.1
flag-length mode (Some p) (Some q) little y bs f (inr c) =
    let a = and_parts (is_pattern p) (nat_eq (length p) (length q) && not (same_bits p q)) f in
    let b = and_parts (nat_eq (length p) (length q)) (not (same_bits p q)) a.1 in
    ap length c.1 ∙ sym (eqb-true (length p) (length q) b.0)

pub coding-length : (coding : NumCoding) (little : Bool) (mode : Mode) (y : ℤ) (bs : List Bool) → coding_fine coding ≡ true → Limits coding y → CodingCode mode coding little y bs → length bs ≡ coding_length coding y
coding-length (Range low width) little mode y bs f l c = c.2.width
coding-length (CountedFrom low) little mode y bs f l c =
    let h = counted-octets c.0 bs (l c.0 c.1) c.2 in
    let e : nat_abs (y -ℤ low) ≡ c.0 = rw c.1 (omega (arith, ints)) in
    rw e h
coding-length CountedSigned little mode y bs f l c = counted-signed y bs l c
coding-length (PosInt n) little mode y bs f l c = c.0
coding-length (Twos n) little mode y bs f l c = c.0
coding-length (Bcd n) little mode y bs f l c = c.2
coding-length BcdEnded little mode y bs f l c =
    let t = c.2 in
    let e : nat_abs y ≡ c.0 = rw c.1 refl in
    let n = digits-count c.0 t.digits (rw (← e) l) t.spell t.minimal in
    let w = ap length t.whole ∙ length-append (nibbles t.digits) (true ∷ true ∷ true ∷ true ∷ []) in
    let d = nibbles-length t.digits in
    rw e (omega arith)
coding-length (Ascii n signed) little mode y bs f l c = c.3
coding-length (AsciiEnded end signed) little mode y bs f l c =
    let t = c.3 in
    let s = sign-length signed y c.0 c.1 c.2 in
    let is = s.1 in
    let small : c.0 < 10 ^ 20 = omega arith in
    let n = digits-count c.0 t.digits small t.spell t.minimal in
    let w = ap length t.whole ∙ length-append c.1 (digit_octets t.digits ++ end) in
    let v = length-append (digit_octets t.digits) end in
    let d = digit_octets-length t.digits in
    let sign = s.0 in
    rw (← is) (omega arith)
coding-length (Flag p q) little mode y bs f l c = flag-length mode p q little y bs f c
coding-length (Fixed pattern) little mode y bs f l c = ap length c.1

-- Permitted numbers keep the limits.

pub some_ends : (coding : NumCoding) (o : Option (ℤ × ℤ)) → can_write_all coding o ≡ true → (e : ℤ × ℤ) × (o ≡ Some e) × (can_write coding e ≡ true)
some_ends coding None h = cc
some_ends coding (Some e) h = (e, refl, h)

pub int_ends : (coding : NumCoding) (o : Option (ℤ × ℤ)) → integer_set_fine coding o ≡ true → (e : ℤ × ℤ) × (o ≡ Some e) × (int_le (neg_ℤ (pos (2 ^ 63))) e.0 ≡ true) × (is_below coding e.0 e.1 ≡ true)
int_ends coding None h = cc
int_ends coding (Some e) h = let f = and_parts (int_le (neg_ℤ (pos (2 ^ 63))) e.0) (is_below coding e.0 e.1) h in (e, refl, f.0, f.1)

-- a leaf whose coding has no size writes the numbers themselves
abbrev IsPlain : Items → Option Table → List (ℤ × ℤ) → NumCoding → Type 0
IsPlain items table set coding = (items.values ≡ false) × (table ≡ None) × (integer_set_fine coding (ends set) ≡ true)

pub is_plain : (kind : NumKind) (coding : NumCoding) (items : Items) (table : Option Table) (set : List (ℤ × ℤ)) → kind ≡ Integer → has_size coding ≡ false → set_fine kind coding items table set ≡ true → table_fine coding set table ≡ true → IsPlain items table set coding
is_plain Integer coding items None set k n s t =
    let a = and_parts (are_ranges set) (integer_set_fine coding (ends set) && no_items items) s in
    let b = and_parts (integer_set_fine coding (ends set)) (no_items items) a.1 in
    (not-true items.values (and_parts (nat_eq (length items.items) 0) (not items.values) b.1).1, refl, b.0)
is_plain Integer coding items (Some table) set k n s t =
    let a = and_parts (has_size coding) (list_all line_fine table.lines && (all_differ share table.lines && nat_eq (count (images_by (Some table) set)) (count set))) t in
    let w = a.0 in
    cc
is_plain Boolean coding items table set k n s t = cc
is_plain Enumerated coding items table set k n s t = cc
is_plain Null coding items table set k n s t = cc

pub plain_image : (v : Bool) (items : Items) (table : Option Table) (x y : ℤ) → v ≡ false → table ≡ None → (if v then item_number items.items x else image_by table x) ≡ Some y → x ≡ y
plain_image v items table x y p q e = some_one x y (sym (rw (p, q)) ∙ e)
  where
    some_one : (x y : ℤ) → Some x ≡ Some y → x ≡ y
    some_one x y e = cc

pub counted_kind : (kind : NumKind) (coding : NumCoding) → takes kind coding ≡ true → takes Boolean coding ≡ false → takes Enumerated coding ≡ false → takes Null coding ≡ false → kind ≡ Integer
counted_kind Integer coding h a b c = refl
counted_kind Boolean coding h a b c = cc
counted_kind Enumerated coding h a b c = cc
counted_kind Null coding h a b c = cc

pub below_span : (low high y : ℤ) (k : ℕ) → neg_ℤ (pos (2 ^ 63)) ≤ℤ low → (int_lt high (pos (2 ^ 63)) || (int_le (pos 0) low && int_lt high (pos (2 ^ 64)))) ≡ true → y ≤ℤ high → y ≡ low +ℤ pos k → k < 2 ^ 64
below_span low high y k a b c d =
    either (int_lt high (pos (2 ^ 63))) (int_le (pos 0) low && int_lt high (pos (2 ^ 64))) b
    (λ h. let e = lt_fact high (pos (2 ^ 63)) h in omega (arith, ints))
    (λ h. let f = and_parts (int_le (pos 0) low) (int_lt high (pos (2 ^ 64))) h in let e = le_fact (pos 0) low f.0 in let g = lt_fact high (pos (2 ^ 64)) f.1 in omega (arith, ints))

small_magnitude : (y : ℤ) (a b : ℤ) → neg_ℤ (pos (2 ^ 64)) ≤ℤ a → a ≤ℤ y → y ≤ℤ b → b <ℤ pos (2 ^ 64) → nat_abs y < 10 ^ 20
small_magnitude y a b h k l m = omega (arith, ints)

ended_magnitude : (end : List Bool) (signed : Bool) (e : ℤ × ℤ) (y : ℤ) → can_write (AsciiEnded end signed) e ≡ true → e.0 ≤ℤ y → y ≤ℤ e.1 → nat_abs y < 10 ^ 20
ended_magnitude end false e y h a b =
    let f = and_parts (int_le (pos 0) e.0) (int_lt e.1 (pos (2 ^ 64))) h in
    let p = le_fact (pos 0) e.0 f.0 in
    let q = lt_fact e.1 (pos (2 ^ 64)) f.1 in
    small_magnitude y e.0 e.1 (omega (arith, ints)) a b q
ended_magnitude end true e y h a b =
    let f = and_parts (int_le (neg_ℤ (pos (2 ^ 63))) e.0) (int_lt e.1 (pos (2 ^ 63))) h in
    let p = le_fact (neg_ℤ (pos (2 ^ 63))) e.0 f.0 in
    let q = lt_fact e.1 (pos (2 ^ 63)) f.1 in
    small_magnitude y e.0 e.1 (omega (arith, ints)) a b (omega (arith, ints))

limits_by : (coding : NumCoding) (kind : NumKind) (items : Items) (table : Option Table) (set : List (ℤ × ℤ)) (x y : ℤ) → takes kind coding ≡ true → set_fine kind coding items table set ≡ true → table_fine coding set table ≡ true
    → can_write_all coding (ends (if items.values then map (λ named. (named.1, named.1)) items.items else images_by table set)) ≡ true
    → has set x ≡ true → (if items.values then item_number items.items x else image_by table x) ≡ Some y → Limits coding y
limits_by (CountedFrom low) kind items table set x y t s f w h i = λ k is.
    let p = is_plain kind (CountedFrom low) items table set (counted_kind kind (CountedFrom low) t refl refl refl) refl s f in
    let same = plain_image items.values items table x y p.0 p.1 i in
    let e = int_ends (CountedFrom low) (ends set) p.2 in
    let all : ends (if items.values then map (λ named. (named.1, named.1)) items.items else images_by table set) ≡ ends set = rw (p.0, p.1) in
    let v = some_ends (CountedFrom low) (ends (if items.values then map (λ named. (named.1, named.1)) items.items else images_by table set)) w in
    let pair : v.0 ≡ e.0 = some_one v.0 e.0 (sym v.1 ∙ (all ∙ e.1)) in
    let first : low ≡ e.0.0 = eq_fact low v.0.0 v.2 ∙ ap (λ z. z.0) pair in
    let inside = ends-has set x e.0 h e.1 in
    let lowest = le_fact (neg_ℤ (pos (2 ^ 63))) e.0.0 e.2 in
    below_span e.0.0 e.0.1 y k lowest e.3 (rw (← same) inside.1) (is ∙ ap (λ z. z +ℤ pos k) first)
  where
    some_one : {A : Type 0} (x y : A) → Some x ≡ Some y → x ≡ y
    some_one x y e = cc
limits_by CountedSigned kind items table set x y t s f w h i =
    let p = is_plain kind CountedSigned items table set (counted_kind kind CountedSigned t refl refl refl) refl s f in
    let same = plain_image items.values items table x y p.0 p.1 i in
    let e = int_ends CountedSigned (ends set) p.2 in
    let inside = ends-has set x e.0 h e.1 in
    let lowest = le_fact (neg_ℤ (pos (2 ^ 63))) e.0.0 e.2 in
    let highest = lt_fact e.0.1 (pos (2 ^ 63)) e.3 in
    let low = inside.0 in
    let high = inside.1 in
    fits_true y 8 (omega (arith, ints)) (omega (arith, ints))
limits_by BcdEnded kind items table set x y t s f w h i =
    let v = some_ends BcdEnded (ends (if items.values then map (λ named. (named.1, named.1)) items.items else images_by table set)) w in
    let inside = ends-has (if items.values then map (λ named. (named.1, named.1)) items.items else images_by table set) y v.0 (by_values items.values items table set x y h i) v.1 in
    ended_magnitude [] false v.0 y v.2 inside.0 inside.1
limits_by (AsciiEnded end signed) kind items table set x y t s f w h i =
    let v = some_ends (AsciiEnded end signed) (ends (if items.values then map (λ named. (named.1, named.1)) items.items else images_by table set)) w in
    let inside = ends-has (if items.values then map (λ named. (named.1, named.1)) items.items else images_by table set) y v.0 (by_values items.values items table set x y h i) v.1 in
    ended_magnitude end signed v.0 y v.2 inside.0 inside.1
limits_by (Range low width) kind items table set x y t s f w h i = tt
limits_by (PosInt n) kind items table set x y t s f w h i = tt
limits_by (Twos n) kind items table set x y t s f w h i = tt
limits_by (Bcd n) kind items table set x y t s f w h i = tt
limits_by (Ascii n signed) kind items table set x y t s f w h i = tt
limits_by (Flag p q) kind items table set x y t s f w h i = tt
limits_by (Fixed pattern) kind items table set x y t s f w h i = tt

pub limits_of : (leaf : NumLeaf) (x y : ℤ) → IsTrue (num_fine leaf) → In leaf.set x → image_of leaf x ≡ Some y → Limits leaf.coding y
limits_of leaf x y h p e =
    let r = rules_of leaf h in
    limits_by leaf.coding leaf.kind leaf.items leaf.table leaf.set x y r.kind r.set r.table r.writes p e

-- the premise of the law of lengths
pub code-length : (mode : Mode) (leaf : NumLeaf) → IsTrue (num_fine leaf) → (x : ℤ) (bs : List Bool) → Code mode leaf x bs → length bs ≡ num_length leaf x
code-length mode leaf h x bs c =
    let r = rules_of leaf h in
    let l = coding-length leaf.coding leaf.little mode c.image bs r.coding (limits_of leaf x c.image h c.permitted c.maps) c.spelled in
    l ∙ ap (λ o. coding_length leaf.coding (unwrap_or o (pos 0))) (sym c.maps)
