-- Some code of a leaf begins with a pattern exactly where its written numbers say so.
use Rattle.std.proofs.Common.{◌≡◌, ◌≢◌, inl, inr, ℕ, zero, suc, ◌+◌, ◌-◌, ◌*◌, ◌/◌, ◌^◌, ◌<◌, ◌≤◌, ℤ, pos, ◌+ℤ◌, Bool, true, false, List, [], ◌∷◌, ◌++◌, length, take, map, replicate, get_or, Option, Some, None, refl, sym, ap, ◌∙◌, subst, arith, length-append, nat_le, ◌&&◌, ◌||◌, IsTrue}
use Rattle.std.specs.Prelude.{◌≤ℤ◌, ◌<ℤ◌, neg_ℤ, int_le, int_lt, slice_get, option_map, if◌then◌else◌, nat_lt}
use Rattle.std.specs.List.{list_any}
use Rattle.std.specs.Ordering.{int_eq}
use Rattle.std.proofs.lemmas.Int.{ints}
use Rattle.std.proofs.lemmas.List.{length-take, length-take-le}
use Rattle.std.proofs.lemmas.Nat.{pow_pos, shl-shr, shr_split, le-div}
use Rattle.std.proofs.Math.Nat.{pow-le-pow_right, mul-le-mul_right}
use native.Mathlib.Decide.{dec_lt}
use Rattle.acn_num.proofs.BitLists.{number_below, number_same, number-take}
use Rattle.acn_num.specs.Bits.{number, signed_number}
use Rattle.acn_num.specs.Ranges.{In, has, distance}
use Rattle.acn_grammar.specs.Check.{is_wide, LeadAmbiguous}
use Rattle.acn_grammar.specs.Code.{Any, Code, CodingCode, FlagCode, image_of, image_by, item_number}
use Rattle.acn_grammar.specs.Images.{images_by, images_of}
use Rattle.acn_grammar.specs.Leaves.{num_fine, takes, from_to, coding_fine, set_fine, is_range, no_items, items_fine, same_bits}
use Rattle.acn_grammar.specs.declared.node.Items.{Items}
use Rattle.acn_grammar.specs.declared.node.NumCoding.{NumCoding}
use Rattle.acn_grammar.specs.declared.node.NumCoding.TheVariants.{Range, CountedFrom, CountedSigned, PosInt, Twos, Bcd, BcdEnded, Ascii, AsciiEnded, Flag, Fixed}
use Rattle.acn_grammar.specs.declared.node.NumKind.{NumKind}
use Rattle.acn_grammar.specs.declared.node.NumKind.TheVariants.{Integer, Boolean, Enumerated, Null}
use Rattle.acn_grammar.specs.declared.node.NumLeaf.{NumLeaf}
use Rattle.acn_grammar.specs.declared.node.Table.{Table}
use Rattle.acn_grammar.proofs.FineLeaves.{rules_of, no_values}
use Rattle.acn_grammar.proofs.Within.{image_has}
use Rattle.acn_packet_laws.proofs.Codes.{each_number_has_a_code}
use Rattle.acn_leads.specs.Begins.{hits, turned, begins, begins_by}
use Rattle.std.proofs.lemmas.Bool.{le-leb, leb-true, or_left, or_right, and_parts}
use Rattle.acn_grammar.proofs.WholeTests.{either, le_fact, lt_fact, eq_fact, le_test, ge_fact}
use Rattle.acn_grammar.proofs.Codings.{same_bits-refl, patterns_differ, same_bits-is}
use Rattle.std.proofs.Math.Seq.{take-append_seam}
use Rattle.acn_grammar.proofs.HasImage.{Ordered, set_ordered}

some_same : {A : Type 0} (x y : A) → Some x ≡ Some y → x ≡ y
some_same x y e = cc

-- what the first bits leave of a number that is less
pub none_left : (n k : ℕ) → n < 2 ^ k → n / 2 ^ k ≡ 0
none_left n k h = by (n / 2 ^ k) refl
  where
    by : (q : ℕ) → n / 2 ^ k ≡ q → n / 2 ^ k ≡ 0
    by zero e = e
    by (suc q) e = absurd (omega (arith, shr_split n k, mul-le-mul_right {m = 1} {n = n / 2 ^ k} (2 ^ k) (omega (arith, e)), h))

pub far_left : (n bits : ℕ) → n < 2 ^ 128 → 128 ≤ bits → 0 ≡ n / 2 ^ bits
far_left n bits h k = (let w = pow-le-pow_right {n = 2} (omega arith) {i = 128} {j = bits} k in sym (none_left n bits (omega (arith, w))))

pub half_fits : (rest : List Bool) (h n : ℕ) → h ≡ 2 ^ length rest → n ≡ number rest → suc (length rest) ≤ 64 → h + n < 2 ^ 64
half_fits rest h n e is few =
    let below = number_below rest in
    let wide : 2 ^ length rest ≤ 2 ^ 63 = pow-le-pow_right {n = 2} (omega arith) {i = length rest} {j = 63} (omega arith) in
    omega (arith, e, is, below, wide)

-- Tests.

trans_le : (a b c : ℤ) → a ≤ℤ b → b ≤ℤ c → a ≤ℤ c
trans_le a b c h k = omega (arith, ints)

-- Distances from a low end, without their last bits.

further : (low y z : ℤ) → low ≤ℤ y → y ≤ℤ z → distance low y ≤ distance low z
further low y z a b = omega (arith, ints)

distance_of : (low : ℤ) (n : ℕ) → distance low (low +ℤ pos n) ≡ n
distance_of low n = omega (arith, ints)

within : (low top : ℤ) (n : ℕ) → low ≤ℤ top → n ≤ distance low top → (low +ℤ pos n) ≤ℤ top
within low top n a b = omega (arith, ints)

beyond : (low y : ℤ) (n : ℕ) → low ≤ℤ y → distance low y < n → y ≤ℤ (low +ℤ pos n)
beyond low y n a b = omega (arith, ints)

above_low : (low : ℤ) (n : ℕ) → low ≤ℤ (low +ℤ pos n)
above_low low n = omega (arith, ints)

below_low : (r low : ℤ) (n : ℕ) → r <ℤ low → r ≤ℤ (low +ℤ pos n)
below_low r low n h = omega (arith, ints)

shorter : (a b k : ℕ) → a ≤ b → a / 2 ^ k ≤ b / 2 ^ k
shorter a b k h = le-div (a / 2 ^ k) b (2 ^ k) (pow_pos k) (omega (arith, shr_split a k, h))

reaches : (a v k : ℕ) → v ≤ a / 2 ^ k → v * 2 ^ k ≤ a
reaches a v k h = omega (arith, mul-le-mul_right {m = v} {n = a / 2 ^ k} (2 ^ k) h, shr_split a k)

hit_of : (low : ℤ) (k v : ℕ) (r : ℤ × ℤ) (y : ℤ) → low ≤ℤ y → r.0 ≤ℤ y → y ≤ℤ r.1 → distance low y / 2 ^ k ≡ v → hits low k v r ≡ true
hit_of low k v r y a b c e =
    let far = shorter (distance low y) (distance low r.1) k (further low y r.1 a c) in
    rw (le_test low r.1 (trans_le low y r.1 a c), le-leb v (distance low r.1 / 2 ^ k) (omega (arith, far, e))) (last (int_lt r.0 low) refl)
  where
    last : (t : Bool) → int_lt r.0 low ≡ t → (t || nat_le (distance low r.0 / 2 ^ k) v) ≡ true
    last true h = refl
    last false h = (let near = shorter (distance low r.0) (distance low y) k (further low r.0 y (ge_fact r.0 low h) b) in le-leb (distance low r.0 / 2 ^ k) v (omega (arith, near, e)))

record Hit (low : ℤ) (k v : ℕ) (r : ℤ × ℤ) : Type 0 where
  y : ℤ
  above : low ≤ℤ y
  first : r.0 ≤ℤ y
  last : y ≤ℤ r.1
  same : distance low y / 2 ^ k ≡ v

exactly_at : (low : ℤ) (k v : ℕ) (r : ℤ × ℤ) → low ≤ℤ r.1 → v * 2 ^ k ≤ distance low r.1 → r.0 ≤ℤ (low +ℤ pos (v * 2 ^ k)) → Hit low k v r
exactly_at low k v r top far first = record {
  y = low +ℤ pos (v * 2 ^ k);
  above = above_low low (v * 2 ^ k);
  first = first;
  last = within low r.1 (v * 2 ^ k) top far;
  same = ap (λ (m : ℕ). m / 2 ^ k) (distance_of low (v * 2 ^ k)) ∙ shl-shr v k;
}

of_hit : (low : ℤ) (k v : ℕ) (r : ℤ × ℤ) → r.0 ≤ℤ r.1 → hits low k v r ≡ true → Hit low k v r
of_hit low k v r o h =
    let p = and_parts (int_le low r.1) (nat_le v (distance low r.1 / 2 ^ k) && (int_lt r.0 low || nat_le (distance low r.0 / 2 ^ k) v)) h in
    let q = and_parts (nat_le v (distance low r.1 / 2 ^ k)) (int_lt r.0 low || nat_le (distance low r.0 / 2 ^ k) v) p.1 in
    let top = le_fact low r.1 p.0 in
    let far = reaches (distance low r.1) v k (leb-true v (distance low r.1 / 2 ^ k) q.0) in
    by (int_lt r.0 low) refl top far q.1
  where
    by : (t : Bool) → int_lt r.0 low ≡ t → low ≤ℤ r.1 → v * 2 ^ k ≤ distance low r.1 → (t || nat_le (distance low r.0 / 2 ^ k) v) ≡ true → Hit low k v r
    by true e top far g = exactly_at low k v r top far (below_low r.0 low (v * 2 ^ k) (lt_fact r.0 low e))
    by false e top far g =
        let under = leb-true (distance low r.0 / 2 ^ k) v g in
        let start = ge_fact r.0 low e in
        elim (dec_lt (distance low r.0) (v * 2 ^ k)) [
          | yes less ↦ exactly_at low k v r top far (beyond low r.0 (v * 2 ^ k) start less)
          | no more ↦
              let enough = le-div v (distance low r.0) (2 ^ k) (pow_pos k) (omega arith) in
              record { y = r.0; above = start; first = omega (arith, ints); last = o; same = omega (arith, under, enough) }
        ]

any_hit : (low : ℤ) (k v : ℕ) (rs : List (ℤ × ℤ)) (y : ℤ) → has rs y ≡ true → low ≤ℤ y → distance low y / 2 ^ k ≡ v → list_any (hits low k v) rs ≡ true
any_hit low k v [] y h a e = cc
any_hit low k v (r ∷ rs) y h a e = either {F = list_any (hits low k v) (r ∷ rs) ≡ true} (int_le r.0 y && int_le y r.1) (has rs y) h
    (λ q. let w = and_parts (int_le r.0 y) (int_le y r.1) q in or_left (hits low k v r) (list_any (hits low k v) rs) (hit_of low k v r y a (le_fact r.0 y w.0) (le_fact y r.1 w.1) e))
    (λ q. or_right (hits low k v r) (list_any (hits low k v) rs) (any_hit low k v rs y q a e))

record Any_hit (low : ℤ) (k v : ℕ) (rs : List (ℤ × ℤ)) : Type 0 where
  y : ℤ
  there : has rs y ≡ true
  above : low ≤ℤ y
  same : distance low y / 2 ^ k ≡ v

hit_any : (low : ℤ) (k v : ℕ) (rs : List (ℤ × ℤ)) → Ordered rs → list_any (hits low k v) rs ≡ true → Any_hit low k v rs
hit_any low k v [] o h = cc
hit_any low k v (r ∷ rs) o h = either {F = Any_hit low k v (r ∷ rs)} (hits low k v r) (list_any (hits low k v) rs) h
    (λ q. let t = of_hit low k v r o.0 q in record { y = t.y; there = or_left (int_le r.0 t.y && int_le t.y r.1) (has rs t.y) (both r.0 r.1 t.y t.first t.last); above = t.above; same = t.same })
    (λ q. let t = hit_any low k v rs o.1 q in record { y = t.y; there = or_right (int_le r.0 t.y && int_le t.y r.1) (has rs t.y) t.there; above = t.above; same = t.same })
  where
    both : (a b y : ℤ) → a ≤ℤ y → y ≤ℤ b → (int_le a y && int_le y b) ≡ true
    both a b y p q = rw (le_test a y p) (le_test y b q)

-- The numbers behind the images.

range_has : (low high : ℤ) (set : List (ℤ × ℤ)) (x : ℤ) → is_range low high set ≡ true → low ≤ℤ x → x ≤ℤ high → has set x ≡ true
range_has low high [] x h a b = cc
range_has low high (r ∷ []) x h a b =
    let f = and_parts (int_eq r.0 low) (int_eq r.1 high) h in
    let one = eq_fact r.0 low f.0 in
    let two = eq_fact r.1 high f.1 in
    rw (one, two, le_test low x a) (or_left (int_le x high) false (le_test x high b))
range_has low high (r ∷ s ∷ rs) x h a b = cc

item_at : (items : List (List ℕ × ℤ)) (y : ℤ) → has (map (λ named. (named.1, named.1)) items) y ≡ true → (i : ℕ) × (option_map (λ named. named.1) (slice_get items i) ≡ Some y) × (i < length items)
item_at [] y h = cc
item_at (n ∷ items) y h = either {F = (i : ℕ) × (option_map (λ named. named.1) (slice_get (n ∷ items) i) ≡ Some y) × (i < length (n ∷ items))} (int_le n.1 y && int_le y n.1) (has (map (λ named. (named.1, named.1)) items) y) h
    (λ q. let w = and_parts (int_le n.1 y) (int_le y n.1) q in (0, ap Some (one n.1 y (le_fact n.1 y w.0) (le_fact y n.1 w.1)), omega arith))
    (λ q. let r = item_at items y q in (suc r.0, r.1, omega (arith, r.2)))
  where
    one : (a b : ℤ) → a ≤ℤ b → b ≤ℤ a → a ≡ b
    one a b h k = omega (arith, ints)

-- only an enumeration writes the numbers of its items
item_in : (kind : NumKind) (coding : NumCoding) (items : Items) (table : Option Table) (set : List (ℤ × ℤ)) (i : ℕ) → set_fine kind coding items table set ≡ true → items.values ≡ true → i < length items.items → has set (pos i) ≡ true
item_in Integer coding items table set i s v l = (let n = values_of_integer s in cc)
  where
    values_of_integer : set_fine Integer coding items table set ≡ true → items.values ≡ false
    values_of_integer s = (let a = and_parts (Rattle.acn_num.specs.Ranges.are_ranges set) (Rattle.acn_grammar.specs.Leaves.integer_set_fine coding (Rattle.acn_grammar.specs.Images.ends set) && no_items items) s in no_values items (and_parts (Rattle.acn_grammar.specs.Leaves.integer_set_fine coding (Rattle.acn_grammar.specs.Images.ends set)) (no_items items) a.1).1)
item_in Boolean coding items table set i s v l = (let n = no_values items (and_parts (is_range (pos 0) (pos 1) set) (no_items items) s).1 in cc)
item_in Null coding items table set i s v l = (let n = no_values items (and_parts (is_range (pos 0) (pos 0) set) (no_items items) s).1 in cc)
item_in Enumerated coding items table set i s v l =
    let a = and_parts (nat_lt 0 (length items.items)) (is_range (pos 0) (pos (length items.items - 1)) set && items_fine coding items) s in
    let b = and_parts (is_range (pos 0) (pos (length items.items - 1)) set) (items_fine coding items) a.1 in
    range_has (pos 0) (pos (length items.items - 1)) set (pos i) b.0 (omega (arith, ints)) (last i (length items.items) l)
  where
    last : (i n : ℕ) → i < n → pos i ≤ℤ pos (n - 1)
    last i n h = omega (arith, ints)

record Behind_image (leaf : NumLeaf) (y : ℤ) : Type 0 where
  x : ℤ
  permitted : In leaf.set x
  maps : image_of leaf x ≡ Some y

image_back : (leaf : NumLeaf) → IsTrue (num_fine leaf) → leaf.table ≡ None → (y : ℤ) → has (images_of leaf) y ≡ true → Behind_image leaf y
image_back leaf fine plain y h = by leaf.items.values refl h
  where
    by : (v : Bool) → leaf.items.values ≡ v → has (if v then map (λ named. (named.1, named.1)) leaf.items.items else images_by leaf.table leaf.set) y ≡ true → Behind_image leaf y
    by true e h' =
        let r = item_at leaf.items.items y h' in
        record { x = pos r.0; permitted = item_in leaf.kind leaf.coding leaf.items leaf.table leaf.set r.0 (rules_of leaf fine).set e r.2; maps = ap (λ (b : Bool). if b then item_number leaf.items.items (pos r.0) else image_by leaf.table (pos r.0)) e ∙ r.1 }
    by false e h' =
        record { x = y; permitted = ap (λ (t : Option Table). has (images_by t leaf.set) y) (sym plain) ∙ h'; maps = ap (λ (b : Bool). if b then item_number leaf.items.items y else image_by leaf.table y) e ∙ ap (λ (t : Option Table). image_by t y) plain }

items_ordered : (items : List (List ℕ × ℤ)) → Ordered (map (λ named. (named.1, named.1)) items)
items_ordered [] = tt
items_ordered (n ∷ items) = (omega (arith, ints), items_ordered items)

images_ordered : (leaf : NumLeaf) → IsTrue (num_fine leaf) → leaf.table ≡ None → Ordered (images_of leaf)
images_ordered leaf fine plain = by leaf.items.values
  where
    by : (v : Bool) → Ordered (if v then map (λ named. (named.1, named.1)) leaf.items.items else images_by leaf.table leaf.set)
    by true = items_ordered leaf.items.items
    by false = subst (λ (t : Option Table). Ordered (images_by t leaf.set)) (sym plain) (set_ordered leaf.kind leaf.coding leaf.items leaf.table leaf.set (rules_of leaf fine).set)

-- Bits and their first ones.

first_bits : (p bs : List Bool) → length p ≤ length bs → number bs / 2 ^ (length bs - length p) ≡ number p → take (length p) bs ≡ p
first_bits p bs h e = number_same (take (length p) bs) p (length-take-le (length p) bs h) (number-take (length p) bs h ∙ e)

number_first : (p bs : List Bool) → length p ≤ length bs → take (length p) bs ≡ p → number bs / 2 ^ (length bs - length p) ≡ number p
number_first p bs h e = sym (number-take (length p) bs h) ∙ ap number e

turned-length : (bs : List Bool) → length (turned bs) ≡ length bs
turned-length [] = refl
turned-length (b ∷ bs) = refl

turned-twice : (bs : List Bool) → turned (turned bs) ≡ bs
turned-twice [] = refl
turned-twice (true ∷ bs) = refl
turned-twice (false ∷ bs) = refl

turned-take : (n : ℕ) (bs : List Bool) → take n (turned bs) ≡ turned (take n bs)
turned-take zero bs = refl
turned-take (suc n) [] = refl
turned-take (suc n) (b ∷ bs) = refl

signed_turned : (n : ℕ) (bs : List Bool) → length bs ≡ n → 1 ≤ n → signed_number bs ≡ neg_ℤ (pos (2 ^ (n - 1))) +ℤ pos (number (turned bs))
signed_turned n [] l some = absurd (omega arith)
signed_turned n (b ∷ bs) l some = subst (λ (m : ℕ). signed_number (b ∷ bs) ≡ neg_ℤ (pos (2 ^ m)) +ℤ pos (number (turned (b ∷ bs)))) (rest n (length bs) l) (by b)
  where
    rest : (n m : ℕ) → suc m ≡ n → m ≡ n - 1
    rest n m e = omega arith

    by : (b : Bool) → signed_number (b ∷ bs) ≡ neg_ℤ (pos (2 ^ length bs)) +ℤ pos (number (turned (b ∷ bs)))
    by true = omega (arith, ints)
    by false = omega (arith, ints)

-- A coding whose codes are the bits of a distance from a low end, as they stand or with the first bit turned.

record Reads (leaf : NumLeaf) (p : List Bool) (low : ℤ) (width : ℕ) (order : List Bool → List Bool) : Type 0 where
  code : (x : ℤ) (bs : List Bool) (c : Code Any leaf x bs) → (length bs ≡ width) × (c.image ≡ low +ℤ pos (number (order bs)))
  wide : length p ≤ width
  to : (bs : List Bool) → length p ≤ length bs → number (order bs) / 2 ^ (length bs - length p) ≡ number (order p) → take (length p) bs ≡ p
  from : (bs : List Bool) → length p ≤ length bs → take (length p) bs ≡ p → number (order bs) / 2 ^ (length bs - length p) ≡ number (order p)

abbrev Begun : List Bool → NumLeaf → Type 0
Begun p leaf = LeadAmbiguous p (Some leaf)

begun : (leaf : NumLeaf) (p : List Bool) (x : ℤ) (bs : List Bool) → Code Any leaf x bs → take (length p) bs ≡ p → Begun p leaf
begun leaf p x bs c e = record { number = x; code = bs; codes = c; begins = e }

module _ (leaf : NumLeaf) (fine : IsTrue (num_fine leaf)) (plain : leaf.table ≡ None) (p : List Bool) where
  hit_begins : (low : ℤ) (width : ℕ) (order : List Bool → List Bool) → Reads leaf p low width order → list_any (hits low (width - length p) (number (order p))) (images_of leaf) ≡ true → Begun p leaf
  hit_begins low width order r h =
      let t = hit_any low (width - length p) (number (order p)) (images_of leaf) (images_ordered leaf fine plain) h in
      let i = image_back leaf fine plain t.y t.there in
      let c = each_number_has_a_code Any leaf fine i.x i.permitted in
      let same : c.1.image ≡ t.y = some_same c.1.image t.y (sym c.1.maps ∙ i.maps) in
      let k = r.code i.x c.0 c.1 in
      let far : distance low t.y ≡ number (order c.0) = ap (distance low) (sym same ∙ k.1) ∙ distance_of low (number (order c.0)) in
      let long : length p ≤ length c.0 = omega (arith, r.wide, k.0) in
      let split : number (order c.0) / 2 ^ (length c.0 - length p) ≡ number (order p) = ap (λ (w : ℕ). number (order c.0) / 2 ^ (w - length p)) k.0 ∙ (ap (λ (m : ℕ). m / 2 ^ (width - length p)) (sym far) ∙ t.same) in
      begun leaf p i.x c.0 c.1 (r.to c.0 long split)

  begins_hit : (low : ℤ) (width : ℕ) (order : List Bool → List Bool) → Reads leaf p low width order → Begun p leaf → list_any (hits low (width - length p) (number (order p))) (images_of leaf) ≡ true
  begins_hit low width order r b =
      let c = b.codes in
      let k = r.code b.number b.code c in
      let far : distance low c.image ≡ number (order b.code) = ap (distance low) k.1 ∙ distance_of low (number (order b.code)) in
      let long : length p ≤ length b.code = omega (arith, r.wide, k.0) in
      let split : distance low c.image / 2 ^ (width - length p) ≡ number (order p) = ap (λ (m : ℕ). m / 2 ^ (width - length p)) far ∙ (ap (λ (w : ℕ). number (order b.code) / 2 ^ (w - length p)) (sym k.0) ∙ r.from b.code long b.begins) in
      any_hit low (width - length p) (number (order p)) (images_of leaf) c.image (image_has leaf b.number c.image c.permitted c.maps) (subst (λ (y : ℤ). low ≤ℤ y) (sym k.1) (above_low low (number (order b.code)))) split

  -- the code in the coding that the leaf has
  code_as : (coding : NumCoding) → leaf.coding ≡ coding → leaf.little ≡ false → (x : ℤ) (bs : List Bool) (c : Code Any leaf x bs) → CodingCode Any coding false c.image bs
  code_as coding e l x bs c = subst (λ (k : Bool). CodingCode Any coding k c.image bs) l (subst (λ (z : NumCoding). CodingCode Any z leaf.little c.image bs) e c.spelled)

  reads_range : (low : ℤ) (width : ℕ) → leaf.coding ≡ Range low width → leaf.little ≡ false → length p ≤ width → Reads leaf p low width (λ bs. bs)
  reads_range low width e l w = record {
    code = λ x bs c. (let s = code_as (Range low width) e l x bs c in (s.2.width, s.1 ∙ ap (λ (n : ℕ). low +ℤ pos n) (sym s.2.value)));
    wide = w;
    to = first_bits p;
    from = number_first p;
  }

  reads_pos : (width : ℕ) → leaf.coding ≡ PosInt width → leaf.little ≡ false → length p ≤ width → Reads leaf p (pos 0) width (λ bs. bs)
  reads_pos width e l w = record {
    code = λ x bs c. (let s = code_as (PosInt width) e l x bs c in (s.0, s.1 ∙ none (number bs)));
    wide = w;
    to = first_bits p;
    from = number_first p;
  }
    where
      none : (n : ℕ) → pos n ≡ pos 0 +ℤ pos n
      none n = omega (arith, ints)

  reads_twos : (width : ℕ) → leaf.coding ≡ Twos width → leaf.little ≡ false → length p ≤ width → 1 ≤ width → Reads leaf p (neg_ℤ (pos (2 ^ (width - 1)))) width turned
  reads_twos width e l w some = record {
    code = λ x bs c. (let s = code_as (Twos width) e l x bs c in (s.0, s.1 ∙ signed_turned width bs s.0 some));
    wide = w;
    to = λ bs h q.
        let one = subst (λ (n : ℕ). n ≤ length (turned bs)) (sym (turned-length p)) (subst (λ (n : ℕ). length p ≤ n) (sym (turned-length bs)) h) in
        let two = ap (λ (n : ℕ). number (turned bs) / 2 ^ (n - length (turned p))) (turned-length bs) ∙ (ap (λ (n : ℕ). number (turned bs) / 2 ^ (length bs - n)) (turned-length p) ∙ q) in
        let three = first_bits (turned p) (turned bs) one two in
        let four = ap (λ (n : ℕ). take n (turned bs)) (sym (turned-length p)) ∙ three in
        sym (turned-twice (take (length p) bs)) ∙ (ap turned (sym (turned-take (length p) bs) ∙ four) ∙ turned-twice p);
    from = λ bs h q.
        let one = subst (λ (n : ℕ). n ≤ length (turned bs)) (sym (turned-length p)) (subst (λ (n : ℕ). length p ≤ n) (sym (turned-length bs)) h) in
        let three : take (length (turned p)) (turned bs) ≡ turned p = ap (λ (n : ℕ). take n (turned bs)) (turned-length p) ∙ (turned-take (length p) bs ∙ ap turned q) in
        let two = number_first (turned p) (turned bs) one three in
        sym (ap (λ (n : ℕ). number (turned bs) / 2 ^ (n - length (turned p))) (turned-length bs) ∙ ap (λ (n : ℕ). number (turned bs) / 2 ^ (length bs - n)) (turned-length p)) ∙ two;
  }

  -- Patterns.

  flag_kind : (k : NumKind) (a b : Option (List Bool)) → takes k (Flag a b) ≡ true → k ≡ Boolean
  flag_kind Boolean a b h = refl
  flag_kind Integer a b h = cc
  flag_kind Enumerated a b h = cc
  flag_kind Null a b h = cc

  fixed_kind : (k : NumKind) (a : List Bool) → takes k (Fixed a) ≡ true → k ≡ Null
  fixed_kind Null a h = refl
  fixed_kind Integer a h = cc
  fixed_kind Boolean a h = cc
  fixed_kind Enumerated a h = cc

  itself : leaf.items.values ≡ false → (x : ℤ) → image_of leaf x ≡ Some x
  itself v x = ap (λ (b : Bool). if b then item_number leaf.items.items x else image_by leaf.table x) v ∙ ap (λ (t : Option Table). image_by t x) plain

  flag_code : (a b : Option (List Bool)) → leaf.coding ≡ Flag a b → (x : ℤ) (bs : List Bool) → pos 0 ≤ℤ x → x ≤ℤ pos 1 → FlagCode Any a b x bs → Code Any leaf x bs
  flag_code a b e x bs low high s =
      let r = rules_of leaf fine in
      let k = flag_kind leaf.kind a b (ap (takes leaf.kind) (sym e) ∙ r.kind) in
      let set = subst (λ (z : NumKind). set_fine z leaf.coding leaf.items leaf.table leaf.set ≡ true) k r.set in
      let f = and_parts (is_range (pos 0) (pos 1) leaf.set) (no_items leaf.items) set in
      record {
        permitted = range_has (pos 0) (pos 1) leaf.set x f.0 low high;
        image = x;
        maps = itself (no_values leaf.items f.1) x;
        spelled = subst (λ (z : NumCoding). CodingCode Any z leaf.little x bs) (sym e) s;
      }

  fixed_code : (a : List Bool) → leaf.coding ≡ Fixed a → Code Any leaf (pos 0) a
  fixed_code a e =
      let r = rules_of leaf fine in
      let k = fixed_kind leaf.kind a (ap (takes leaf.kind) (sym e) ∙ r.kind) in
      let set = subst (λ (z : NumKind). set_fine z leaf.coding leaf.items leaf.table leaf.set ≡ true) k r.set in
      let f = and_parts (is_range (pos 0) (pos 0) leaf.set) (no_items leaf.items) set in
      record {
        permitted = range_has (pos 0) (pos 0) leaf.set (pos 0) f.0 (omega (arith, ints)) (omega (arith, ints));
        image = pos 0;
        maps = itself (no_values leaf.items f.1) (pos 0);
        spelled = subst (λ (z : NumCoding). CodingCode Any z leaf.little (pos 0) a) (sym e) (refl, refl);
      }

begins_is : (p whole : List Bool) → begins p whole ≡ true → take (length p) whole ≡ p
begins_is p whole h = same_bits-is (take (length p) whole) p (and_parts (nat_le (length p) (length whole)) (same_bits (take (length p) whole) p) h).1

is_begins : (p whole : List Bool) → length p ≤ length whole → take (length p) whole ≡ p → begins p whole ≡ true
is_begins p whole l e = rw (le-leb (length p) (length whole) l) (ap (λ (x : List Bool). same_bits x p) e ∙ same_bits-refl p)

-- the pattern, and what fills it up to the length of another
abbrev filled_to : List Bool → ℕ → List Bool
filled_to p n = p ++ replicate (n - length p) false

replicate-length : (n : ℕ) → length (replicate n false) ≡ n
replicate-length zero = refl
replicate-length (suc n) = ap suc (replicate-length n)

filled-length : (p : List Bool) (n : ℕ) → length p ≤ n → length (filled_to p n) ≡ n
filled-length p n h = omega (arith, length-append p (replicate (n - length p) false), replicate-length (n - length p), h)

module _ (leaf : NumLeaf) (fine : IsTrue (num_fine leaf)) (plain : leaf.table ≡ None) (p : List Bool) (some : 1 ≤ length p) where
  two_patterns : (a b : List Bool) → leaf.coding ≡ Flag (Some a) (Some b) → (begins p a || begins p b) ≡ true → Begun p leaf
  two_patterns a b e h = either {F = Begun p leaf} (begins p a) (begins p b) h
      (λ q. begun leaf p (pos 1) a (flag_code leaf fine plain p (Some a) (Some b) e (pos 1) a (omega (arith, ints)) (omega (arith, ints)) (inl (refl, refl))) (begins_is p a q))
      (λ q. begun leaf p (pos 0) b (flag_code leaf fine plain p (Some a) (Some b) e (pos 0) b (omega (arith, ints)) (omega (arith, ints)) (inr (refl, refl))) (begins_is p b q))

  -- with one pattern every other one of its length is a code, so one of them begins so
  one_pattern : (a : List Bool) → leaf.coding ≡ Flag (Some a) None → length p ≤ length a → Begun p leaf
  one_pattern a e w = by (same_bits c a) refl
    where
      c : List Bool
      c = filled_to p (length a)

      by : (t : Bool) → same_bits c a ≡ t → Begun p leaf
      by true h = begun leaf p (pos 1) c (flag_code leaf fine plain p (Some a) None e (pos 1) c (omega (arith, ints)) (omega (arith, ints)) (inl (refl, same_bits-is c a h))) (take-append_seam p (replicate (length a - length p) false))
      by false h = begun leaf p (pos 0) c (flag_code leaf fine plain p (Some a) None e (pos 0) c (omega (arith, ints)) (omega (arith, ints)) (inr (refl, (filled-length p (length a) w, patterns_differ c a h)))) (take-append_seam p (replicate (length a - length p) false))

  other_pattern : (b : List Bool) → leaf.coding ≡ Flag None (Some b) → length p ≤ length b → Begun p leaf
  other_pattern b e w = by (same_bits c b) refl
    where
      c : List Bool
      c = filled_to p (length b)

      by : (t : Bool) → same_bits c b ≡ t → Begun p leaf
      by true h = begun leaf p (pos 0) c (flag_code leaf fine plain p None (Some b) e (pos 0) c (omega (arith, ints)) (omega (arith, ints)) (inl (refl, same_bits-is c b h))) (take-append_seam p (replicate (length b - length p) false))
      by false h = begun leaf p (pos 1) c (flag_code leaf fine plain p None (Some b) e (pos 1) c (omega (arith, ints)) (omega (arith, ints)) (inr (refl, (filled-length p (length b) w, patterns_differ c b h)))) (take-append_seam p (replicate (length b - length p) false))

  one_bit : leaf.coding ≡ Flag None None → (q : List Bool) → q ≡ p → length q ≤ 1 → Begun p leaf
  one_bit e [] is w = absurd (let l = ap length is in omega arith)
  one_bit e (true ∷ []) is w = begun leaf p (pos 1) (true ∷ []) (flag_code leaf fine plain p None None e (pos 1) (true ∷ []) (omega (arith, ints)) (omega (arith, ints)) (1, refl, record { width = refl; value = refl })) (subst (λ (z : List Bool). take (length z) (true ∷ []) ≡ z) is refl)
  one_bit e (false ∷ []) is w = begun leaf p (pos 0) (false ∷ []) (flag_code leaf fine plain p None None e (pos 0) (false ∷ []) (omega (arith, ints)) (omega (arith, ints)) (0, refl, record { width = refl; value = refl })) (subst (λ (z : List Bool). take (length z) (false ∷ []) ≡ z) is refl)
  one_bit e (x ∷ y ∷ q) is w = absurd (omega arith)

  long_enough : (z : List Bool) → take (length p) z ≡ p → length p ≤ length z
  long_enough z q = omega (arith, length-take (length p) z, ap length q)

  either_pattern : (a b : List Bool) (x : ℤ) (bs : List Bool) → FlagCode Any (Some a) (Some b) x bs → take (length p) bs ≡ p → (begins p a || begins p b) ≡ true
  either_pattern a b x bs (inl h) q = (let s = ap (take (length p)) (sym h.1) ∙ q in or_left (begins p a) (begins p b) (is_begins p a (long_enough a s) s))
  either_pattern a b x bs (inr h) q = (let s = ap (take (length p)) (sym h.1) ∙ q in or_right (begins p a) (begins p b) (is_begins p b (long_enough b s) s))

  -- exactly where the test says so
  pub begins_law : (coding : NumCoding) → leaf.coding ≡ coding → leaf.little ≡ false → is_wide (length p) coding ≡ true
      → (begins_by p coding (images_of leaf) ≡ true → Begun p leaf) × (Begun p leaf → begins_by p coding (images_of leaf) ≡ true)
  begins_law (Range low width) e l w =
      let r = reads_range leaf fine plain p low width e l (leb-true (length p) width w) in
      (hit_begins leaf fine plain p low width (λ bs. bs) r, begins_hit leaf fine plain p low width (λ bs. bs) r)
  begins_law (PosInt width) e l w =
      let r = reads_pos leaf fine plain p width e l (leb-true (length p) width w) in
      (hit_begins leaf fine plain p (pos 0) width (λ bs. bs) r, begins_hit leaf fine plain p (pos 0) width (λ bs. bs) r)
  begins_law (Twos width) e l w =
      let long = leb-true (length p) width w in
      let r = reads_twos leaf fine plain p width e l long (omega arith) in
      (hit_begins leaf fine plain p (neg_ℤ (pos (2 ^ (width - 1)))) width turned r, begins_hit leaf fine plain p (neg_ℤ (pos (2 ^ (width - 1)))) width turned r)
  begins_law (Flag (Some a) (Some b)) e l w = (two_patterns a b e, λ t. either_pattern a b t.codes.image t.code (code_as leaf fine plain p (Flag (Some a) (Some b)) e l t.number t.code t.codes) t.begins)
  begins_law (Flag (Some a) None) e l w = ((λ h. one_pattern a e (leb-true (length p) (length a) w)), λ t. refl)
  begins_law (Flag None (Some b)) e l w = ((λ h. other_pattern b e (leb-true (length p) (length b) w)), λ t. refl)
  begins_law (Flag None None) e l w = ((λ h. one_bit e p refl (leb-true (length p) 1 w)), λ t. refl)
  begins_law (Fixed a) e l w = (
    (λ h. record { number = pos 0; code = a; codes = fixed_code leaf fine plain p a e; begins = begins_is p a h }),
    λ t. (let s = code_as leaf fine plain p (Fixed a) e l t.number t.code t.codes in is_begins p a (leb-true (length p) (length a) w) (ap (take (length p)) (sym s.1) ∙ t.begins)),
  )
  begins_law (CountedFrom low) e l w = cc
  begins_law CountedSigned e l w = cc
  begins_law (Bcd n) e l w = cc
  begins_law BcdEnded e l w = cc
  begins_law (Ascii n signed) e l w = cc
  begins_law (AsciiEnded end signed) e l w = cc
