-- What is drawn from a set is in it.
use Rattle.std.proofs.Common.{◌≡◌, ℕ, ◌-◌, ◌<◌, ◌≤◌, ℤ, pos, ◌+ℤ◌, ◌≤ℤ◌, ◌<ℤ◌, Bool, true, false, List, [], ◌∷◌, Option, Some, length, refl, sym, arith, nat_lt, min, ◌&&◌}
use Rattle.std.specs.Prelude.{int_le, int_lt, if◌then◌else◌, unwrap_or}
use Rattle.std.proofs.lemmas.Int.{ints}
use Rattle.std.proofs.lemmas.Bool.Decides.{nat_tests}
use Rattle.acn_num.specs.Ranges.{has, is_in, count, nth, size_of, are_ranges, are_ranges_above, all_within}
use Rattle.std.proofs.Math.Nat.{mod-lt}
use Rattle.std.specs.Ordering.{int_eq}
use Rattle.acn_grammar.specs.Images.{ends}
use Rattle.acn_grammar.specs.Leaves.{set_fine, integer_set_fine, no_items, is_range, items_fine, sizes_fine, text_fine, end_fine}
use Rattle.acn_tree.specs.Made.{at_place, pick, number}
use Rattle.acn_grammar.specs.declared.node.Items.{Items}
use Rattle.acn_grammar.specs.declared.node.NumCoding.{NumCoding}
use Rattle.acn_grammar.specs.declared.node.NumKind.{NumKind}
use Rattle.acn_grammar.specs.declared.node.NumKind.TheVariants.{Integer, Boolean, Enumerated, Null}
use Rattle.acn_grammar.specs.declared.node.Table.{Table}
use Rattle.acn_grammar.specs.declared.node.TextLeaf.{TextLeaf}
use Rattle.std.proofs.lemmas.Bool.{or_left, or_right, and_parts}
use Rattle.acn_grammar.proofs.WholeTests.{le_fact, le_test, eq_fact}
use Rattle.acn_grammar.proofs.RangeEnds.{ranges_from, lies_within}

here_in : (r : ℤ × ℤ) (n : ℕ) → r.0 ≤ℤ r.1 → n < size_of r → is_in (r.0 +ℤ pos n) r ≡ true
here_in r n o h = rw (le_test r.0 (r.0 +ℤ pos n) (omega (arith, ints)), le_test (r.0 +ℤ pos n) r.1 (omega (arith, ints)))

place_by : (r : ℤ × ℤ) (rs : List (ℤ × ℤ)) (n : ℕ) (t : Bool) → t ≡ nat_lt n (size_of r) → r.0 ≤ℤ r.1 → (size_of r ≤ n → has rs (at_place rs (n - size_of r)) ≡ true)
    → has (r ∷ rs) (unwrap_or (if t then Some (r.0 +ℤ pos n) else nth rs (n - size_of r)) (pos 0)) ≡ true
place_by r rs n true e o f = or_left (is_in (r.0 +ℤ pos n) r) (has rs (r.0 +ℤ pos n)) (here_in r n o (less n (size_of r) (sym e)))
  where
    less : (a b : ℕ) → nat_lt a b ≡ true → a < b
    less a b h = grind (arith, nat_tests)
place_by r rs n false e o f = or_right (is_in (at_place rs (n - size_of r)) r) (has rs (at_place rs (n - size_of r))) (f (not_less n (size_of r) (sym e)))
  where
    not_less : (a b : ℕ) → nat_lt a b ≡ false → b ≤ a
    not_less a b h = grind (arith, nat_tests)

place_above : (b : ℤ) (rs : List (ℤ × ℤ)) (n : ℕ) → are_ranges_above b rs ≡ true → n < count rs → has rs (at_place rs n) ≡ true
place_above b [] n h k = absurd (omega arith)
place_above b (r ∷ rs) n h k =
    let f = and_parts (int_lt b r.0) (int_le r.0 r.1 && are_ranges_above (r.1 +ℤ pos 1) rs) h in
    let g = and_parts (int_le r.0 r.1) (are_ranges_above (r.1 +ℤ pos 1) rs) f.1 in
    place_by r rs n (nat_lt n (size_of r)) refl (le_fact r.0 r.1 g.0) (λ m. place_above (r.1 +ℤ pos 1) rs (n - size_of r) g.1 (omega arith))

-- the number at a place below the count is in the set
pub place_in_set : (rs : List (ℤ × ℤ)) (n : ℕ) → are_ranges rs ≡ true → n < count rs → has rs (at_place rs n) ≡ true
place_in_set rs n h k = let b = ranges_from rs h in place_above b.0 rs n b.1 k

-- a set with a range has numbers
pub some_numbers : (rs : List (ℤ × ℤ)) → nat_lt 0 (length rs) ≡ true → 0 < count rs
some_numbers [] h = cc
some_numbers (r ∷ rs) h = omega arith

pub number_in : (set : List (ℤ × ℤ)) (s : ℕ) → are_ranges set ≡ true → 0 < count set → has set (number set s).value ≡ true
number_in set s h k = place_in_set set (pick (count set) s).value h (mod-lt _ k)

-- Sizes.

-- what the rule of sizes says
pub record SizesFine (sizes : List (ℤ × ℤ)) : Type 0 where
  pub some : 0 < count sizes
  pub ranges : are_ranges sizes ≡ true
  pub small : all_within (pos 0) (pos 65536) sizes ≡ true

pub sizes_are : (sizes : List (ℤ × ℤ)) → sizes_fine sizes ≡ true → SizesFine sizes
sizes_are sizes h =
    let a = and_parts (nat_lt 0 (length sizes)) (are_ranges sizes && all_within (pos 0) (pos 65536) sizes) h in
    let b = and_parts (are_ranges sizes) (all_within (pos 0) (pos 65536) sizes) a.1 in
    record { some = some_numbers sizes a.0; ranges = b.0; small = b.1 }

abbrev pub size_number : List (ℤ × ℤ) → ℕ → ℤ
size_number sizes s = at_place sizes (pick (min (count sizes) 8) s).value

pub size_in : (sizes : List (ℤ × ℤ)) (s : ℕ) → SizesFine sizes → has sizes (size_number sizes s) ≡ true
size_in sizes s f =
    let some = f.some in
    let few : min (count sizes) 8 ≤ count sizes = omega arith in
    place_in_set sizes (pick (min (count sizes) 8) s).value f.ranges (below (pick (min (count sizes) 8) s).value (min (count sizes) 8) (count sizes) (mod-lt _ (omega arith)) few)
  where
    below : (a b c : ℕ) → a < b → b ≤ c → a < c
    below a b c h k = omega arith

pub size_small : (sizes : List (ℤ × ℤ)) (s : ℕ) → sizes_fine sizes ≡ true → (pos 0 ≤ℤ size_number sizes s) × (size_number sizes s ≤ℤ pos 65536)
size_small sizes s h = let f = sizes_are sizes h in lies_within sizes (pos 0) (pos 65536) (size_number sizes s) f.small (size_in sizes s f)

-- Numbers.

-- a set that is one range
pub record OneRange (low high : ℤ) (set : List (ℤ × ℤ)) : Type 0 where
  pub some : 0 < count set
  pub ranges : are_ranges set ≡ true
  pub within : all_within low high set ≡ true

pub one_range : (low high : ℤ) (set : List (ℤ × ℤ)) → low ≤ℤ high → is_range low high set ≡ true → OneRange low high set
one_range low high [] o h = cc
one_range low high (r ∷ []) o h =
    let a = and_parts (int_eq r.0 low) (int_eq r.1 high) h in
    let b = eq_fact r.0 low a.0 in
    let c = eq_fact r.1 high a.1 in
    record {
      some = omega arith;
      ranges = rw (le_test r.0 r.1 (omega (arith, ints)));
      within = rw (le_test low r.0 (omega (arith, ints)), le_test r.1 high (omega (arith, ints)));
    }
one_range low high (r ∷ q ∷ rs) o h = cc

some_ends : (coding : NumCoding) (set : List (ℤ × ℤ)) → integer_set_fine coding (ends set) ≡ true → 0 < count set
some_ends coding [] h = cc
some_ends coding (r ∷ rs) h = omega arith

pub item_range : (coding : NumCoding) (items : Items) (table : Option Table) (set : List (ℤ × ℤ)) → set_fine Enumerated coding items table set ≡ true
    → OneRange (pos 0) (pos (length items.items - 1)) set × (0 < length items.items)
item_range coding items table set h =
    let a = and_parts (nat_lt 0 (length items.items)) (is_range (pos 0) (pos (length items.items - 1)) set && items_fine coding items) h in
    let b = and_parts (is_range (pos 0) (pos (length items.items - 1)) set) (items_fine coding items) a.1 in
    (one_range (pos 0) (pos (length items.items - 1)) set (omega (arith, ints)) b.0, less (length items.items) a.0)
  where
    less : (n : ℕ) → nat_lt 0 n ≡ true → 0 < n
    less n h = grind (arith, nat_tests)

-- a leaf's set has numbers, in order
pub leaf_set : (kind : NumKind) (coding : NumCoding) (items : Items) (table : Option Table) (set : List (ℤ × ℤ)) → set_fine kind coding items table set ≡ true
    → (0 < count set) × (are_ranges set ≡ true)
leaf_set Integer coding items table set h =
    let a = and_parts (are_ranges set) (integer_set_fine coding (ends set) && no_items items) h in
    let b = and_parts (integer_set_fine coding (ends set)) (no_items items) a.1 in
    (some_ends coding set b.0, a.0)
leaf_set Boolean coding items table set h = let o = one_range (pos 0) (pos 1) set (omega (arith, ints)) (and_parts (is_range (pos 0) (pos 1) set) (no_items items) h).0 in (o.some, o.ranges)
leaf_set Null coding items table set h = let o = one_range (pos 0) (pos 0) set (omega (arith, ints)) (and_parts (is_range (pos 0) (pos 0) set) (no_items items) h).0 in (o.some, o.ranges)
leaf_set Enumerated coding items table set h = let o = item_range coding items table set h in (o.0.some, o.0.ranges)

-- the index of an item
pub item_small : (coding : NumCoding) (items : Items) (table : Option Table) (set : List (ℤ × ℤ)) (s : ℕ) → set_fine Enumerated coding items table set ≡ true
    → (pos 0 ≤ℤ (number set s).value) × ((number set s).value <ℤ pos (length items.items))
item_small coding items table set s h =
    let o = item_range coding items table set h in
    let w = lies_within set (pos 0) (pos (length items.items - 1)) (number set s).value o.0.within (number_in set s o.0.ranges o.0.some) in
    let p = o.1 in
    (w.0, under (number set s).value (length items.items) p w.1)
  where
    under : (x : ℤ) (n : ℕ) → 0 < n → x ≤ℤ pos (n - 1) → x <ℤ pos n
    under x n h k = omega (arith, ints)

-- Characters.

pub record AlphabetFine (alphabet : List (ℤ × ℤ)) : Type 0 where
  pub some : 0 < count alphabet
  pub ranges : are_ranges alphabet ≡ true
  pub small : all_within (pos 0) (pos 127) alphabet ≡ true

pub alphabet_is : (leaf : TextLeaf) → text_fine leaf ≡ true → (sizes_fine leaf.sized.sizes ≡ true) × AlphabetFine leaf.alphabet
alphabet_is leaf h =
    let a = and_parts (sizes_fine leaf.sized.sizes) (nat_lt 0 (length leaf.alphabet) && (are_ranges leaf.alphabet && (all_within (pos 0) (pos 127) leaf.alphabet && end_fine leaf.ended leaf))) h in
    let b = and_parts (nat_lt 0 (length leaf.alphabet)) (are_ranges leaf.alphabet && (all_within (pos 0) (pos 127) leaf.alphabet && end_fine leaf.ended leaf)) a.1 in
    let c = and_parts (are_ranges leaf.alphabet) (all_within (pos 0) (pos 127) leaf.alphabet && end_fine leaf.ended leaf) b.1 in
    let d = and_parts (all_within (pos 0) (pos 127) leaf.alphabet) (end_fine leaf.ended leaf) c.1 in
    (a.0, record { some = some_numbers leaf.alphabet b.0; ranges = c.0; small = d.0 })

pub character_small : (alphabet : List (ℤ × ℤ)) (s : ℕ) → AlphabetFine alphabet → (pos 0 ≤ℤ (number alphabet s).value) × ((number alphabet s).value ≤ℤ pos 127)
character_small alphabet s f = lies_within alphabet (pos 0) (pos 127) (number alphabet s).value f.small (number_in alphabet s f.ranges f.some)
