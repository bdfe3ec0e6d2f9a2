-- The rules of texts and of their sizes, by name: so what is permitted can be written in the bits that there are for it.
use Rattle.std.proofs.Common.{◌≡◌, ℕ, ◌+◌, ◌-◌, ◌^◌, ◌<◌, ◌≤◌, ℤ, pos, ◌+ℤ◌, ◌-ℤ◌, nat_abs, Bool, true, false, not, List, [], ◌∷◌, length, Option, Some, None, refl, sym, arith, ◌&&◌, ◌||◌, nat_eq, nat_lt, nat_le, int_eq, subst, ◌*◌, ◌/◌, ◌%◌}
use Rattle.std.specs.Prelude.{int_le, int_lt, ◌≤ℤ◌}
use Rattle.std.proofs.lemmas.Int.{ints}
use Rattle.std.proofs.lemmas.Bool.Decides.{nat_tests}
use Rattle.acn_num.specs.Bits.{is_least_width}
use Rattle.acn_num.specs.Ranges.{has, least, greatest, are_ranges, are_ranges_above, all_within, distance, count}
use Rattle.acn_grammar.specs.Leaves.{sizes_fine, prefix_fine, text_fine, end_fine, width_fine, rule_fine, no_size, holds_characters, same_truth, is_beyond, is_terminator, is_pattern}
use Rattle.acn_grammar.specs.Spell.{place_in, character_number}
use Rattle.acn_grammar.specs.declared.node.TextLeaf.{TextLeaf}
use Rattle.std.proofs.lemmas.Bool.{and_parts, not-true, eqb-true, leb-true, ltb-true}
use Rattle.acn_grammar.proofs.WholeTests.{either, le_fact, eq_fact}
use Rattle.acn_grammar.proofs.RangeEnds.{ranges_from, from_least, to_greatest, lies_within, some_greatest}
use Rattle.acn_grammar.specs.Length.{rule_width}
use Rattle.acn_grammar.specs.declared.limits.TheConstants.{MOST_PATTERN_BITS}
use Rattle.acn_num.specs.declared.limits.TheConstants.{MOST_SIZE}
use Rattle.acn_grammar.specs.declared.node.SizeRule.{SizeRule}
use Rattle.acn_grammar.specs.declared.node.SizeRule.TheVariants.{Prefix, Slot, Ended}

-- The rules of a text by name.
pub record TextRules (leaf : TextLeaf) : Type 0 where
  pub sizes : sizes_fine leaf.sized.sizes ≡ true
  pub some : 0 < length leaf.alphabet
  pub ranges : are_ranges leaf.alphabet ≡ true
  pub small : all_within (pos 0) (pos 127) leaf.alphabet ≡ true
  pub end : end_fine leaf.ended leaf ≡ true

pub text_rules : (leaf : TextLeaf) → text_fine leaf ≡ true → TextRules leaf
text_rules leaf f =
    let a = and_parts (sizes_fine leaf.sized.sizes) (nat_lt 0 (length leaf.alphabet) && (are_ranges leaf.alphabet && (all_within (pos 0) (pos 127) leaf.alphabet && end_fine leaf.ended leaf))) f in
    let b = and_parts (nat_lt 0 (length leaf.alphabet)) (are_ranges leaf.alphabet && (all_within (pos 0) (pos 127) leaf.alphabet && end_fine leaf.ended leaf)) a.1 in
    let c = and_parts (are_ranges leaf.alphabet) (all_within (pos 0) (pos 127) leaf.alphabet && end_fine leaf.ended leaf) b.1 in
    let d = and_parts (all_within (pos 0) (pos 127) leaf.alphabet) (end_fine leaf.ended leaf) c.1 in
    record { sizes = a.0; some = ltb-true 0 (length leaf.alphabet) b.0; ranges = c.0; small = d.0; end = d.1 }

-- The rules of one that ends.
pub record EndRules (leaf : TextLeaf) (end : List Bool) : Type 0 where
  pub rule : no_size leaf.sized.rule ≡ true
  pub width : leaf.width ≡ 8
  pub plain : leaf.indexed ≡ false
  pub octets : length end ≡ 8 * (length end / 8)
  pub some : 1 ≤ length end / 8
  pub few : length end ≤ MOST_PATTERN_BITS

pub end_rules : (leaf : TextLeaf) (end : List Bool) → end_fine (Some end) leaf ≡ true → EndRules leaf end
end_rules leaf end f =
    let a = and_parts (no_size leaf.sized.rule) (nat_eq leaf.width 8 && (not leaf.indexed && is_terminator end)) f in
    let b = and_parts (nat_eq leaf.width 8) (not leaf.indexed && is_terminator end) a.1 in
    let c = and_parts (not leaf.indexed) (is_terminator end) b.1 in
    let d = and_parts (is_pattern end) (nat_eq (length end % 8) 0) c.1 in
    let p = and_parts (nat_le 1 (length end)) (nat_le (length end) MOST_PATTERN_BITS) d.0 in
    let low = leb-true 1 (length end) p.0 in
    let high = leb-true (length end) MOST_PATTERN_BITS p.1 in
    let whole = eqb-true (length end % 8) 0 d.1 in
    record { rule = a.0; width = eqb-true leaf.width 8 b.0; plain = not-true leaf.indexed c.0; octets = omega arith; some = omega arith; few = high }

-- a pattern has a bit
pub some_bits : (bits : List Bool) → is_pattern bits ≡ true → 1 ≤ length bits
some_bits bits h = leb-true 1 (length bits) (and_parts (nat_le 1 (length bits)) (nat_le (length bits) MOST_PATTERN_BITS) h).0

-- nothing stands in front where there is no size
pub no_width : (rule : SizeRule) → no_size rule ≡ true → rule_width rule ≡ 0
no_width (Prefix low width) h = eqb-true width 0 (and_parts (nat_eq low 0) (nat_eq width 0) h).1
no_width (Slot s) h = cc
no_width (Ended p) h = cc

-- The rules of sizes by name.
pub record SizeRules (sizes : List (ℤ × ℤ)) : Type 0 where
  pub some : nat_lt 0 (length sizes) ≡ true
  pub ranges : are_ranges sizes ≡ true
  pub small : all_within (pos 0) (pos MOST_SIZE) sizes ≡ true

pub size_rules : (sizes : List (ℤ × ℤ)) → sizes_fine sizes ≡ true → SizeRules sizes
size_rules sizes h =
    let a = and_parts (nat_lt 0 (length sizes)) (are_ranges sizes && all_within (pos 0) (pos MOST_SIZE) sizes) h in
    let b = and_parts (are_ranges sizes) (all_within (pos 0) (pos MOST_SIZE) sizes) a.1 in
    record { some = a.0; ranges = b.0; small = b.1 }

-- a permitted size is at most the limit
pub size_few : (sizes : List (ℤ × ℤ)) (n : ℕ) → sizes_fine sizes ≡ true → has sizes (pos n) ≡ true → n ≤ MOST_SIZE
size_few sizes n h p = let w = (lies_within sizes (pos 0) (pos MOST_SIZE) (pos n) (size_rules sizes h).small p).1 in omega (arith, ints)

pub small_character : (rs : List (ℤ × ℤ)) (c : ℕ) → all_within (pos 0) (pos 127) rs ≡ true → has rs (pos c) ≡ true → c < 128
small_character rs c h p = let w = (lies_within rs (pos 0) (pos 127) (pos c) h p).1 in omega (arith, ints)

-- A size in front.

pub prefix_fits : (sizes : List (ℤ × ℤ)) (low width n : ℕ) → sizes_fine sizes ≡ true → prefix_fine low width (least sizes) (greatest sizes) ≡ true → has sizes (pos n) ≡ true → (low ≤ n) × (n - low < 2 ^ width)
prefix_fits sizes low width n s f h = by (least sizes) (greatest sizes) refl refl f
  where
    lies : (low n w : ℕ) (z : ℤ) → pos low ≤ℤ pos n → pos n ≤ℤ z → nat_abs (z -ℤ pos low) < w → (low ≤ n) × (n - low < w)
    lies low n w z a b c = (omega (arith, ints), omega (arith, ints))

    by : (a z : Option ℤ) → least sizes ≡ a → greatest sizes ≡ z → prefix_fine low width a z ≡ true → (low ≤ n) × (n - low < 2 ^ width)
    by None z e g t = cc
    by (Some a) None e g t = cc
    by (Some a) (Some z) e g t =
        let p = and_parts (int_eq (pos low) a) (is_least_width (distance a z) width) t in
        let q = and_parts (nat_lt (distance a z) (2 ^ width)) (nat_eq width 0 || nat_le (2 ^ (width - 1)) (distance a z)) p.1 in
        let is : a ≡ pos low = sym (eq_fact (pos low) a p.0) in
        let r = ranges_from sizes (size_rules sizes s).ranges in
        lies low n (2 ^ width) z (subst (λ x. x ≤ℤ pos n) is (from_least r.0 sizes (pos n) a r.1 h e)) (to_greatest r.0 sizes (pos n) z r.1 h g)
        (subst (λ x. nat_abs (z -ℤ x) < 2 ^ width) is (ltb-true (distance a z) (2 ^ width) q.0))

-- Characters.

place_below : (b : ℤ) (rs : List (ℤ × ℤ)) (x : ℤ) → are_ranges_above b rs ≡ true → has rs x ≡ true → place_in rs x < count rs
place_below b [] x h p = cc
place_below b (r ∷ rs) x h p =
    let f = and_parts (int_lt b r.0) (int_le r.0 r.1 && are_ranges_above (r.1 +ℤ pos 1) rs) h in
    let g = and_parts (int_le r.0 r.1) (are_ranges_above (r.1 +ℤ pos 1) rs) f.1 in
    let low = from_least b (r ∷ rs) x r.0 h p refl in
    by (int_le x r.1) refl low (λ q. place_below (r.1 +ℤ pos 1) rs x g.1 q)
  where
    closer : (a x c : ℤ) → a ≤ℤ x → x ≤ℤ c → nat_abs (x -ℤ a) ≤ nat_abs (c -ℤ a)
    closer a x c h k = omega (arith, ints)

    by : (t : Bool) → int_le x r.1 ≡ t → r.0 ≤ℤ x → (has rs x ≡ true → place_in rs x < count rs) → place_in (r ∷ rs) x < count (r ∷ rs)
    by true e low later =
        let is : place_in (r ∷ rs) x ≡ nat_abs (x -ℤ r.0) = rw e refl in
        let high = le_fact x r.1 e in
        let near = closer r.0 x r.1 low high in
        omega arith
    by false e low later =
        let is : place_in (r ∷ rs) x ≡ nat_abs (r.1 -ℤ r.0) + 1 + place_in rs x = rw e refl in
        let rest = later (either {F = has rs x ≡ true} (int_le r.0 x && int_le x r.1) (has rs x) p (λ q. let t = (and_parts (int_le r.0 x) (int_le x r.1) q).1 in cc) (λ q. q)) in
        omega arith

octet_wide : (c width : ℕ) → c < 128 → width ≡ 8 → c < 2 ^ width
octet_wide c width h e = subst (λ w. c < 2 ^ w) (sym e) (omega (arith, h))

not_beyond : (width : ℕ) (rs : List (ℤ × ℤ)) (c : ℕ) → are_ranges rs ≡ true → has rs (pos c) ≡ true → is_beyond width (greatest rs) ≡ false → c < 2 ^ width
not_beyond width rs c s h f = by (greatest rs) refl f
  where
    lower : (w c : ℕ) (z : ℤ) → int_le (pos w) z ≡ false → pos c ≤ℤ z → c < w
    lower w c z e l = grind (arith, ints, nat_tests)

    by : (z : Option ℤ) → greatest rs ≡ z → is_beyond width z ≡ false → c < 2 ^ width
    by None e g = absurd (some_greatest rs (pos c) e h)
    by (Some z) e g = let r = ranges_from rs s in lower (2 ^ width) c z g (to_greatest r.0 rs (pos c) z r.1 h e)

numbered : (leaf : TextLeaf) (c : ℕ) → leaf.indexed ≡ false → character_number leaf c ≡ c
numbered leaf c e = rw e refl

by_place : (leaf : TextLeaf) (c : ℕ) → are_ranges leaf.alphabet ≡ true → has leaf.alphabet (pos c) ≡ true → holds_characters (count leaf.alphabet) leaf.width ≡ true → (i : Bool) → leaf.indexed ≡ i → same_truth i (is_beyond leaf.width (greatest leaf.alphabet)) ≡ true → character_number leaf c < 2 ^ leaf.width
by_place leaf c s h w true e t =
    let r = ranges_from leaf.alphabet s in
    let below = place_below r.0 leaf.alphabet (pos c) r.1 h in
    let fits = leb-true (count leaf.alphabet) (2 ^ leaf.width) (and_parts (nat_le (count leaf.alphabet) (2 ^ leaf.width)) (nat_eq leaf.width 0 || nat_lt (2 ^ (leaf.width - 1)) (count leaf.alphabet)) w).0 in
    let is : character_number leaf c ≡ place_in leaf.alphabet (pos c) = rw e refl in
    omega arith
by_place leaf c s h w false e t = subst (λ n. n < 2 ^ leaf.width) (sym (numbered leaf c e)) (not_beyond leaf.width leaf.alphabet c s h (not-true (is_beyond leaf.width (greatest leaf.alphabet)) t))

plain_fits : (leaf : TextLeaf) (c : ℕ) → c < 128 → leaf.width ≡ 8 → leaf.indexed ≡ false → character_number leaf c < 2 ^ leaf.width
plain_fits leaf c h w i = subst (λ n. n < 2 ^ leaf.width) (sym (numbered leaf c i)) (octet_wide c leaf.width h w)

pub character_fits : (leaf : TextLeaf) → TextRules leaf → (end : Option (List Bool)) → end_fine end leaf ≡ true → (c : ℕ) → has leaf.alphabet (pos c) ≡ true → character_number leaf c < 2 ^ leaf.width
character_fits leaf r (Some end) f c h = let e = end_rules leaf end f in plain_fits leaf c (small_character leaf.alphabet c r.small h) e.width e.plain
character_fits leaf r None f c h =
    either {F = character_number leaf c < 2 ^ leaf.width} (nat_eq leaf.width 8 && not leaf.indexed) (holds_characters (count leaf.alphabet) leaf.width && same_truth leaf.indexed (is_beyond leaf.width (greatest leaf.alphabet)))
    (and_parts (rule_fine leaf.sized.sizes leaf.sized.rule) (width_fine leaf) f).1
    (λ q. let b = and_parts (nat_eq leaf.width 8) (not leaf.indexed) q in plain_fits leaf c (small_character leaf.alphabet c r.small h) (eqb-true leaf.width 8 b.0) (not-true leaf.indexed b.1))
    (λ q.
    let b = and_parts (holds_characters (count leaf.alphabet) leaf.width) (same_truth leaf.indexed (is_beyond leaf.width (greatest leaf.alphabet))) q in
    by_place leaf c r.ranges h b.0 leaf.indexed refl b.1)
