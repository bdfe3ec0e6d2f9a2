-- What a text leaf that keeps its rules gives to the code.
use Rattle.std.proofs.Common.{◌≡◌, ℕ, zero, suc, ◌+◌, ◌-◌, ◌^◌, ◌<◌, ◌≤◌, ℤ, pos, negsuc, ◌+ℤ◌, ◌≤ℤ◌, Bool, true, not, List, [], ◌∷◌, Option, Some, None, refl, sym, ap, ◌∙◌, arith, inl, inr, nat_eq, nat_lt, nat_le, ◌&&◌, ◌||◌, IsTrue}
use Rattle.std.specs.Prelude.{◌-ℤ◌, ◌<ℤ◌, int_le, int_lt, nat_abs, ◌⊎◌}
use Rattle.std.specs.Ordering.{int_eq}
use Rattle.std.proofs.lemmas.Int.{ints}
use Rattle.std.proofs.lemmas.Bool.Decides.{nat_tests}
use Rattle.std.proofs.Math.Nat.{pow-le-pow_right}
use Rattle.acn_num.specs.Bits.{is_least_width}
use Rattle.acn_num.specs.Ranges.{In, Above, least, greatest, are_ranges, are_ranges_above, distance, count, all_within}
use Rattle.acn_grammar.specs.Leaves.{sizes_fine, sizing_fine, rule_fine, prefix_fine, end_fine, width_fine, no_size, holds_characters, is_beyond, same_truth}
use Rattle.acn_grammar.specs.declared.node.Sizing.{Sizing}
use Rattle.acn_grammar.specs.declared.node.SizeRule.{SizeRule}
use Rattle.acn_grammar.specs.declared.node.SizeRule.TheVariants.{Prefix, Slot, Ended}
use Rattle.acn_grammar.specs.declared.node.TextLeaf.{TextLeaf}
use Rattle.acn_text.specs.Texts.{IsGiven}
use Rattle.acn_text.specs.Steps.{RuleFits, SizeFits}
use Rattle.std.proofs.lemmas.Bool.{ltb-true, leb-true, and_parts, eqb-true}
use Rattle.acn_grammar.proofs.WholeTests.{either, lt_fact, le_fact, eq_fact}
use Rattle.acn_grammar.proofs.RangeEnds.{ranges_from, to_greatest, first_in, lies_within}
use Rattle.acn_grammar.proofs.TextRules.{TextRules, EndRules, end_rules, size_rules, size_few, prefix_fits}
use Rattle.acn_num.specs.declared.limits.TheConstants.{MOST_SIZE}

-- the rules of one that ends
pub fine_end : (leaf : TextLeaf) (end : List Bool) → TextRules leaf → leaf.ended ≡ Some end → EndRules leaf end
fine_end leaf end f is = end_rules leaf end (ap (λ e. end_fine e leaf) (sym is) ∙ f.end)

-- no size is given where there is none
pub none_given : (leaf : TextLeaf) (given : Option ℕ) → no_size leaf.sized.rule ≡ true → IsGiven leaf.sized.rule given → given ≡ None
none_given leaf given n h = by leaf.sized.rule n h
  where
    by : (rule : SizeRule) → no_size rule ≡ true → IsGiven rule given → given ≡ None
    by (Prefix low width) n h = h
    by (Slot s) n h = cc
    by (Ended p) n h = h

-- Ranges of characters.

pub above_of : (b : ℤ) (rs : List (ℤ × ℤ)) → are_ranges_above b rs ≡ true → all_within (pos 0) (pos 127) rs ≡ true → Above b rs
above_of b [] h w = tt
above_of b (r ∷ rs) h w =
    let f = and_parts (int_lt b r.0) (int_le r.0 r.1 && are_ranges_above (r.1 +ℤ pos 1) rs) h in
    let g = and_parts (int_le r.0 r.1) (are_ranges_above (r.1 +ℤ pos 1) rs) f.1 in
    let v = and_parts (int_le (pos 0) r.0) (int_le r.1 (pos 127) && all_within (pos 0) (pos 127) rs) w in
    let u = and_parts (int_le r.1 (pos 127)) (all_within (pos 0) (pos 127) rs) v.1 in
    let high = le_fact r.1 (pos 127) u.0 in
    (lt_fact b r.0 f.0, le_fact r.0 r.1 g.0, omega (arith, ints), above_of (r.1 +ℤ pos 1) rs g.1 u.1)

pub tests_above : (rs : List (ℤ × ℤ)) → are_ranges rs ≡ true → all_within (pos 0) (pos 127) rs ≡ true → are_ranges_above (negsuc 0) rs ≡ true
tests_above [] h w = refl
tests_above (r ∷ rs) h w =
    let v = and_parts (int_le (pos 0) r.0) (int_le r.1 (pos 127) && all_within (pos 0) (pos 127) rs) w in
    let low = le_fact (pos 0) r.0 v.0 in
    let t : int_lt (negsuc 0) r.0 ≡ true = below r.0 low in
    rw t h
  where
    below : (x : ℤ) → pos 0 ≤ℤ x → int_lt (negsuc 0) x ≡ true
    below x h = grind (arith, ints, nat_tests)

pub alphabet_above : (leaf : TextLeaf) → TextRules leaf → Above (negsuc 0) leaf.alphabet
alphabet_above leaf f = above_of (negsuc 0) leaf.alphabet (tests_above leaf.alphabet f.ranges f.small) f.small

-- there are at most 128 characters
pub count_few : (b : ℤ) (rs : List (ℤ × ℤ)) → Above b rs → all_within (pos 0) (pos 127) rs ≡ true → negsuc 0 ≤ℤ b → b ≤ℤ pos 128 → pos (count rs) ≤ℤ (pos 128 -ℤ b)
count_few b [] h w low high = omega (arith, ints)
count_few b (r ∷ rs) h w low high =
    let v = and_parts (int_le (pos 0) r.0) (int_le r.1 (pos 127) && all_within (pos 0) (pos 127) rs) w in
    let u = and_parts (int_le r.1 (pos 127)) (all_within (pos 0) (pos 127) rs) v.1 in
    let d = le_fact r.1 (pos 127) u.0 in
    let one = h.0 in
    let two = h.1 in
    let more = count_few (r.1 +ℤ pos 1) rs h.3 u.1 (omega (arith, ints)) (omega (arith, ints)) in
    sum b r.0 r.1 (count rs) one two more
  where
    sum : (b x y : ℤ) (n : ℕ) → b <ℤ x → x ≤ℤ y → pos n ≤ℤ (pos 128 -ℤ (y +ℤ pos 1)) → pos (suc (nat_abs (y -ℤ x)) + n) ≤ℤ (pos 128 -ℤ b)
    sum b x y n p q m = omega (arith, ints)

pub alphabet_few : (leaf : TextLeaf) → TextRules leaf → count leaf.alphabet ≤ 129
alphabet_few leaf f =
    let h = count_few (negsuc 0) leaf.alphabet (alphabet_above leaf f) f.small (omega (arith, ints)) (omega (arith, ints)) in
    omega (arith, ints)

pub small_width : (n m w : ℕ) → 2 ^ (n - 1) ≤ m → m < 2 ^ w → n ≤ w
small_width n m w h few = by (order n w)
  where
    order : (a b : ℕ) → (a ≤ b) ⊎ (b < a)
    order zero b = inl (omega arith)
    order (suc a) zero = inr (omega arith)
    order (suc a) (suc b) = elim (order a b) [ inl g ↦ inl (omega arith) | inr g ↦ inr (omega arith) ]

    by : (n ≤ w) ⊎ (w < n) → n ≤ w
    by (inl g) = g
    by (inr g) = let p = pow-le-pow_right {n = 2} (omega arith) {i = w} {j = n - 1} (omega arith) in absurd (omega (arith, p, h, few))

few_by : (leaf : TextLeaf) → TextRules leaf → width_fine leaf ≡ true → leaf.width ≤ 8
few_by leaf f h =
    either {F = leaf.width ≤ 8} (nat_eq leaf.width 8 && not leaf.indexed) (holds_characters (count leaf.alphabet) leaf.width && same_truth leaf.indexed (is_beyond leaf.width (greatest leaf.alphabet))) h
    (λ p. omega (arith, eqb-true leaf.width 8 (and_parts (nat_eq leaf.width 8) (not leaf.indexed) p).0))
    (λ p.
    let a = and_parts (holds_characters (count leaf.alphabet) leaf.width) (same_truth leaf.indexed (is_beyond leaf.width (greatest leaf.alphabet))) p in
    let b = and_parts (nat_le (count leaf.alphabet) (2 ^ leaf.width)) (nat_eq leaf.width 0 || nat_lt (2 ^ (leaf.width - 1)) (count leaf.alphabet)) a.0 in
    either {F = leaf.width ≤ 8} (nat_eq leaf.width 0) (nat_lt (2 ^ (leaf.width - 1)) (count leaf.alphabet)) b.1
    (λ q. omega (arith, eqb-true leaf.width 0 q))
    (λ q. small_width leaf.width (count leaf.alphabet) 8 (omega (arith, ltb-true (2 ^ (leaf.width - 1)) (count leaf.alphabet) q)) (omega (arith, alphabet_few leaf f))))

-- a character has at most eight bits
pub width_few : (leaf : TextLeaf) → TextRules leaf → leaf.width ≤ 8
width_few leaf f = by leaf.ended refl
  where
    by : (o : Option (List Bool)) → leaf.ended ≡ o → leaf.width ≤ 8
    by None is = few_by leaf f (and_parts (rule_fine leaf.sized.sizes leaf.sized.rule) (width_fine leaf) (ap (λ e. end_fine e leaf) (sym is) ∙ f.end)).1
    by (Some end) is = omega (arith, (fine_end leaf end f is).width)

-- Sizes.

-- sizes from the least to the greatest
pub record SizesLie (sizes : List (ℤ × ℤ)) (low high : ℤ) : Type 0 where
  pub least : pos 0 ≤ℤ low
  pub order : low ≤ℤ high
  pub greatest : high ≤ℤ pos MOST_SIZE

sizes_lie : (sizes : List (ℤ × ℤ)) (low high : ℤ) → sizes_fine sizes ≡ true → least sizes ≡ Some low → greatest sizes ≡ Some high → SizesLie sizes low high
sizes_lie sizes low high h a z =
    let q = size_rules sizes h in
    by sizes q.ranges q.small a z
  where
    ends_in : (rs : List (ℤ × ℤ)) (z : ℤ) → all_within (pos 0) (pos MOST_SIZE) rs ≡ true → greatest rs ≡ Some z → z ≤ℤ pos MOST_SIZE
    ends_in [] z w e = cc
    ends_in (r ∷ []) z w e =
        let v = and_parts (int_le (pos 0) r.0) (int_le r.1 (pos MOST_SIZE) && all_within (pos 0) (pos MOST_SIZE) []) w in
        let u = and_parts (int_le r.1 (pos MOST_SIZE)) (all_within (pos 0) (pos MOST_SIZE) []) v.1 in
        let is : r.1 ≡ z = cc in
        rw (← is) (le_fact r.1 (pos MOST_SIZE) u.0)
    ends_in (r ∷ s ∷ rs) z w e =
        let v = and_parts (int_le (pos 0) r.0) (int_le r.1 (pos MOST_SIZE) && all_within (pos 0) (pos MOST_SIZE) (s ∷ rs)) w in
        let u = and_parts (int_le r.1 (pos MOST_SIZE)) (all_within (pos 0) (pos MOST_SIZE) (s ∷ rs)) v.1 in
        ends_in (s ∷ rs) z u.1 e

    by : (rs : List (ℤ × ℤ)) → are_ranges rs ≡ true → all_within (pos 0) (pos MOST_SIZE) rs ≡ true → least rs ≡ Some low → greatest rs ≡ Some high → SizesLie sizes low high
    by [] o w a z = cc
    by (r ∷ rs) o w a z =
        let g = and_parts (int_le r.0 r.1) (are_ranges_above (r.1 +ℤ pos 1) rs) o in
        let is : r.0 ≡ low = cc in
        let b = ranges_from (r ∷ rs) o in
        let one = first_in r rs (le_fact r.0 r.1 g.0) in
        let low_end = lies_within (r ∷ rs) (pos 0) (pos MOST_SIZE) r.0 w one in
        record { least = rw (← is) low_end.0; order = rw (← is) (to_greatest b.0 (r ∷ rs) r.0 high b.1 one z); greatest = ends_in (r ∷ rs) high w z }

-- what a size in front keeps
pub record PrefixIs (sizes : List (ℤ × ℤ)) (low width : ℕ) : Type 0 where
  pub few : low ≤ MOST_SIZE
  pub narrow : width ≤ 17

prefix_is : (sizes : List (ℤ × ℤ)) (low width : ℕ) → sizes_fine sizes ≡ true → prefix_fine low width (least sizes) (greatest sizes) ≡ true → PrefixIs sizes low width
prefix_is sizes low width h t = by (least sizes) (greatest sizes) refl refl t
  where
    narrow_of : (span : ℕ) → span ≤ MOST_SIZE → (width ≡ 0) ⊎ (2 ^ (width - 1) ≤ span) → width ≤ 17
    narrow_of span l (inl z) = omega (arith, z)
    narrow_of span l (inr p) = small_width width span 17 p (omega (arith, l))

    by : (a z : Option ℤ) → least sizes ≡ a → greatest sizes ≡ z → prefix_fine low width a z ≡ true → PrefixIs sizes low width
    by None z e f t = cc
    by (Some a) None e f t = cc
    by (Some a) (Some z) e f t =
        let p = and_parts (int_eq (pos low) a) (is_least_width (distance a z) width) t in
        let q = and_parts (nat_lt (distance a z) (2 ^ width)) (nat_eq width 0 || nat_le (2 ^ (width - 1)) (distance a z)) p.1 in
        let is = eq_fact (pos low) a p.0 in
        let lie = sizes_lie sizes a z h e f in
        let one = lie.least in
        let two = lie.order in
        let three = lie.greatest in
        let span : distance a z ≤ MOST_SIZE = span_few a z one two three in
        record {
          few = omega (arith, ints);
          narrow = narrow_of (distance a z) span (either {F = (width ≡ 0) ⊎ (2 ^ (width - 1) ≤ distance a z)} (nat_eq width 0) (nat_le (2 ^ (width - 1)) (distance a z)) q.1 (λ c. inl (eqb-true width 0 c)) (λ c. inr (leb-true (2 ^ (width - 1)) (distance a z) c)));
        }
      where
        span_few : (a z : ℤ) → pos 0 ≤ℤ a → a ≤ℤ z → z ≤ℤ pos MOST_SIZE → nat_abs (z -ℤ a) ≤ MOST_SIZE
        span_few a z p q r = omega (arith, ints)

rule_is : (leaf : TextLeaf) → TextRules leaf → leaf.ended ≡ None → rule_fine leaf.sized.sizes leaf.sized.rule ≡ true
rule_is leaf f is = (and_parts (rule_fine leaf.sized.sizes leaf.sized.rule) (width_fine leaf) (ap (λ e. end_fine e leaf) (sym is) ∙ f.end)).0

pub rule_fits : (leaf : TextLeaf) → TextRules leaf → leaf.ended ≡ None → RuleFits leaf.sized.rule
rule_fits leaf f is = by leaf.sized.rule (rule_is leaf f is)
  where
    by : (rule : SizeRule) → rule_fine leaf.sized.sizes rule ≡ true → RuleFits rule
    by (Slot s) h = tt
    by (Ended p) h = cc
    by (Prefix low width) h = let p = prefix_is leaf.sized.sizes low width f.sizes h in (p.few, p.narrow)

-- a permitted size can be written
pub size_fits : (leaf : TextLeaf) (n : ℕ) → TextRules leaf → leaf.ended ≡ None → In leaf.sized.sizes (pos n) → SizeFits leaf.sized.rule n
size_fits leaf n f is p = by leaf.sized.rule (rule_is leaf f is)
  where
    by : (rule : SizeRule) → rule_fine leaf.sized.sizes rule ≡ true → SizeFits rule n
    by (Slot s) h = tt
    by (Ended p) h = cc
    by (Prefix low width) h =
        let narrow = (prefix_is leaf.sized.sizes low width f.sizes h).narrow in
        let both = prefix_fits leaf.sized.sizes low width n f.sizes h p in
        (both.0, omega (arith, narrow), both.1)

-- a size in front of a string that keeps its rules fits 64 bits
pub sizing_fits : (sizing : Sizing) → IsTrue (sizing_fine sizing) → RuleFits sizing.rule
sizing_fits sizing h = by sizing.rule (and_parts (sizes_fine sizing.sizes) (rule_fine sizing.sizes sizing.rule) h).1
  where
    by : (rule : SizeRule) → rule_fine sizing.sizes rule ≡ true → RuleFits rule
    by (Slot s) h' = tt
    by (Ended p) h' = cc
    by (Prefix low width) h' = (let p = prefix_is sizing.sizes low width (and_parts (sizes_fine sizing.sizes) (rule_fine sizing.sizes sizing.rule) h).0 h' in (p.few, p.narrow))

-- its permitted sizes are few
pub sizing_few : (sizing : Sizing) (n : ℕ) → IsTrue (sizing_fine sizing) → In sizing.sizes (pos n) → n ≤ MOST_SIZE
sizing_few sizing n f p = size_few sizing.sizes n (and_parts (sizes_fine sizing.sizes) (rule_fine sizing.sizes sizing.rule) f).0 p
