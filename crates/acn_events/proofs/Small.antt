-- Small facts of numbers, tests and leaves.
use Rattle.std.proofs.Common.{◌≡◌, ℕ, zero, suc, ◌+◌, ◌-◌, ◌*◌, ◌^◌, ◌<◌, ◌≤◌, ℤ, pos, Bool, true, false, ◌&&◌, ◌||◌, List, [], ◌∷◌, Option, Some, None, nat_eq, IsTrue, refl, sym, ap, ◌∙◌, arith}
use Rattle.std.specs.Prelude.{int_le, if◌then◌else◌, nat_lt, nat_le}
use Rattle.std.proofs.lemmas.Bool.{or_left, and_parts, eqb-true, leb-true, ltb-true}
use Rattle.std.proofs.lemmas.Bool.Decides.{nat_tests}
use Rattle.std.proofs.lemmas.Int.{ints}
use Rattle.acn_num.specs.Bits.{octets as octets_for, is_least_width}
use Rattle.acn_num.specs.Ranges.{In, has}
use Rattle.acn_bits.specs.declared.word.TheConstants.{WORD_BITS}
use Rattle.acn_grammar.specs.Check.{HasOneWidth}
use Rattle.acn_grammar.specs.Code.{Any}
use Rattle.acn_grammar.specs.Leaves.{num_fine, is_range, no_items, sizing_fine, sizes_fine, rule_fine, list_fine, list_rule_fine}
use Rattle.acn_grammar.specs.Length.{num_length, least, ending, padding}
use Rattle.acn_grammar.specs.Tree.{is_align}
use Rattle.acn_grammar.specs.declared.node.NumKind.TheVariants.{Null}
use Rattle.acn_grammar.specs.declared.node.NumLeaf.{NumLeaf}
use Rattle.acn_grammar.specs.declared.node.SizeRule.{SizeRule}
use Rattle.acn_grammar.specs.declared.node.SizeRule.TheVariants.{Prefix, Slot, Ended}
use Rattle.acn_grammar.specs.declared.node.Sizing.{Sizing}
use Rattle.acn_grammar.proofs.FineLeaves.{rules_of}
use Rattle.acn_grammar.proofs.HasImage.{set_ordered, Ordered}
use Rattle.acn_grammar.proofs.LeafLengths.{code-length}
use Rattle.acn_grammar.proofs.SpellLength.{OneWidth}
use Rattle.acn_grammar.proofs.TextRules.{prefix_fits}
use Rattle.acn_grammar.proofs.WholeTests.{either, eq_fact, le_test}
use Rattle.acn_packet_laws.proofs.Codes.{each_number_has_a_code}
use Rattle.acn_text.proofs.Fine.{sizing_fits, small_width}
use Rattle.acn_text.specs.Steps.{RuleFits}
use Rattle.acn_events.specs.Marks.{CanBeEntered}
use Rattle.acn_events.specs.Steps.{SizeFits}

pub truth : {F : Type 0} (b : Bool) → (b ≡ true → F) → (b ≡ false → F) → F
truth true f g = f refl
truth false f g = g refl

pub if_yes : {A : Type 0} (b : Bool) (x y : A) → b ≡ true → (if b then x else y) ≡ x
if_yes b x y e = rw e refl

pub if_no : {A : Type 0} (b : Bool) (x y : A) → b ≡ false → (if b then x else y) ≡ y
if_no b x y e = rw e refl

pub eq_turn : (a b : ℕ) → nat_eq a b ≡ false → nat_eq b a ≡ false
eq_turn a b h = grind (arith, nat_tests)

pub eq_here : (a : ℕ) → nat_eq a a ≡ true
eq_here a = grind (arith, nat_tests)

pub both_first : (a b : Bool) → (a && b) ≡ true → a ≡ true
both_first true b h = refl
both_first false b h = h

pub both_second : (a b : Bool) → (a && b) ≡ true → b ≡ true
both_second true b h = h
both_second false b h = cc

pub none_behind : (n : ℕ) → n + 0 ≡ n
none_behind n = omega arith

pub sum_assoc : (a b c : ℕ) → a + b + c ≡ a + (b + c)
sum_assoc a b c = omega arith

pub align_some : (n : ℕ) → is_align n ≡ true → 0 < n
align_some zero h = cc
align_some (suc n) h = omega arith

-- whole octets behind a fill
pub filled_octets : (n : ℕ) → n + padding 8 n ≡ 8 * octets_for n
filled_octets n = omega arith

-- A permitted size has its bits.

pub size_fits : (sizing : Sizing) (n : ℕ) → IsTrue (sizing_fine sizing) → has sizing.sizes (pos n) ≡ true → SizeFits sizing.rule n
size_fits sizing n f h = by sizing.rule (and_parts (sizes_fine sizing.sizes) (rule_fine sizing.sizes sizing.rule) f).1 (sizing_fits sizing f)
  where
    by : (rule : SizeRule) → rule_fine sizing.sizes rule ≡ true → RuleFits rule → SizeFits rule n
    by (Slot s) r fits = tt
    by (Ended p) r fits = tt
    by (Prefix low width) r fits =
        let both = prefix_fits sizing.sizes low width n (and_parts (sizes_fine sizing.sizes) (rule_fine sizing.sizes sizing.rule) f).0 r h in
        let narrow = fits.1 in
        (both.0, omega (arith, narrow), both.1)

pub entered_fits : (sizing : Sizing) → IsTrue (sizing_fine sizing) → CanBeEntered sizing.rule
entered_fits sizing f = by sizing.rule (sizing_fits sizing f)
  where
    by : (rule : SizeRule) → RuleFits rule → CanBeEntered rule
    by (Slot s) fits = tt
    by (Ended p) fits = fits
    by (Prefix low width) fits = let narrow = fits.1 in omega (arith, narrow)

-- a list without a pattern behind it
pub list_sizing : (sizing : Sizing) → IsTrue (list_fine sizing) → ending sizing.rule ≡ None → IsTrue (sizing_fine sizing)
list_sizing sizing f e =
    let p = and_parts (sizes_fine sizing.sizes) (list_rule_fine (ending sizing.rule) sizing) f in
    let r : rule_fine sizing.sizes sizing.rule ≡ true = ap (λ o. list_rule_fine o sizing) (sym e) ∙ p.1 in
    both (sizes_fine sizing.sizes) (rule_fine sizing.sizes sizing.rule) p.0 r
  where
    both : (a b : Bool) → a ≡ true → b ≡ true → (a && b) ≡ true
    both a b x y = cc

pub list_fits : (sizing : Sizing) (n : ℕ) → IsTrue (list_fine sizing) → has sizing.sizes (pos n) ≡ true → SizeFits sizing.rule n
list_fits sizing n f h = by (ending sizing.rule) refl
  where
    ended : (rule : SizeRule) (p : List Bool) → ending rule ≡ Some p → SizeFits rule n
    ended (Ended q) p e = tt
    ended (Slot s) p e = tt
    ended (Prefix low width) p e = cc

    by : (end : Option (List Bool)) → ending sizing.rule ≡ end → SizeFits sizing.rule n
    by None e = size_fits sizing n (list_sizing sizing f e) h
    by (Some p) e = ended sizing.rule p e

-- Leaves of one width.

least_there : (set : List (ℤ × ℤ)) (x : ℤ) → Ordered set → has set x ≡ true → has set (least set) ≡ true
least_there [] x o h = cc
least_there (r ∷ rs) x o h = or_left (int_le r.0 r.0 && int_le r.0 r.1) (has rs r.0) (rw (le_test r.0 r.0 (omega (arith, ints)), le_test r.0 r.1 o.0) refl)

pub one_width : (leaf : NumLeaf) → IsTrue (num_fine leaf) → HasOneWidth leaf → OneWidth leaf
one_width leaf fine h x p = length_is x p ∙ sym (length_is (least leaf.set) (least_there leaf.set x (set_ordered leaf.kind leaf.coding leaf.items leaf.table leaf.set (rules_of leaf fine).set) p))
  where
    length_is : (z : ℤ) → In leaf.set z → num_length leaf z ≡ h.width
    length_is z q = let c = each_number_has_a_code Any leaf fine z q in sym (code-length Any leaf fine z c.0 c.1) ∙ h.all_codes z c.0 c.1

-- a NULL has one number
pub null_width : (leaf : NumLeaf) → IsTrue (num_fine leaf) → leaf.kind ≡ Null → num_length leaf (pos 0) ≡ num_length leaf (least leaf.set)
null_width leaf fine k =
    let r = rules_of leaf fine in
    let set = rw k at r.set in
    let f = and_parts (is_range (pos 0) (pos 0) leaf.set) (no_items leaf.items) set in
    ap (num_length leaf) (first_is leaf.set f.0)
  where
    first_is : (set : List (ℤ × ℤ)) → is_range (pos 0) (pos 0) set ≡ true → pos 0 ≡ least set
    first_is [] h = cc
    first_is (r ∷ []) h = sym (eq_fact r.0 (pos 0) (both_first _ _ h))
    first_is (r ∷ q ∷ rs) h = cc

-- the bits of an index

pub narrow : (width n : ℕ) → is_least_width n width ≡ true → n < 65536 → (n < 2 ^ width) × (width ≤ WORD_BITS)
narrow width n h l =
    let p = and_parts (nat_lt n (2 ^ width)) (nat_eq width 0 || nat_le (2 ^ (width - 1)) n) h in
    (ltb-true n (2 ^ width) p.0, either {F = width ≤ WORD_BITS} (nat_eq width 0) (nat_le (2 ^ (width - 1)) n) p.1 (λ c. let z = eqb-true width 0 c in omega (arith, z)) (λ c. let w = small_width width n 17 (leb-true (2 ^ (width - 1)) n c) (omega (arith, l)) in omega (arith, w)))
