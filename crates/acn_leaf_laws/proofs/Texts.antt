-- The leaf of a text is fine.
use Rattle.std.proofs.Common.{◌≡◌, ℕ, ◌-◌, ◌^◌, ◌<◌, ◌≤◌, Bool, true, false, not, ◌&&◌, ◌||◌, [], ◌∷◌, length, Some, None, refl, sym, ap, subst, ◌∙◌, ℤ, pos, arith}
use Rattle.std.specs.Prelude.{◌-ℤ◌, ◌≤ℤ◌, nat_lt, nat_eq, Result, Ok, Err, if◌then◌else◌}
use Rattle.std.proofs.lemmas.Bool.{and_from, or_right, lt-ltb}
use Rattle.std.proofs.lemmas.Int.{ints}
use Rattle.acn_num.specs.Ranges.{Ranges, bottom, greatest, count, are_ranges, all_within}
use Rattle.acn_num.specs.declared.limits.TheConstants.{MOST_SIZE}
use Rattle.acn_constraint.specs.Constraints.{Fault, Texts, is_empty, text_of}
use Rattle.acn_grammar.specs.Leaves.{is_terminator, is_beyond, same_truth, holds_characters, rule_fine, sizes_fine, width_fine, end_fine, text_fine}
use Rattle.acn_grammar.specs.declared.node.SizeRule.{SizeRule}
use Rattle.acn_grammar.specs.declared.node.TextLeaf.{TextLeaf}
use Rattle.acn_index.specs.World.{World}
use Rattle.acn_leaves.specs.Leaves.{octets_each, fewest, has_octets, characters_written}
use Rattle.acn_leaves.specs.Widths.{least_width}
use Rattle.acn_made.specs.Named.{Slots, determinant_by}
use Rattle.acn_made.specs.Sized.{rule_at, text_sizing, text_with, text_at}
use Rattle.acn_reasons.specs.Classes.{class_of, is_sized, size_attr, is_ended, encoding_attr, is_ascii}
use Rattle.acn_reasons.specs.Constrained.{fault_in, fault_of_class, constraint_fault}
use Rattle.acn_reasons.specs.declared.classes.Class.{Class}
use Rattle.acn_reasons.specs.declared.classes.Class.TheVariants as class
use Rattle.acn_sites.specs.Sites.{Site}
use Rattle.acn_sites.specs.declared.attributes.AttrKind.TheVariants as kind
use Rattle.acn_written.specs.Ends.{end_of}
use Rattle.acn_written.specs.Patterns.{pattern_attr, clashes, clash_of, pattern_clash}
use Rattle.acn_written.specs.Sizes.{if_characters, sizes_at, characters_at}
use Rattle.acn_leaf_laws.proofs.Constrained.{AreFrom, HasBoth, text_both}
use Rattle.acn_leaf_laws.proofs.Patterns.{text_end}
use Rattle.acn_leaf_laws.proofs.Reasons.{IsClear}
use Rattle.acn_leaf_laws.proofs.Sets.{in_order, within, few}
use Rattle.acn_leaf_laws.proofs.Sizes.{sizes_are, sizes_good, said_good}
use Rattle.acn_leaf_laws.proofs.Widths.{characters_held}

-- ---- characters

alphabet_few : (r : ℤ × ℤ) (s : Ranges) → AreFrom (pos 0) (pos 127) (r ∷ s) → (1 ≤ count (r ∷ s)) × (count (r ∷ s) < 2 ^ 64)
alphabet_few r s f =
    let all = few (bottom -ℤ pos 1) (pos 127) (r ∷ s) f.ranges (λ x m. (f.inside x m).1) (omega (arith, ints)) in
    (omega arith, small (count (r ∷ s)) all)
  where
    small : (n : ℕ) → pos n ≤ℤ (pos 127 -ℤ (bottom -ℤ pos 1)) → n < 2 ^ 64
    small n h = omega (arith, ints, h)

same_is : (b : Bool) → same_truth b b ≡ true
same_is true = refl
same_is false = refl

-- a text that isn't ended
plain_good : (b : Bool) (rule : SizeRule) (sizes cs : Ranges) → AreFrom (pos 0) (pos 127) cs → rule_fine sizes rule ≡ true
    → end_fine None (text_with (record { sizes = sizes; rule = rule }) None cs (if b then octets_each else fewest cs)) ≡ true
plain_good b rule sizes [] f h = let e = f.some in cc
plain_good true rule sizes (r ∷ cs) f h =
    and_from (rule_fine sizes rule) (width_fine (text_with (record { sizes = sizes; rule = rule }) None (r ∷ cs) octets_each)) h refl
plain_good false rule sizes (r ∷ cs) f h =
    let n = alphabet_few r cs f in
    let width = least_width (count (r ∷ cs) - 1) in
    let beyond = is_beyond width (greatest (r ∷ cs)) in
    and_from (rule_fine sizes rule) (width_fine (text_with (record { sizes = sizes; rule = rule }) None (r ∷ cs) (fewest (r ∷ cs)))) h
    (or_right (nat_eq width 8 && not beyond) (holds_characters (count (r ∷ cs)) width && same_truth beyond beyond)
    (and_from (holds_characters (count (r ∷ cs)) width) (same_truth beyond beyond) (characters_held (count (r ∷ cs)) n.0 n.1) (same_is beyond)))

text_parts : (leaf : TextLeaf) → sizes_fine leaf.sized.sizes ≡ true → AreFrom (pos 0) (pos 127) leaf.alphabet → end_fine leaf.ended leaf ≡ true → text_fine leaf ≡ true
text_parts leaf sizes f end =
    and_from (sizes_fine leaf.sized.sizes) (nat_lt 0 (length leaf.alphabet) && (are_ranges leaf.alphabet && (all_within (pos 0) (pos 127) leaf.alphabet && end_fine leaf.ended leaf))) sizes
    (and_from (nat_lt 0 (length leaf.alphabet)) (are_ranges leaf.alphabet && (all_within (pos 0) (pos 127) leaf.alphabet && end_fine leaf.ended leaf)) (some_there leaf.alphabet f.some)
    (and_from (are_ranges leaf.alphabet) (all_within (pos 0) (pos 127) leaf.alphabet && end_fine leaf.ended leaf) (in_order leaf.alphabet f.ranges)
    (and_from (all_within (pos 0) (pos 127) leaf.alphabet) (end_fine leaf.ended leaf) (within (pos 0) (pos 127) leaf.alphabet f.ranges f.inside) end)))
  where
    some_there : (s : Ranges) → is_empty s ≡ false → nat_lt 0 (length s) ≡ true
    some_there [] e = cc
    some_there (r ∷ s) e = lt-ltb 0 (length (r ∷ s)) (omega arith)

-- ---- a site

module _ (w : World) (s : Site) where
  no_fault : class_of s ≡ class.Text → constraint_fault w s ≡ None → fault_in (text_of w s.chain) ≡ None
  unfolding constraint_fault
  no_fault e h = sym (ap (λ (c : Class). fault_of_class w s c) e) ∙ h

  no_clash : class_of s ≡ class.Text → pattern_clash s ≡ false → clashes is_terminator (pattern_attr kind.TerminationPattern s) ≡ false
  unfolding pattern_clash
  no_clash e h = sym (ap (λ (c : Class). clash_of c s) e) ∙ h

  both : (r : Result Texts Fault) → text_of w s.chain ≡ r → fault_in r ≡ None → HasBoth w s.chain
  both (Ok x) e h = text_both w s.chain x e
  both (Err f) e h = cc

  characters_are : HasBoth w s.chain → AreFrom (pos 0) (pos 127) (characters_at w s)
  unfolding characters_at
  characters_are b = subst (λ (r : Result Ranges Fault). AreFrom (pos 0) (pos 127) (if_characters r)) (sym b.are_characters) b.inside

  ended_good : (all : Slots) (t : Bool) → is_ended (size_attr s) ≡ t → AreFrom (pos 0) (pos MOST_SIZE) (sizes_at w s) → AreFrom (pos 0) (pos 127) (characters_at w s) → is_terminator (end_of s) ≡ true
      → end_fine (if t then Some (end_of s) else None) (text_with (text_sizing w all s (if t then Some (end_of s) else None)) (if t then Some (end_of s) else None) (characters_at w s) (characters_written s (characters_at w s))) ≡ true
  unfolding characters_written
  ended_good all true e sizes f end = ap (λ (b : Bool). end_fine (Some (end_of s)) (text_with (text_sizing w all s (Some (end_of s))) (Some (end_of s)) (characters_at w s) (if b then octets_each else fewest (characters_at w s)))) (ap (λ (b : Bool). b || is_ascii (encoding_attr s)) e) ∙ end
  ended_good all false e sizes f end = plain_good (has_octets s) (rule_at w all s) (sizes_at w s) (characters_at w s) f (said_good (determinant_by kind.Size w all s) (sizes_at w s) sizes)

  pub text_good : (all : Slots) → class_of s ≡ class.Text → IsClear w s → text_fine (text_at w all s) ≡ true
  text_good all e clear =
      let sizes = sizes_are w s (ap is_sized e) clear.size in
      let f = characters_are (both (text_of w s.chain) refl (no_fault e clear.constraints)) in
      text_parts (text_at w all s) (sizes_good (sizes_at w s) sizes) f
      (ended_good all (is_ended (size_attr s)) refl sizes f (text_end s (no_clash e clear.patterns)))
