-- The names of the items of a slot differ, where the root is sound.
use Rattle.std.proofs.Common.{◌≡◌, ℕ, suc, ◌-◌, ◌++◌, ℤ, pos, Bool, true, false, List, [], ◌∷◌, length, Option, Some, None, refl, ap, ◌∙◌, arith, not, ◌&&◌, nat_eq, nat_lt, if◌then◌else◌}
use Rattle.std.proofs.lemmas.Bool.{and_parts, eqb-true}
use Rattle.std.specs.Prelude.{unwrap_or, option_map}
use Rattle.std.specs.Ordering.{int_eq}
use Rattle.acn_num.specs.Ranges.{are_ranges}
use Rattle.acn_grammar.specs.Asks.{same_name}
use Rattle.acn_grammar.specs.Grammar.{Grammar, Form, Fields, Alternatives, node, num, octets, bits, text, seq, list, choice, contained, no_fields, component, inserted, no_alternatives, alternative}
use Rattle.acn_grammar.specs.Images.{ends}
use Rattle.acn_grammar.specs.Leaves.{all_differ, num_fine, set_fine, is_range, no_items, items_fine, integer_set_fine}
use Rattle.acn_grammar.specs.Scoped.{Known, with_slot, with_own, choose_known, after}
use Rattle.acn_grammar.specs.Slots.{items_of, slot_leaf, form_leaf, fields_leaf, alternatives_leaf, number_leaf, first_of_two, is_slot}
use Rattle.acn_grammar.specs.Sound.{Sound, FormSound, FieldsSound, AlternativesSound}
use Rattle.acn_grammar.specs.declared.node.Items.{Items}
use Rattle.acn_grammar.specs.declared.node.NumCoding.{NumCoding}
use Rattle.acn_grammar.specs.declared.node.NumKind.{NumKind}
use Rattle.acn_grammar.specs.declared.node.NumKind.TheVariants.{Integer, Boolean, Enumerated, Null}
use Rattle.acn_grammar.specs.declared.node.NumLeaf.{NumLeaf}
use Rattle.acn_grammar.specs.declared.node.Table.{Table}
use Rattle.acn_grammar.proofs.FineLeaves.{rules_of}

-- The leaf of a slot keeps the rules of leaves.

from_two : {F : Type 0} (a b : Option NumLeaf) (leaf : NumLeaf) → first_of_two a b ≡ Some leaf → (a ≡ Some leaf → F) → (b ≡ Some leaf → F) → F
from_two None b leaf e f g = g e
from_two (Some x) b leaf e f g = f e

from_slot : {F : Type 0} (own : Option ℕ) (s : ℕ) (a b : Option NumLeaf) (leaf : NumLeaf) → is_slot own s a b ≡ Some leaf → (a ≡ Some leaf → F) → (b ≡ Some leaf → F) → F
from_slot None s a b leaf e f g = g e
from_slot {F} (Some t) s a b leaf e f g = by (nat_eq t s) e
  where
    by : (c : Bool) → (if c then a else b) ≡ Some leaf → F
    by true e = f e
    by false e = g e

module _ (root : Grammar) where
  number_fine : (k : ℕ) (around : List ℕ) (ks : Known) (g : Grammar) → Sound root k around ks g → (leaf : NumLeaf) → number_leaf g ≡ Some leaf → num_fine leaf ≡ true
  number_fine k around ks (node align (num leaf)) f other e = (let same : leaf ≡ other = cc in rw (← same) f.2)
  number_fine k around ks (node align (octets sizing)) f other e = cc
  number_fine k around ks (node align (bits sizing)) f other e = cc
  number_fine k around ks (node align (text leaf)) f other e = cc
  number_fine k around ks (node align (seq fields home)) f other e = cc
  number_fine k around ks (node align (list sizing g)) f other e = cc
  number_fine k around ks (node align (choice cases rule)) f other e = cc
  number_fine k around ks (node align (contained sizing g)) f other e = cc

  mutual
    node_leaf : (k : ℕ) (around : List ℕ) (ks : Known) (g : Grammar) → Sound root k around ks g → (s : ℕ) (leaf : NumLeaf) → slot_leaf g s ≡ Some leaf → num_fine leaf ≡ true
    node_leaf k around ks (node align form) f s other e = in_form k around ks form f.2 s other e

    in_form : (k : ℕ) (around : List ℕ) (ks : Known) (form : Form) → FormSound root k around ks form → (s : ℕ) (leaf : NumLeaf) → form_leaf form s ≡ Some leaf → num_fine leaf ≡ true
    in_form k around ks (num leaf) f s other e = cc
    in_form k around ks (octets sizing) f s other e = cc
    in_form k around ks (bits sizing) f s other e = cc
    in_form k around ks (text leaf) f s other e = cc
    in_form k around ks (seq fields home) f s other e = in_fields (suc k) (home ++ around) ks fields f.1 s other e
    in_form k around ks (list sizing g) f s other e = node_leaf (suc k) around ks g f.4 s other e
    in_form k around ks (choice cases rule) f s other e = in_cases (suc k) around ks cases f.3 s other e
    in_form k around ks (contained sizing g) f s other e = node_leaf (suc k) around ks g f.3 s other e

    in_fields : (k : ℕ) (around : List ℕ) (ks : Known) (fs : Fields) → FieldsSound root k around ks fs → (s : ℕ) (leaf : NumLeaf) → fields_leaf fs s ≡ Some leaf → num_fine leaf ≡ true
    in_fields k around ks no_fields f s other e = cc
    in_fields k around ks (component name g presence default own fs) f s other e =
        from_slot {F = num_fine other ≡ true} own s (number_leaf g) (first_of_two (slot_leaf g s) (fields_leaf fs s)) other e (number_fine k around ks g f.3 other)
        (λ q. from_two {F = num_fine other ≡ true} (slot_leaf g s) (fields_leaf fs s) other q (node_leaf k around ks g f.3 s other) (in_fields k around (choose_known presence ks (with_own own (after ks g))) fs f.4 s other))
    in_fields k around ks (inserted name g None fs) f s other e =
        from_two {F = num_fine other ≡ true} (slot_leaf g s) (fields_leaf fs s) other e (node_leaf k around ks g f.1 s other) (in_fields k around ks fs f.2 s other)
    in_fields k around ks (inserted name g (Some t) fs) f s other e =
        from_slot {F = num_fine other ≡ true} (Some t) s (number_leaf g) (first_of_two (slot_leaf g s) (fields_leaf fs s)) other e (number_fine k around ks g f.2 other)
        (λ q. from_two {F = num_fine other ≡ true} (slot_leaf g s) (fields_leaf fs s) other q (node_leaf k around ks g f.2 s other) (in_fields k around (with_slot t ks) fs f.3 s other))

    in_cases : (k : ℕ) (around : List ℕ) (ks : Known) (cases : Alternatives) → AlternativesSound root k around ks cases → (s : ℕ) (leaf : NumLeaf) → alternatives_leaf cases s ≡ Some leaf → num_fine leaf ≡ true
    in_cases k around ks no_alternatives f s other e = cc
    in_cases k around ks (alternative name g tests more) f s other e =
        from_two {F = num_fine other ≡ true} (slot_leaf g s) (alternatives_leaf more s) other e (node_leaf k around ks g f.1 s other) (in_cases k around ks more f.2 s other)

-- The names of a leaf's items differ.

abbrev pub Named : Type 0
Named = List ℕ × ℤ

abbrev pub same_named : Named → Named → Bool
same_named a b = same_name a.0 b.0

none_differ : (items : Items) → no_items items ≡ true → all_differ same_named items.items ≡ true
none_differ items h = by items.items (eqb-true (length items.items) 0 (and_parts (nat_eq (length items.items) 0) (not items.values) h).0)
  where
    by : (names : List Named) → length names ≡ 0 → all_differ same_named names ≡ true
    by [] e = refl
    by (n ∷ names) e = absurd (omega (arith, e))

names_differ : (kind : NumKind) (coding : NumCoding) (items : Items) (table : Option Table) (set : List (ℤ × ℤ)) → set_fine kind coding items table set ≡ true → all_differ same_named items.items ≡ true
names_differ Integer coding items table set h =
    none_differ items (and_parts (integer_set_fine coding (ends set)) (no_items items) (and_parts (are_ranges set) (integer_set_fine coding (ends set) && no_items items) h).1).1
names_differ Boolean coding items table set h = none_differ items (and_parts (is_range (pos 0) (pos 1) set) (no_items items) h).1
names_differ Null coding items table set h = none_differ items (and_parts (is_range (pos 0) (pos 0) set) (no_items items) h).1
names_differ Enumerated coding items table set h =
    let a = and_parts (nat_lt 0 (length items.items)) (is_range (pos 0) (pos (length items.items - 1)) set && items_fine coding items) h in
    let b = and_parts (is_range (pos 0) (pos (length items.items - 1)) set) (items_fine coding items) a.1 in
    (and_parts (all_differ same_named items.items) (all_differ (λ x y. int_eq x.1 y.1) items.items) b.1).0

pub items_differ : (root : Grammar) → Sound root 0 [] (λ s. false) root → (s : ℕ) → all_differ same_named (items_of root s) ≡ true
items_differ root sound s = by (slot_leaf root s) refl
  where
    by : (o : Option NumLeaf) → slot_leaf root s ≡ o → all_differ same_named (items_of root s) ≡ true
    by None e = rw e refl
    by (Some leaf) e = ap (λ o. all_differ same_named (unwrap_or (option_map (λ l. l.items.items) o) [])) e ∙ names_differ leaf.kind leaf.coding leaf.items leaf.table leaf.set (rules_of leaf (node_leaf root 0 [] (λ t. false) root sound s leaf e)).set
