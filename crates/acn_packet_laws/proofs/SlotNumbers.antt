-- A number leaf that keeps its rules has some number, and a slot permits the numbers of its leaf.
use Rattle.std.proofs.Common.{◌≡◌, ℕ, ◌-◌, ℤ, pos, ◌&&◌, List, [], ◌∷◌, length, Some, None, refl, sym, ap, ◌∙◌, nat_lt, subst, IsTrue}
use Rattle.std.proofs.lemmas.Bool.{or_left, and_parts}
use Rattle.std.specs.Prelude.{unwrap_or, option_map, int_le, true}
use Rattle.acn_num.specs.Ranges.{In, has, are_ranges}
use Rattle.acn_grammar.specs.Grammar.{Grammar}
use Rattle.acn_grammar.specs.Leaves.{num_fine, set_fine, is_range, no_items, items_fine, integer_set_fine}
use Rattle.acn_grammar.specs.Slots.{slot_leaf, domain_of}
use Rattle.acn_grammar.specs.Tree.{kind_inserted}
use Rattle.acn_grammar.specs.declared.node.NumKind.{NumKind}
use Rattle.acn_grammar.specs.declared.node.NumKind.TheVariants.{Integer, Boolean, Enumerated, Null}
use Rattle.acn_grammar.specs.declared.node.NumLeaf.{NumLeaf}
use Rattle.acn_grammar.proofs.FineLeaves.{rules_of}
use Rattle.acn_grammar.proofs.LeafLengths.{int_ends}
use Rattle.acn_grammar.proofs.HasImage.{set_ordered, Ordered}
use Rattle.acn_grammar.proofs.WholeTests.{le_self, le_test}

no_set : (leaf : NumLeaf) (kind : NumKind) → set_fine kind leaf.coding leaf.items leaf.table [] ≡ true → ⊥
no_set leaf Integer h = (let e = int_ends leaf.coding None (and_parts (integer_set_fine leaf.coding None) (no_items leaf.items) (and_parts (are_ranges []) (integer_set_fine leaf.coding None && no_items leaf.items) h).1).0 in let n = e.1 in cc)
no_set leaf Boolean h = cc
no_set leaf Null h = cc
no_set leaf Enumerated h = (let f = and_parts (nat_lt 0 (length leaf.items.items)) (is_range (pos 0) (pos (length leaf.items.items - 1)) [] && items_fine leaf.coding leaf.items) h in cc)

pub some_number : (leaf : NumLeaf) → IsTrue (num_fine leaf) → (x : ℤ) × In leaf.set x
some_number leaf fine = by leaf.set refl
  where
    by : (set : List (ℤ × ℤ)) → leaf.set ≡ set → (x : ℤ) × In leaf.set x
    by [] e = absurd (no_set leaf leaf.kind (ap (set_fine leaf.kind leaf.coding leaf.items leaf.table) (sym e) ∙ (rules_of leaf fine).set))
    by (r ∷ rs) e =
        let o = subst Ordered e (set_ordered leaf.kind leaf.coding leaf.items leaf.table leaf.set (rules_of leaf fine).set) in
        (r.0, subst (λ (z : List (ℤ × ℤ)). In z r.0) (sym e) (or_left (int_le r.0 r.0 && int_le r.0 r.1) (has rs r.0) (rw (le_self r.0, le_test r.0 r.1 o.0) refl)))

pub domain_is : (root : Grammar) (s : ℕ) (leaf : NumLeaf) → slot_leaf root s ≡ Some leaf → domain_of root s ≡ leaf.set
domain_is root s leaf e = ap (λ o. unwrap_or (option_map (λ l. l.set) o) []) e

pub leaf_some : (root : Grammar) (s : ℕ) (leaf : NumLeaf) → slot_leaf root s ≡ Some leaf → IsTrue (num_fine leaf) → (x : ℤ) × In (domain_of root s) x
leaf_some root s leaf e fine = (let x = some_number leaf fine in (x.0, subst (λ set. In set x.0) (sym (domain_is root s leaf e)) x.1))

pub only_null : (k : NumKind) → kind_inserted k None ≡ true → k ≡ Null
only_null Null h = refl
only_null Integer h = cc
only_null Boolean h = cc
only_null Enumerated h = cc
