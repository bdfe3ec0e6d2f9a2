-- A leaf that keeps its rules permits a number.
use Rattle.std.proofs.Common.{◌≡◌, ℤ, Bool, true, false, List, [], ◌∷◌, length, Option, IsTrue, refl, arith}
use Rattle.std.specs.Prelude.{int_le, nat_lt, ◌&&◌}
use Rattle.std.proofs.lemmas.Bool.{or_left}
use Rattle.std.proofs.lemmas.Int.{ints}
use Rattle.acn_num.specs.Ranges.{In, has}
use Rattle.acn_grammar.specs.Leaves.{num_fine, set_fine}
use Rattle.acn_grammar.specs.declared.node.Items.{Items}
use Rattle.acn_grammar.specs.declared.node.NumCoding.{NumCoding}
use Rattle.acn_grammar.specs.declared.node.NumKind.{NumKind}
use Rattle.acn_grammar.specs.declared.node.NumKind.TheVariants.{Integer, Boolean, Enumerated, Null}
use Rattle.acn_grammar.specs.declared.node.NumLeaf.{NumLeaf}
use Rattle.acn_grammar.specs.declared.node.Table.{Table as LeafTable}
use Rattle.acn_grammar.proofs.FineLeaves.{rules_of}
use Rattle.acn_grammar.proofs.HasImage.{set_ordered, Ordered}
use Rattle.acn_grammar.proofs.WholeTests.{le_test}

none_fine : (kind : NumKind) (coding : NumCoding) (items : Items) (table : Option LeafTable) → set_fine kind coding items table [] ≡ true → ⊥
none_fine Integer coding items table h = cc
none_fine Boolean coding items table h = cc
none_fine Enumerated coding items table h = by (nat_lt 0 (length items.items)) h
  where
    by : (b : Bool) → (b && false) ≡ true → ⊥
    by true e = cc
    by false e = cc
none_fine Null coding items table h = cc

pub some_number : (leaf : NumLeaf) → IsTrue (num_fine leaf) → (x : ℤ) × In leaf.set x
some_number leaf fine = by leaf.set (rules_of leaf fine).set (set_ordered leaf.kind leaf.coding leaf.items leaf.table leaf.set (rules_of leaf fine).set)
  where
    by : (set : List (ℤ × ℤ)) → set_fine leaf.kind leaf.coding leaf.items leaf.table set ≡ true → Ordered set → (x : ℤ) × In set x
    by [] h o = absurd (none_fine leaf.kind leaf.coding leaf.items leaf.table h)
    by (r ∷ rs) h o = (r.0, or_left (int_le r.0 r.0 && int_le r.0 r.1) (has rs r.0) (rw (le_test r.0 r.0 (omega (arith, ints)), le_test r.0 r.1 o.0) refl))
