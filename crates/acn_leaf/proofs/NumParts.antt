-- The rules of a number leaf in three groups.
use Rattle.std.proofs.Common.{◌≡◌, Bool, true, false, ◌&&◌, refl, sym, ◌∙◌}
use Rattle.acn_grammar.specs.Images.{written_ends}
use Rattle.acn_grammar.specs.Leaves.{takes, coding_fine, implies, can_be_little, is_signed_text, begins_below_zero, set_fine, only_integer, table_fine, values_fine, can_write_all, num_fine}
use Rattle.acn_grammar.specs.declared.node.NumLeaf.{NumLeaf}
use Rattle.acn_leaf.proofs.TableRules.{grouped}
use Rattle.std.proofs.lemmas.Bool.{and_parts}

abbrev pub coded : NumLeaf → Bool
coded leaf = takes leaf.kind leaf.coding && (coding_fine leaf.coding && (implies leaf.little (can_be_little leaf.coding) && implies (is_signed_text leaf.coding) (begins_below_zero leaf.set)))

abbrev pub numbers : NumLeaf → Bool
numbers leaf = set_fine leaf.kind leaf.coding leaf.items leaf.table leaf.set && (only_integer leaf.kind leaf.table && table_fine leaf.coding leaf.set leaf.table)

abbrev pub written : NumLeaf → Bool
written leaf = values_fine leaf.items.values leaf.coding (written_ends leaf) && can_write_all leaf.coding (written_ends leaf)

num_whole : (leaf : NumLeaf) → num_fine leaf ≡ (coded leaf && (numbers leaf && written leaf))
num_whole leaf =
    grouped (takes leaf.kind leaf.coding) (coding_fine leaf.coding) (implies leaf.little (can_be_little leaf.coding)) (implies (is_signed_text leaf.coding) (begins_below_zero leaf.set))
    (set_fine leaf.kind leaf.coding leaf.items leaf.table leaf.set) (only_integer leaf.kind leaf.table) (table_fine leaf.coding leaf.set leaf.table)
    (values_fine leaf.items.values leaf.coding (written_ends leaf)) (can_write_all leaf.coding (written_ends leaf))

three_false : (a b c : Bool) → a ≡ false → false ≡ (a && (b && c))
three_false a b c h = rw h refl

three_second : (a b c : Bool) → a ≡ true → b ≡ false → false ≡ (a && (b && c))
three_second a b c g h = rw (g, h) refl

three_last : (a b c r : Bool) → a ≡ true → b ≡ true → r ≡ c → r ≡ (a && (b && c))
three_last a b c r g h e = rw (g, h) e

pub not_coded : (leaf : NumLeaf) → coded leaf ≡ false → false ≡ num_fine leaf
not_coded leaf h = three_false (coded leaf) (numbers leaf) (written leaf) h ∙ sym (num_whole leaf)

pub not_numbers : (leaf : NumLeaf) → coded leaf ≡ true → numbers leaf ≡ false → false ≡ num_fine leaf
not_numbers leaf g h = three_second (coded leaf) (numbers leaf) (written leaf) g h ∙ sym (num_whole leaf)

pub as_written : (leaf : NumLeaf) (r : Bool) → coded leaf ≡ true → numbers leaf ≡ true → r ≡ written leaf → r ≡ num_fine leaf
as_written leaf r g h e = three_last (coded leaf) (numbers leaf) (written leaf) r g h e ∙ sym (num_whole leaf)

pub coding_part : (leaf : NumLeaf) → coded leaf ≡ true → coding_fine leaf.coding ≡ true
coding_part leaf h =
    let a = and_parts (takes leaf.kind leaf.coding) (coding_fine leaf.coding && (implies leaf.little (can_be_little leaf.coding) && implies (is_signed_text leaf.coding) (begins_below_zero leaf.set))) h in
    (and_parts (coding_fine leaf.coding) (implies leaf.little (can_be_little leaf.coding) && implies (is_signed_text leaf.coding) (begins_below_zero leaf.set)) a.1).0

pub table_part : (leaf : NumLeaf) → numbers leaf ≡ true → table_fine leaf.coding leaf.set leaf.table ≡ true
table_part leaf h =
    let a = and_parts (set_fine leaf.kind leaf.coding leaf.items leaf.table leaf.set) (only_integer leaf.kind leaf.table && table_fine leaf.coding leaf.set leaf.table) h in
    (and_parts (only_integer leaf.kind leaf.table) (table_fine leaf.coding leaf.set leaf.table) a.1).1
