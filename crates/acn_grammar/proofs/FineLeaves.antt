-- A leaf that keeps its rules has codes of which none begins another, and images that tell the numbers.
use Rattle.std.proofs.Common.{◌≡◌, ℤ, pos, Bool, true, false, not, List, [], ◌∷◌, length, Option, Some, None, refl, ◌&&◌, IsTrue, nat_eq}
use Rattle.std.specs.Prelude.{◌-◌, nat_lt, if◌then◌else◌}
use Rattle.std.specs.List.{list_all}
use Rattle.acn_num.specs.Ranges.{are_ranges, count}
use Rattle.acn_grammar.specs.Asks.{same_name}
use Rattle.acn_grammar.specs.Code.{image_by, item_number}
use Rattle.acn_grammar.specs.Images.{images_by, ends, written_ends}
use Rattle.acn_grammar.specs.Leaves.{takes, coding_fine, implies, can_be_little, is_signed_text, begins_below_zero, set_fine, only_integer, table_fine, values_fine, can_write_all, num_fine, integer_set_fine, no_items, is_range, items_fine, all_differ, share, has_size, line_fine}
use Rattle.acn_grammar.specs.declared.node.Items.{Items}
use Rattle.acn_grammar.specs.declared.node.NumCoding.{NumCoding}
use Rattle.acn_grammar.specs.declared.node.NumKind.{NumKind}
use Rattle.acn_grammar.specs.declared.node.NumKind.TheVariants.{Integer, Boolean, Enumerated, Null}
use Rattle.acn_grammar.specs.declared.node.NumLeaf.{NumLeaf}
use Rattle.acn_grammar.specs.declared.node.Table.{Table}
use Rattle.acn_grammar.proofs.Codings.{coding_law}
use Rattle.acn_grammar.proofs.ImagesOne.{lines_one, item_numbers_one, same_item}
use Rattle.acn_grammar.proofs.Prefix.{Lawful}
use Rattle.std.proofs.lemmas.Bool.{and_parts, not-true}

-- Each rule of a leaf by its name.
pub record Rules (leaf : NumLeaf) : Type 0 where
  pub kind : takes leaf.kind leaf.coding ≡ true
  pub coding : coding_fine leaf.coding ≡ true
  pub little : implies leaf.little (can_be_little leaf.coding) ≡ true
  pub sign : implies (is_signed_text leaf.coding) (begins_below_zero leaf.set) ≡ true
  pub set : set_fine leaf.kind leaf.coding leaf.items leaf.table leaf.set ≡ true
  pub integer : only_integer leaf.kind leaf.table ≡ true
  pub table : table_fine leaf.coding leaf.set leaf.table ≡ true
  pub values : values_fine leaf.items.values leaf.coding (written_ends leaf) ≡ true
  pub writes : can_write_all leaf.coding (written_ends leaf) ≡ true

behind : (b : Bool) (rest : List Bool) → list_all (λ x. x) (b ∷ rest) ≡ true → (b ≡ true) × (list_all (λ x. x) rest ≡ true)
behind b rest h = and_parts b (list_all (λ x. x) rest) h

nine : (a b c d e f g i j : Bool) → list_all (λ x. x) (a ∷ b ∷ c ∷ d ∷ e ∷ f ∷ g ∷ i ∷ j ∷ []) ≡ true → (a ≡ true) × (b ≡ true) × (c ≡ true) × (d ≡ true) × (e ≡ true) × (f ≡ true) × (g ≡ true) × (i ≡ true) × (j ≡ true)
nine a b c d e f g i j h =
    let a' = behind a (b ∷ c ∷ d ∷ e ∷ f ∷ g ∷ i ∷ j ∷ []) h in
    let b' = behind b (c ∷ d ∷ e ∷ f ∷ g ∷ i ∷ j ∷ []) a'.1 in
    let c' = behind c (d ∷ e ∷ f ∷ g ∷ i ∷ j ∷ []) b'.1 in
    let d' = behind d (e ∷ f ∷ g ∷ i ∷ j ∷ []) c'.1 in
    let e' = behind e (f ∷ g ∷ i ∷ j ∷ []) d'.1 in
    let f' = behind f (g ∷ i ∷ j ∷ []) e'.1 in
    let g' = behind g (i ∷ j ∷ []) f'.1 in
    let i' = behind i (j ∷ []) g'.1 in
    let j' = behind j ([]) i'.1 in
    (a'.0, b'.0, c'.0, d'.0, e'.0, f'.0, g'.0, i'.0, j'.0)

pub rules_of : (leaf : NumLeaf) → IsTrue (num_fine leaf) → Rules leaf
rules_of leaf h =
    let r = nine (takes leaf.kind leaf.coding) (coding_fine leaf.coding) (implies leaf.little (can_be_little leaf.coding)) (implies (is_signed_text leaf.coding) (begins_below_zero leaf.set))
    (set_fine leaf.kind leaf.coding leaf.items leaf.table leaf.set) (only_integer leaf.kind leaf.table) (table_fine leaf.coding leaf.set leaf.table) (values_fine leaf.items.values leaf.coding (written_ends leaf)) (can_write_all leaf.coding (written_ends leaf)) h in
    record { kind = r.0; coding = r.1; little = r.2; sign = r.3; set = r.4; integer = r.5; table = r.6; values = r.7; writes = r.8 }

pub implied : (a b : Bool) → implies a b ≡ true → a ≡ true → b ≡ true
implied true b h e = h
implied false b h e = cc

-- items are there only where they are written
pub no_values : (items : Items) → no_items items ≡ true → items.values ≡ false
no_values items h = not-true items.values (and_parts (nat_eq (length items.items) 0) (not items.values) h).1

items_differ : (kind : NumKind) (coding : NumCoding) (items : Items) (table : Option Table) (set : List (ℤ × ℤ)) → set_fine kind coding items table set ≡ true → items.values ≡ true → all_differ same_item items.items ≡ true
items_differ Integer coding items table set h v =
    let a = and_parts (are_ranges set) (integer_set_fine coding (ends set) && no_items items) h in
    let n = no_values items (and_parts (integer_set_fine coding (ends set)) (no_items items) a.1).1 in
    cc
items_differ Boolean coding items table set h v = let n = no_values items (and_parts (is_range (pos 0) (pos 1) set) (no_items items) h).1 in cc
items_differ Null coding items table set h v = let n = no_values items (and_parts (is_range (pos 0) (pos 0) set) (no_items items) h).1 in cc
items_differ Enumerated coding items table set h v =
    let a = and_parts (nat_lt 0 (length items.items)) (is_range (pos 0) (pos (length items.items - 1)) set && items_fine coding items) h in
    let b = and_parts (is_range (pos 0) (pos (length items.items - 1)) set) (items_fine coding items) a.1 in
    (and_parts (all_differ (λ x y. same_name x.0 y.0) items.items) (all_differ same_item items.items) b.1).1

table_one : (coding : NumCoding) (set : List (ℤ × ℤ)) (table : Option Table) → table_fine coding set table ≡ true → (x z y : ℤ) → image_by table x ≡ Some y → image_by table z ≡ Some y → x ≡ z
table_one coding set None h x z y p q = cc
table_one coding set (Some table) h x z y p q =
    let a = and_parts (has_size coding) (list_all line_fine table.lines && (all_differ share table.lines && nat_eq (count (images_by (Some table) set)) (count set))) h in
    let b = and_parts (list_all line_fine table.lines) (all_differ share table.lines && nat_eq (count (images_by (Some table) set)) (count set)) a.1 in
    let c = and_parts (all_differ share table.lines) (nat_eq (count (images_by (Some table) set)) (count set)) b.1 in
    lines_one table.lines x z y c.0 p q

by_values : (v : Bool) (items : Items) (table : Option Table) → (v ≡ true → all_differ same_item items.items ≡ true)
    → ((x z y : ℤ) → image_by table x ≡ Some y → image_by table z ≡ Some y → x ≡ z)
    → (x z y : ℤ) → (if v then item_number items.items x else image_by table x) ≡ Some y → (if v then item_number items.items z else image_by table z) ≡ Some y → x ≡ z
by_values true items table d t x z y p q = item_numbers_one items.items x z y (d refl) p q
by_values false items table d t x z y p q = t x z y p q

-- so no spelling of the leaf begins another
pub lawful : (leaf : NumLeaf) → IsTrue (num_fine leaf) → Lawful leaf
lawful leaf h =
    let r = rules_of leaf h in
    record {
      codes = coding_law leaf.coding leaf.little r.coding;
      images = λ x z y _ _ p q. by_values leaf.items.values leaf.items leaf.table (items_differ leaf.kind leaf.coding leaf.items leaf.table leaf.set r.set) (table_one leaf.coding leaf.set leaf.table r.table) x z y p q;
    }
