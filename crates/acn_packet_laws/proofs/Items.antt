-- An item of a slot by its name is the one by its place, since the names differ.
use Rattle.std.proofs.Common.{◌≡◌, ℕ, zero, suc, ◌-◌, ℤ, pos, Bool, true, false, not, List, [], ◌∷◌, length, Option, Some, None, refl, sym, ap, ◌∙◌, arith, ◌&&◌, nat_eq, nat_lt, int_eq}
use Rattle.std.proofs.lemmas.Bool.{false_from_ne_true, or_left, or_right, and_parts, not-true, eqb-true}
use Rattle.std.specs.Prelude.{slice_get, unwrap_or, option_map}
use Rattle.std.specs.List.{list_any}
use Rattle.acn_num.specs.Ranges.{are_ranges}
use Rattle.acn_grammar.specs.Asks.{same_name, index_of}
use Rattle.acn_grammar.specs.Grammar.{Grammar}
use Rattle.acn_grammar.specs.Images.{ends}
use Rattle.acn_grammar.specs.Leaves.{all_differ, set_fine, is_range, no_items, items_fine, integer_set_fine}
use Rattle.acn_grammar.specs.Slots.{items_of, slot_leaf}
use Rattle.acn_grammar.specs.Tree.{IsTree}
use Rattle.acn_grammar.specs.declared.node.Items.{Items}
use Rattle.acn_grammar.specs.declared.node.NumCoding.{NumCoding}
use Rattle.acn_grammar.specs.declared.node.NumKind.{NumKind}
use Rattle.acn_grammar.specs.declared.node.NumKind.TheVariants.{Integer, Boolean, Enumerated, Null}
use Rattle.acn_grammar.specs.declared.node.NumLeaf.{NumLeaf}
use Rattle.acn_grammar.specs.declared.node.Table.{Table}
use Rattle.acn_grammar.proofs.FineLeaves.{rules_of}
use Rattle.acn_packet_laws.proofs.AskHomes.{if_yes, if_no}
use Rattle.acn_packet_laws.proofs.OneFault.{some_same}
use Rattle.acn_packet_laws.proofs.Used.{slot_leaf_fine}
use Rattle.acn_grammar.proofs.Characters.{same_name-is, same_name-refl}

abbrev Named : Type 0
Named = List ℕ × ℤ

abbrev same_named : Named → Named → Bool
same_named a b = same_name a.0 b.0

is_there : (n : Named) (items : List Named) (i : ℕ) (m : Named) → slice_get items i ≡ Some m → same_name n.0 m.0 ≡ true → list_any (same_named n) items ≡ true
is_there n [] i m e h = cc
is_there n (k ∷ items) zero m e h = let same : k ≡ m = some_same k m e in or_left (same_named n k) (list_any (same_named n) items) (ap (same_named n) same ∙ h)
is_there n (k ∷ items) (suc i) m e h = or_right (same_named n k) (list_any (same_named n) items) (is_there n items i m e h)

index_at : (name : List ℕ) (items : List Named) (i : ℕ) (x : ℤ) → all_differ same_named items ≡ true → slice_get items i ≡ Some (name, x) → index_of (same_name name) items ≡ i
index_at name [] i x d e = cc
index_at name (n ∷ items) zero x d e =
    let same : n ≡ (name, x) = some_same n (name, x) e in
    let is : same_name name n.0 ≡ true = ap (λ (m : Named). same_name name m.0) same ∙ same_name-refl name in
    if_yes (same_name name n.0) 0 (suc (index_of (same_name name) items)) is
index_at name (n ∷ items) (suc i) x d e =
    let f = and_parts (not (list_any (same_named n) items)) (all_differ same_named items) d in
    let other : same_name name n.0 ≡ false = false_from_ne_true (same_name name n.0) (λ q.
    let same : n.0 ≡ name = sym (same_name-is name n.0 q) in
    let there = is_there n items i (name, x) e (ap (λ y. same_name y name) same ∙ same_name-refl name) in
    let not_there = not-true (list_any (same_named n) items) f.0 in
    cc) in
    if_no (same_name name n.0) 0 (suc (index_of (same_name name) items)) other ∙ ap suc (index_at name items i x f.1 e)

none_differ : (items : Items) → no_items items ≡ true → all_differ same_named items.items ≡ true
none_differ items h = by items.items (eqb-true (length items.items) 0 (and_parts (nat_eq (length items.items) 0) (not items.values) h).0)
  where
    by : (names : List Named) → length names ≡ 0 → all_differ same_named names ≡ true
    by [] e = refl
    by (n ∷ names) e = absurd (omega arith)

names_differ : (kind : NumKind) (coding : NumCoding) (items : Items) (table : Option Table) (set : List (ℤ × ℤ)) → set_fine kind coding items table set ≡ true → all_differ same_named items.items ≡ true
names_differ Integer coding items table set h =
    none_differ items (and_parts (integer_set_fine coding (ends set)) (no_items items) (and_parts (are_ranges set) (integer_set_fine coding (ends set) && no_items items) h).1).1
names_differ Boolean coding items table set h = none_differ items (and_parts (is_range (pos 0) (pos 1) set) (no_items items) h).1
names_differ Null coding items table set h = none_differ items (and_parts (is_range (pos 0) (pos 0) set) (no_items items) h).1
names_differ Enumerated coding items table set h =
    let a = and_parts (nat_lt 0 (length items.items)) (is_range (pos 0) (pos (length items.items - 1)) set && items_fine coding items) h in
    let b = and_parts (is_range (pos 0) (pos (length items.items - 1)) set) (items_fine coding items) a.1 in
    (and_parts (all_differ same_named items.items) (all_differ (λ x y. int_eq x.1 y.1) items.items) b.1).0

-- the names of the items of a slot differ
items_differ : (root : Grammar) → IsTree root → (t : ℕ) → all_differ same_named (items_of root t) ≡ true
items_differ root tree t = by (slot_leaf root t) refl
  where
    by : (o : Option NumLeaf) → slot_leaf root t ≡ o → all_differ same_named (items_of root t) ≡ true
    by None e = rw e refl
    by (Some leaf) e = ap (λ o. all_differ same_named (unwrap_or (option_map (λ l. l.items.items) o) [])) e ∙ names_differ leaf.kind leaf.coding leaf.items leaf.table leaf.set (rules_of leaf (slot_leaf_fine root tree t leaf e)).set

pub item_place : (root : Grammar) → IsTree root → (t : ℕ) (name : List ℕ) (i : ℕ) (x : ℤ) → slice_get (items_of root t) i ≡ Some (name, x) → index_of (same_name name) (items_of root t) ≡ i
item_place root tree t name i x e = index_at name (items_of root t) i x (items_differ root tree t) e
