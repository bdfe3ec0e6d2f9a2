-- In a well-formed tree names in one place differ.
use Rattle.std.proofs.Common.{◌≡◌, ℕ, suc, ◌-◌, ℤ, pos, Bool, true, not, ◌&&◌, List, [], ◌∷◌, ◌++◌, length, map, nat_le, nat_lt, nat_eq, Option, refl, arith}
use Rattle.std.proofs.lemmas.Bool.Decides.{nat_tests}
use Rattle.acn_num.specs.Ranges.{are_ranges}
use Rattle.acn_grammar.specs.Images.{ends}
use Rattle.std.specs.List.{list_all, range_with_len}
use Rattle.std.specs.Ordering.{int_eq}
use Rattle.acn_grammar.specs.Asks.{same_name}
use Rattle.acn_grammar.specs.Grammar.{Grammar, Form, Fields, Alternatives, node, num, octets, bits, text, seq, list, choice, contained, no_fields, component, inserted, no_alternatives, alternative}
use Rattle.acn_grammar.specs.Leaves.{all_differ, set_fine, integer_set_fine, items_fine, is_range, no_items}
use Rattle.acn_grammar.specs.Tree.{IsTree, form_fine, choice_rule_fine, stand_rules, all_true, same_numbers, slots_of}
use Rattle.acn_grammar.specs.Walk.{Stand, Role, component_role, an_inserted, alternative_role, an_element, a_content, root_node, nodes, form_nodes, field_nodes, alternative_nodes, nodes_of, conditions_of}
use Rattle.std.proofs.lemmas.Bool.{and_parts}
use Rattle.acn_grammar.proofs.FineLeaves.{rules_of}
use Rattle.acn_grammar.proofs.TreeRules.{stand_fine, list_all-append}
use Rattle.acn_grammar.specs.declared.node.ChoiceRule.{ChoiceRule}
use Rattle.acn_grammar.specs.declared.node.Items.{Items}
use Rattle.acn_grammar.specs.declared.node.NumKind.{NumKind}
use Rattle.acn_grammar.specs.declared.node.NumKind.TheVariants.{Integer, Boolean, Enumerated, Null}
use Rattle.acn_grammar.specs.declared.node.NumCoding.{NumCoding}
use Rattle.acn_grammar.specs.declared.node.Table.{Table}
use Rattle.acn_json.proofs.Back.{Distinct, FormDistinct, FieldsDistinct, AlternativesDistinct, names_of}

abbrev Differ : List (List ℕ × ℤ) → Type 0
Differ xs = all_differ (λ a b. same_name a.0 b.0) xs ≡ true

none_differ : (xs : List (List ℕ × ℤ)) → nat_eq (length xs) 0 ≡ true → Differ xs
none_differ [] h = refl
none_differ (x ∷ xs) h = absurd (apart (length xs) h)
  where
    apart : (n : ℕ) → nat_eq (suc n) 0 ≡ true → ⊥
    apart n h = grind (arith, nat_tests)

no_items_differ : (items : Items) → no_items items ≡ true → Differ items.items
no_items_differ items h = none_differ items.items (and_parts (nat_eq (length items.items) 0) (not items.values) h).0

leaf_differ : (kind : NumKind) (coding : NumCoding) (items : Items) (table : Option Table) (set : List (ℤ × ℤ)) → set_fine kind coding items table set ≡ true → Differ items.items
leaf_differ Integer coding items table set h =
    let a = and_parts (are_ranges set) (integer_set_fine coding (ends set) && no_items items) h in
    no_items_differ items (and_parts (integer_set_fine coding (ends set)) (no_items items) a.1).1
leaf_differ Boolean coding items table set h = no_items_differ items (and_parts (is_range (pos 0) (pos 1) set) (no_items items) h).1
leaf_differ Enumerated coding items table set h =
    let a = and_parts (nat_lt 0 (length items.items)) (is_range (pos 0) (pos (length items.items - 1)) set && items_fine coding items) h in
    let b = and_parts (is_range (pos 0) (pos (length items.items - 1)) set) (items_fine coding items) a.1 in
    (and_parts (all_differ (λ x y. same_name x.0 y.0) items.items) (all_differ (λ x y. int_eq x.1 y.1) items.items) b.1).0
leaf_differ Null coding items table set h = no_items_differ items (and_parts (is_range (pos 0) (pos 0) set) (no_items items) h).1

names_differ : (cases : Alternatives) (rule : ChoiceRule) → form_fine (choice cases rule) ≡ true → all_differ same_name (names_of cases) ≡ true
names_differ cases rule h =
    let names = all_differ same_name (map (λ c. c.0) (conditions_of cases)) in
    let a = and_parts (nat_lt 0 (length (conditions_of cases))) (names && choice_rule_fine (conditions_of cases) rule) h in
    (and_parts names (choice_rule_fine (conditions_of cases) rule) a.1).0

module _ (all : List Stand) where
  abbrev passes : Stand → Bool
  passes at = all_true (stand_rules all at)

  mutual
    of_node : (g : Grammar) (role : Role) (path around : List ℕ) → list_all passes (nodes role path around g) ≡ true → Distinct g
    of_node (node align form) role path around h =
        let here : Stand = record { path = path; around = around; role = role; align = align; form = form } in
        let p = and_parts (passes here) (list_all passes (form_nodes path around form)) h in
        of_form form path around (stand_fine all here p.0).form p.1

    of_form : (form : Form) (path around : List ℕ) → form_fine form ≡ true → list_all passes (form_nodes path around form) ≡ true → FormDistinct form
    of_form (num leaf) path around f h = leaf_differ leaf.kind leaf.coding leaf.items leaf.table leaf.set (rules_of leaf f).set
    of_form (octets sizing) path around f h = tt
    of_form (bits sizing) path around f h = tt
    of_form (text leaf) path around f h = tt
    of_form (seq fields home) path around f h = (f, of_fields fields path (home ++ around) 0 h)
    of_form (list sizing g) path around f h = of_node g an_element (path ++ 0 ∷ []) around h
    of_form (choice cases rule) path around f h = (names_differ cases rule f, of_alternatives cases rule path around 0 h)
    of_form (contained sizing g) path around f h = of_node g a_content (path ++ 0 ∷ []) around h

    of_fields : (fs : Fields) (path around : List ℕ) (k : ℕ) → list_all passes (field_nodes path around k fs) ≡ true → FieldsDistinct fs
    of_fields no_fields path around k h = tt
    of_fields (component name g presence default own fs) path around k h =
        let p = list_all-append passes (nodes (component_role name presence default own) (path ++ k ∷ []) around g) (field_nodes path around (suc k) fs) h in
        (of_node g (component_role name presence default own) (path ++ k ∷ []) around p.0, of_fields fs path around (suc k) p.1)
    of_fields (inserted name g slot fs) path around k h =
        let p = list_all-append passes (nodes (an_inserted name slot) (path ++ k ∷ []) around g) (field_nodes path around (suc k) fs) h in
        of_fields fs path around (suc k) p.1

    of_alternatives : (cases : Alternatives) (rule : ChoiceRule) (path around : List ℕ) (k : ℕ) → list_all passes (alternative_nodes rule path around k cases) ≡ true → AlternativesDistinct cases
    of_alternatives no_alternatives rule path around k h = tt
    of_alternatives (alternative name g tests more) rule path around k h =
        let p = list_all-append passes (nodes (alternative_role name tests rule) (path ++ k ∷ []) around g) (alternative_nodes rule path around (suc k) more) h in
        (of_node g (alternative_role name tests rule) (path ++ k ∷ []) around p.0, of_alternatives more rule path around (suc k) p.1)

pub distinct : (root : Grammar) → IsTree root → Distinct root
distinct root h =
    let all = nodes_of root in
    let a = and_parts (nat_le (length all) 65536) (same_numbers (slots_of all) (range_with_len 0 (length (slots_of all))) && list_all (λ at. all_true (stand_rules all at)) all) h in
    let b = and_parts (same_numbers (slots_of all) (range_with_len 0 (length (slots_of all)))) (list_all (λ at. all_true (stand_rules all at)) all) a.1 in
    of_node all root root_node [] [] b.1
