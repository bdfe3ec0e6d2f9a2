-- The rules of a tree give all that making a value takes.
use Rattle.std.proofs.Common.{◌≡◌, ℕ, suc, ◌<◌, ◌≤◌, Bool, true, List, [], ◌∷◌, ◌++◌, length, refl, arith, nat_le, nat_lt, ◌&&◌, length-append, map}
use Rattle.std.specs.List.{list_all, range_with_len}
use Rattle.acn_tree.specs.CanDraw.{CanDraw, FormCanDraw, FieldsCanDraw, AlternativesCanDraw}
use Rattle.acn_grammar.specs.Grammar.{Grammar, Form, Fields, Alternatives, node, num, octets, bits, text, seq, list, choice, contained, no_fields, component, inserted, no_alternatives, alternative}
use Rattle.acn_grammar.specs.Leaves.{sizing_fine, list_fine, list_rule_fine, sizes_fine, rule_fine, all_differ}
use Rattle.acn_grammar.specs.Length.{ending}
use Rattle.acn_grammar.specs.Asks.{same_name}
use Rattle.acn_tree.specs.Made.{alternative_count}
use Rattle.acn_grammar.specs.Tree.{IsTree, form_fine, choice_rule_fine, stand_rules, all_true, same_numbers, slots_of}
use Rattle.acn_grammar.specs.Walk.{Stand, Role, component_role, an_inserted, alternative_role, an_element, a_content, root_node, nodes, form_nodes, field_nodes, alternative_nodes, nodes_of, conditions_of}
use Rattle.acn_grammar.specs.declared.node.ChoiceRule.{ChoiceRule}
use Rattle.acn_grammar.specs.declared.node.Sizing.{Sizing}
use Rattle.acn_grammar.proofs.TreeRules.{stand_fine, list_all-append}
use Rattle.std.proofs.lemmas.Bool.{leb-true, ltb-true, and_parts}

sizes_of : (sizing : Sizing) → sizing_fine sizing ≡ true → sizes_fine sizing.sizes ≡ true
sizes_of sizing h = (and_parts (sizes_fine sizing.sizes) (rule_fine sizing.sizes sizing.rule) h).0

list_sizes : (sizing : Sizing) → list_fine sizing ≡ true → sizes_fine sizing.sizes ≡ true
list_sizes sizing h = (and_parts (sizes_fine sizing.sizes) (list_rule_fine (ending sizing.rule) sizing) h).0

same_count : (cases : Alternatives) → length (conditions_of cases) ≡ alternative_count cases
same_count no_alternatives = refl
same_count (alternative name g tests more) = (let e = same_count more in omega arith)

some_case : (cases : Alternatives) (rule : ChoiceRule) → form_fine (choice cases rule) ≡ true → 0 < alternative_count cases
some_case cases rule h =
    let names = all_differ same_name (map (λ c. c.0) (conditions_of cases)) in
    let a = and_parts (nat_lt 0 (length (conditions_of cases))) (names && choice_rule_fine (conditions_of cases) rule) h in
    let e = same_count cases in
    let p = ltb-true 0 (length (conditions_of cases)) a.0 in
    omega arith

some_node : (role : Role) (path around : List ℕ) (g : Grammar) → 0 < length (nodes role path around g)
some_node role path around (node align form) = omega arith

count_cases : (rule : ChoiceRule) (path around : List ℕ) (k : ℕ) (cases : Alternatives) → alternative_count cases ≤ length (alternative_nodes rule path around k cases)
count_cases rule path around k no_alternatives = omega arith
count_cases rule path around k (alternative name g tests more) =
    omega (arith, some_node (alternative_role name tests rule) (path ++ k ∷ []) around g, count_cases rule path around (suc k) more, length-append (nodes (alternative_role name tests rule) (path ++ k ∷ []) around g) (alternative_nodes rule path around (suc k) more))

module _ (all : List Stand) where
  abbrev passes : Stand → Bool
  passes at = all_true (stand_rules all at)

  mutual
    can_node : (g : Grammar) (role : Role) (path around : List ℕ) → list_all passes (nodes role path around g) ≡ true → length (nodes role path around g) ≤ 65536 → CanDraw g
    can_node (node align form) role path around h n =
        let here : Stand = record { path = path; around = around; role = role; align = align; form = form } in
        let p = and_parts (passes here) (list_all passes (form_nodes path around form)) h in
        can_form form path around (stand_fine all here p.0).form p.1 (omega arith)

    can_form : (form : Form) (path around : List ℕ) → form_fine form ≡ true → list_all passes (form_nodes path around form) ≡ true → length (form_nodes path around form) ≤ 65536 → FormCanDraw form
    can_form (num leaf) path around f h n = f
    can_form (octets sizing) path around f h n = sizes_of sizing f
    can_form (bits sizing) path around f h n = sizes_of sizing f
    can_form (text leaf) path around f h n = f
    can_form (seq fields home) path around f h n = can_fields fields path (home ++ around) 0 h n
    can_form (list sizing g) path around f h n = (list_sizes sizing f, can_node g an_element (path ++ 0 ∷ []) around h n)
    can_form (choice cases rule) path around f h n =
        let c = count_cases rule path around 0 cases in
        (some_case cases rule f, omega arith, can_alternatives cases rule path around 0 h n)
    can_form (contained sizing g) path around f h n = can_node g a_content (path ++ 0 ∷ []) around h n

    can_fields : (fs : Fields) (path around : List ℕ) (k : ℕ) → list_all passes (field_nodes path around k fs) ≡ true → length (field_nodes path around k fs) ≤ 65536 → FieldsCanDraw fs
    can_fields no_fields path around k h n = tt
    can_fields (component name g presence default own fs) path around k h n =
        let p = list_all-append passes (nodes (component_role name presence default own) (path ++ k ∷ []) around g) (field_nodes path around (suc k) fs) h in
        let l = length-append (nodes (component_role name presence default own) (path ++ k ∷ []) around g) (field_nodes path around (suc k) fs) in
        (can_node g (component_role name presence default own) (path ++ k ∷ []) around p.0 (omega arith), can_fields fs path around (suc k) p.1 (omega arith))
    can_fields (inserted name g slot fs) path around k h n =
        let p = list_all-append passes (nodes (an_inserted name slot) (path ++ k ∷ []) around g) (field_nodes path around (suc k) fs) h in
        let l = length-append (nodes (an_inserted name slot) (path ++ k ∷ []) around g) (field_nodes path around (suc k) fs) in
        can_fields fs path around (suc k) p.1 (omega arith)

    can_alternatives : (cases : Alternatives) (rule : ChoiceRule) (path around : List ℕ) (k : ℕ) → list_all passes (alternative_nodes rule path around k cases) ≡ true → length (alternative_nodes rule path around k cases) ≤ 65536 → AlternativesCanDraw cases
    can_alternatives no_alternatives rule path around k h n = tt
    can_alternatives (alternative name g tests more) rule path around k h n =
        let p = list_all-append passes (nodes (alternative_role name tests rule) (path ++ k ∷ []) around g) (alternative_nodes rule path around (suc k) more) h in
        let l = length-append (nodes (alternative_role name tests rule) (path ++ k ∷ []) around g) (alternative_nodes rule path around (suc k) more) in
        (can_node g (alternative_role name tests rule) (path ++ k ∷ []) around p.0 (omega arith), can_alternatives more rule path around (suc k) p.1 (omega arith))

pub tree_can_draw : (root : Grammar) → IsTree root → CanDraw root
tree_can_draw root h =
    let all = nodes_of root in
    let a = and_parts (nat_le (length all) 65536) (same_numbers (slots_of all) (range_with_len 0 (length (slots_of all))) && list_all (λ at. all_true (stand_rules all at)) all) h in
    let b = and_parts (same_numbers (slots_of all) (range_with_len 0 (length (slots_of all)))) (list_all (λ at. all_true (stand_rules all at)) all) a.1 in
    can_node all root root_node [] [] b.1 (leb-true (length all) 65536 a.0)
