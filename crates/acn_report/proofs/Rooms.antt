-- The nodes of a tree can be walked over: no path is too long, and there are few fields and alternatives in one place.
use Rattle.std.proofs.Common.{◌≡◌, ℕ, suc, ◌+◌, ◌<◌, ◌≤◌, Bool, true, List, [], ◌∷◌, ◌++◌, length, arith, nat_le, ◌&&◌, length-append}
use Rattle.std.specs.List.{list_all, range_with_len}
use Rattle.std.proofs.lemmas.Bool.{leb-true, and_parts}
use Rattle.acn_grammar.specs.Grammar.{Grammar, Form, Fields, Alternatives, node, num, octets, bits, text, seq, list, choice, contained, no_fields, component, inserted, no_alternatives, alternative}
use Rattle.acn_grammar.specs.Tree.{IsTree, stand_rules, all_true, same_numbers, slots_of}
use Rattle.acn_grammar.specs.Walk.{Stand, Role, component_role, an_inserted, alternative_role, an_element, a_content, root_node, nodes, form_nodes, field_nodes, alternative_nodes, nodes_of}
use Rattle.acn_grammar.specs.declared.node.ChoiceRule.{ChoiceRule}
use Rattle.acn_num.specs.declared.limits.TheConstants.{MOST_STEPS}
use Rattle.acn_grammar.proofs.TreeRules.{stand_fine, list_all-append}
use Rattle.acn_report.specs.Walks.{Walkable, FormWalkable, FieldsWalkable, AlternativesWalkable}

some_node : (role : Role) (path around : List ℕ) (g : Grammar) → 0 < length (nodes role path around g)
some_node role path around (node align form) = omega arith

module _ (all : List Stand) where
  abbrev passes : Stand → Bool
  passes at = all_true (stand_rules all at)

  mutual
    of_node : (g : Grammar) (role : Role) (path around : List ℕ) → list_all passes (nodes role path around g) ≡ true → length (nodes role path around g) ≤ 65536 → Walkable path g
    of_node (node align form) role path around h n =
        let here : Stand = record { path = path; around = around; role = role; align = align; form = form } in
        let p = and_parts (passes here) (list_all passes (form_nodes path around form)) h in
        let s = stand_fine all here p.0 in
        (leb-true (length path) 64 s.depth, of_form form path around p.1 (omega arith))

    of_form : (form : Form) (path around : List ℕ) → list_all passes (form_nodes path around form) ≡ true → length (form_nodes path around form) < 65536 → FormWalkable path form
    of_form (num leaf) path around h n = tt
    of_form (octets sizing) path around h n = tt
    of_form (bits sizing) path around h n = tt
    of_form (text leaf) path around h n = tt
    of_form (seq fields home) path around h n = of_fields fields path (home ++ around) 0 h (omega arith)
    of_form (list sizing g) path around h n = of_node g an_element (path ++ 0 ∷ []) around h (omega arith)
    of_form (choice cases rule) path around h n = of_alternatives cases rule path around 0 h (omega arith)
    of_form (contained sizing g) path around h n = of_node g a_content (path ++ 0 ∷ []) around h (omega arith)

    of_fields : (fs : Fields) (path around : List ℕ) (k : ℕ) → list_all passes (field_nodes path around k fs) ≡ true → k + length (field_nodes path around k fs) ≤ 65536 → FieldsWalkable path k fs
    of_fields no_fields path around k h n = tt
    of_fields (component name g presence default own fs) path around k h n =
        let one = nodes (component_role name presence default own) (path ++ k ∷ []) around g in
        let p = list_all-append passes one (field_nodes path around (suc k) fs) h in
        let l = length-append one (field_nodes path around (suc k) fs) in
        let s = some_node (component_role name presence default own) (path ++ k ∷ []) around g in
        (omega arith, of_node g (component_role name presence default own) (path ++ k ∷ []) around p.0 (omega arith), of_fields fs path around (suc k) p.1 (omega arith))
    of_fields (inserted name g slot fs) path around k h n =
        let one = nodes (an_inserted name slot) (path ++ k ∷ []) around g in
        let p = list_all-append passes one (field_nodes path around (suc k) fs) h in
        let l = length-append one (field_nodes path around (suc k) fs) in
        let s = some_node (an_inserted name slot) (path ++ k ∷ []) around g in
        (omega arith, of_node g (an_inserted name slot) (path ++ k ∷ []) around p.0 (omega arith), of_fields fs path around (suc k) p.1 (omega arith))

    of_alternatives : (cases : Alternatives) (rule : ChoiceRule) (path around : List ℕ) (k : ℕ) → list_all passes (alternative_nodes rule path around k cases) ≡ true → k + length (alternative_nodes rule path around k cases) ≤ 65536 → AlternativesWalkable path k cases
    of_alternatives no_alternatives rule path around k h n = tt
    of_alternatives (alternative name g tests more) rule path around k h n =
        let one = nodes (alternative_role name tests rule) (path ++ k ∷ []) around g in
        let p = list_all-append passes one (alternative_nodes rule path around (suc k) more) h in
        let l = length-append one (alternative_nodes rule path around (suc k) more) in
        let s = some_node (alternative_role name tests rule) (path ++ k ∷ []) around g in
        (omega arith, of_node g (alternative_role name tests rule) (path ++ k ∷ []) around p.0 (omega arith), of_alternatives more rule path around (suc k) p.1 (omega arith))

pub walkable : (root : Grammar) → IsTree root → Walkable [] root
walkable root h =
    let all = nodes_of root in
    let a = and_parts (nat_le (length all) 65536) (same_numbers (slots_of all) (range_with_len 0 (length (slots_of all))) && list_all (λ at. all_true (stand_rules all at)) all) h in
    let b = and_parts (same_numbers (slots_of all) (range_with_len 0 (length (slots_of all)))) (list_all (λ at. all_true (stand_rules all at)) all) a.1 in
    of_node all root root_node [] [] b.1 (leb-true (length all) 65536 a.0)

-- a child stands at a path with a step more
pub room : (path : List ℕ) (k : ℕ) (g : Grammar) → Walkable (path ++ k ∷ []) g → length path < MOST_STEPS
room path k (node align form) h = (let n = length-append path (k ∷ []) in let d = h.0 in omega arith)
