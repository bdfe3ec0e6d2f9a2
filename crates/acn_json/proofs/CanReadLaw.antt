-- The rules of a tree give all that the walk over JSON takes.
use Rattle.std.proofs.Common.{◌≡◌, ℕ, zero, suc, ◌+◌, ◌<◌, ◌≤◌, Bool, true, List, [], ◌∷◌, ◌++◌, length, refl, sym, ap, ◌∙◌, arith, nat_le, ◌&&◌, length-append}
use Rattle.std.specs.List.{list_all, range_with_len}
use Rattle.std.proofs.lemmas.Bool.{leb-true, and_parts}
use Rattle.acn_grammar.specs.Grammar.{Grammar, Form, Fields, Alternatives, node, num, octets, bits, text, seq, list, choice, contained, no_fields, component, inserted, no_alternatives, alternative}
use Rattle.acn_grammar.specs.Tree.{IsTree, form_fine, stand_rules, all_true, same_numbers, slots_of}
use Rattle.acn_grammar.specs.Walk.{Stand, Role, component_role, an_inserted, alternative_role, an_element, a_content, root_node, nodes, form_nodes, field_nodes, alternative_nodes, nodes_of}
use Rattle.acn_grammar.specs.declared.node.ChoiceRule.{ChoiceRule}
use Rattle.acn_grammar.proofs.TreeRules.{stand_fine, list_all-append}
use Rattle.acn_tree.specs.Made.{alternative_count}
use Rattle.acn_tree.specs.Room.{field_count}
use Rattle.acn_json.specs.Few.{CanRead, FormCanRead, FieldsCanRead, AlternativesCanRead}

one_longer : (path : List ℕ) (k : ℕ) → length (path ++ k ∷ []) ≡ length path + 1
one_longer path k = length-append path (k ∷ [])

some_node : (role : Role) (path around : List ℕ) (g : Grammar) → 0 < length (nodes role path around g)
some_node role path around (node align form) = omega arith

count_fields : (path around : List ℕ) (k : ℕ) (fs : Fields) → field_count fs ≤ length (field_nodes path around k fs)
count_fields path around k no_fields = omega arith
count_fields path around k (component name g presence default own fs) =
    omega (arith, some_node (component_role name presence default own) (path ++ k ∷ []) around g, count_fields path around (suc k) fs, length-append (nodes (component_role name presence default own) (path ++ k ∷ []) around g) (field_nodes path around (suc k) fs))
count_fields path around k (inserted name g slot fs) =
    omega (arith, some_node (an_inserted name slot) (path ++ k ∷ []) around g, count_fields path around (suc k) fs, length-append (nodes (an_inserted name slot) (path ++ k ∷ []) around g) (field_nodes path around (suc k) fs))

count_cases : (rule : ChoiceRule) (path around : List ℕ) (k : ℕ) (cases : Alternatives) → alternative_count cases ≤ length (alternative_nodes rule path around k cases)
count_cases rule path around k no_alternatives = omega arith
count_cases rule path around k (alternative name g tests more) =
    omega (arith, some_node (alternative_role name tests rule) (path ++ k ∷ []) around g, count_cases rule path around (suc k) more, length-append (nodes (alternative_role name tests rule) (path ++ k ∷ []) around g) (alternative_nodes rule path around (suc k) more))

module _ (all : List Stand) where
  abbrev passes : Stand → Bool
  passes at = all_true (stand_rules all at)

  mutual
    of_node : (g : Grammar) (role : Role) (path around : List ℕ) (m : ℕ) → m ≡ length path → list_all passes (nodes role path around g) ≡ true → length (nodes role path around g) ≤ 65536 → CanRead m g
    of_node (node align form) role path around m e h n =
        let here : Stand = record { path = path; around = around; role = role; align = align; form = form } in
        let p = and_parts (passes here) (list_all passes (form_nodes path around form)) h in
        let s = stand_fine all here p.0 in
        let d = leb-true (length path) 64 s.depth in
        (omega arith, of_form form path around m e p.1 (omega arith))

    of_form : (form : Form) (path around : List ℕ) (m : ℕ) → m ≡ length path → list_all passes (form_nodes path around form) ≡ true → length (form_nodes path around form) ≤ 65536 → FormCanRead m form
    of_form (num leaf) path around m e h n = tt
    of_form (octets sizing) path around m e h n = tt
    of_form (bits sizing) path around m e h n = tt
    of_form (text leaf) path around m e h n = tt
    of_form (seq fields home) path around m e h n =
        let c = count_fields path (home ++ around) 0 fields in
        (omega arith, of_fields fields path (home ++ around) 0 m e h n)
    of_form (list sizing g) path around m e h n = of_node g an_element (path ++ 0 ∷ []) around (m + 1) (ap (λ i. i + 1) e ∙ sym (one_longer path 0)) h n
    of_form (choice cases rule) path around m e h n =
        let c = count_cases rule path around 0 cases in
        (omega arith, of_alternatives cases rule path around 0 m e h n)
    of_form (contained sizing g) path around m e h n = of_node g a_content (path ++ 0 ∷ []) around (m + 1) (ap (λ i. i + 1) e ∙ sym (one_longer path 0)) h n

    of_fields : (fs : Fields) (path around : List ℕ) (k m : ℕ) → m ≡ length path → list_all passes (field_nodes path around k fs) ≡ true → length (field_nodes path around k fs) ≤ 65536 → FieldsCanRead (m + 1) fs
    of_fields no_fields path around k m e h n = tt
    of_fields (component name g presence default own fs) path around k m e h n =
        let p = list_all-append passes (nodes (component_role name presence default own) (path ++ k ∷ []) around g) (field_nodes path around (suc k) fs) h in
        let l = length-append (nodes (component_role name presence default own) (path ++ k ∷ []) around g) (field_nodes path around (suc k) fs) in
        (of_node g (component_role name presence default own) (path ++ k ∷ []) around (m + 1) (ap (λ i. i + 1) e ∙ sym (one_longer path k)) p.0 (omega arith), of_fields fs path around (suc k) m e p.1 (omega arith))
    of_fields (inserted name g slot fs) path around k m e h n =
        let p = list_all-append passes (nodes (an_inserted name slot) (path ++ k ∷ []) around g) (field_nodes path around (suc k) fs) h in
        let l = length-append (nodes (an_inserted name slot) (path ++ k ∷ []) around g) (field_nodes path around (suc k) fs) in
        of_fields fs path around (suc k) m e p.1 (omega arith)

    of_alternatives : (cases : Alternatives) (rule : ChoiceRule) (path around : List ℕ) (k m : ℕ) → m ≡ length path → list_all passes (alternative_nodes rule path around k cases) ≡ true → length (alternative_nodes rule path around k cases) ≤ 65536 → AlternativesCanRead (m + 1) cases
    of_alternatives no_alternatives rule path around k m e h n = tt
    of_alternatives (alternative name g tests more) rule path around k m e h n =
        let p = list_all-append passes (nodes (alternative_role name tests rule) (path ++ k ∷ []) around g) (alternative_nodes rule path around (suc k) more) h in
        let l = length-append (nodes (alternative_role name tests rule) (path ++ k ∷ []) around g) (alternative_nodes rule path around (suc k) more) in
        (of_node g (alternative_role name tests rule) (path ++ k ∷ []) around (m + 1) (ap (λ i. i + 1) e ∙ sym (one_longer path k)) p.0 (omega arith), of_alternatives more rule path around (suc k) m e p.1 (omega arith))

pub can_read : (root : Grammar) → IsTree root → CanRead 0 root
can_read root h =
    let all = nodes_of root in
    let a = and_parts (nat_le (length all) 65536) (same_numbers (slots_of all) (range_with_len 0 (length (slots_of all))) && list_all (λ at. all_true (stand_rules all at)) all) h in
    let b = and_parts (same_numbers (slots_of all) (range_with_len 0 (length (slots_of all)))) (list_all (λ at. all_true (stand_rules all at)) all) a.1 in
    of_node all root root_node [] [] 0 refl b.1 (leb-true (length all) 65536 a.0)
