-- In a well-formed tree the names of each SEQUENCE differ.
use Rattle.std.proofs.Common.{◌≡◌, ℕ, suc, Bool, true, ◌&&◌, List, [], ◌∷◌, ◌++◌, length, nat_le}
use Rattle.std.specs.List.{list_all, range_with_len}
use Rattle.std.proofs.lemmas.Bool.{and_parts}
use Rattle.acn_grammar.specs.Grammar.{Grammar, Form, Fields, Alternatives, node, num, octets, bits, text, seq, list, choice, contained, no_fields, component, inserted, no_alternatives, alternative}
use Rattle.acn_grammar.specs.Tree.{IsTree, stand_rules, all_true, same_numbers, slots_of, form_fine}
use Rattle.acn_grammar.specs.Walk.{Stand, Role, component_role, an_inserted, alternative_role, an_element, a_content, root_node, nodes, form_nodes, field_nodes, alternative_nodes, nodes_of}
use Rattle.acn_grammar.specs.declared.node.ChoiceRule.{ChoiceRule}
use Rattle.acn_grammar.proofs.TreeRules.{stand_fine, list_all-append}
use Rattle.acn_lines.specs.Names.{NamesDiffer, FormNamesDiffer, FieldsNamesDiffer, AlternativesNamesDiffer}

module _ (all : List Stand) where
  abbrev passes : Stand → Bool
  passes at = all_true (stand_rules all at)

  mutual
    of_node : (g : Grammar) (role : Role) (path around : List ℕ) → list_all passes (nodes role path around g) ≡ true → NamesDiffer g
    of_node (node align form) role path around h =
        let here : Stand = record { path = path; around = around; role = role; align = align; form = form } in
        let p = and_parts (passes here) (list_all passes (form_nodes path around form)) h in
        of_form form path around (stand_fine all here p.0).form p.1

    of_form : (form : Form) (path around : List ℕ) → form_fine form ≡ true → list_all passes (form_nodes path around form) ≡ true → FormNamesDiffer form
    of_form (num leaf) path around f h = tt
    of_form (octets sizing) path around f h = tt
    of_form (bits sizing) path around f h = tt
    of_form (text leaf) path around f h = tt
    of_form (seq fields home) path around f h = (f, of_fields fields path (home ++ around) 0 h)
    of_form (list sizing g) path around f h = of_node g an_element (path ++ 0 ∷ []) around h
    of_form (choice cases rule) path around f h = of_alternatives cases rule path around 0 h
    of_form (contained sizing g) path around f h = of_node g a_content (path ++ 0 ∷ []) around h

    of_fields : (fs : Fields) (path around : List ℕ) (k : ℕ) → list_all passes (field_nodes path around k fs) ≡ true → FieldsNamesDiffer fs
    of_fields no_fields path around k h = tt
    of_fields (component name g presence default own fs) path around k h =
        let p = list_all-append passes (nodes (component_role name presence default own) (path ++ k ∷ []) around g) (field_nodes path around (suc k) fs) h in
        (of_node g (component_role name presence default own) (path ++ k ∷ []) around p.0, of_fields fs path around (suc k) p.1)
    of_fields (inserted name g slot fs) path around k h =
        let p = list_all-append passes (nodes (an_inserted name slot) (path ++ k ∷ []) around g) (field_nodes path around (suc k) fs) h in
        of_fields fs path around (suc k) p.1

    of_alternatives : (cases : Alternatives) (rule : ChoiceRule) (path around : List ℕ) (k : ℕ) → list_all passes (alternative_nodes rule path around k cases) ≡ true → AlternativesNamesDiffer cases
    of_alternatives no_alternatives rule path around k h = tt
    of_alternatives (alternative name g tests more) rule path around k h =
        let p = list_all-append passes (nodes (alternative_role name tests rule) (path ++ k ∷ []) around g) (alternative_nodes rule path around (suc k) more) h in
        (of_node g (alternative_role name tests rule) (path ++ k ∷ []) around p.0, of_alternatives more rule path around (suc k) p.1)

pub names_differ : (root : Grammar) → IsTree root → NamesDiffer root
names_differ root h =
    let all = nodes_of root in
    let a = and_parts (nat_le (length all) 65536) (same_numbers (slots_of all) (range_with_len 0 (length (slots_of all))) && list_all (λ at. all_true (stand_rules all at)) all) h in
    let b = and_parts (same_numbers (slots_of all) (range_with_len 0 (length (slots_of all)))) (list_all (λ at. all_true (stand_rules all at)) all) a.1 in
    of_node all root root_node [] [] b.1
