-- The walk finds the first field in preorder that says the number of a slot.
use Rattle.std.proofs.Common.{◌≡◌, ℕ, suc, Bool, true, false, List, [], ◌∷◌, ◌++◌, Option, Some, option_map, refl, ap, ◌∙◌}
use Rattle.std.specs.Prelude.{if◌then◌else◌}
use Rattle.acn_grammar.specs.Grammar.{Grammar, Form, Fields, Alternatives, node, num, octets, bits, text, seq, list, choice, contained, no_fields, component, inserted, no_alternatives, alternative}
use Rattle.acn_grammar.specs.Slots.{first_of_two}
use Rattle.acn_grammar.specs.Walk.{Stand, Role, component_role, an_inserted, alternative_role, an_element, a_content, root_node, nodes, form_nodes, field_nodes, alternative_nodes, slot_here}
use Rattle.acn_grammar.specs.declared.node.ChoiceRule.{ChoiceRule}
use Rattle.acn_report.specs.Slots.{says, first_with, slot_path}
use Rattle.acn_report.specs.Walks.{own_or, path_in, form_path, fields_path, alternatives_path}

abbrev place_of : Stand → List ℕ
place_of at = at.path

module _ (s : ℕ) where
  -- the path of the first of a list
  abbrev found : List Stand → Option (List ℕ)
  found l = option_map place_of (first_with (says s) l)

  found-append : (a b : List Stand) → found (a ++ b) ≡ first_of_two (found a) (found b)
  found-append [] b = refl
  found-append (at ∷ a) b = by (says s at) (found-append a b)
    where
      by : (t : Bool) → found (a ++ b) ≡ first_of_two (found a) (found b)
          → option_map place_of (if t then Some at else first_with (says s) (a ++ b)) ≡ first_of_two (option_map place_of (if t then Some at else first_with (says s) a)) (found b)
      by true e = refl
      by false e = e

  here : (at : Stand) (l : List Stand) → found (at ∷ l) ≡ own_or (slot_here at.role) s at.path (found l)
  here at l = by (says s at)
    where
      by : (t : Bool) → option_map place_of (if t then Some at else first_with (says s) l) ≡ (if t then Some at.path else found l)
      by true = refl
      by false = refl

  both : (a b : List Stand) (x y : Option (List ℕ)) → found a ≡ x → found b ≡ y → found (a ++ b) ≡ first_of_two x y
  both a b x y e f = found-append a b ∙ (ap (λ z. first_of_two z (found b)) e ∙ ap (first_of_two x) f)

  mutual
    node_found : (g : Grammar) (role : Role) (path around : List ℕ) → found (nodes role path around g) ≡ own_or (slot_here role) s path (path_in path g s)
    node_found (node align form) role path around =
        let at : Stand = record { path = path; around = around; role = role; align = align; form = form } in
        here at (form_nodes path around form) ∙ ap (own_or (slot_here role) s path) (form_found form path around)

    form_found : (form : Form) (path around : List ℕ) → found (form_nodes path around form) ≡ form_path path form s
    form_found (num leaf) path around = refl
    form_found (octets sizing) path around = refl
    form_found (bits sizing) path around = refl
    form_found (text leaf) path around = refl
    form_found (seq fields home) path around = fields_found fields path (home ++ around) 0
    form_found (list sizing g) path around = node_found g an_element (path ++ 0 ∷ []) around
    form_found (choice cases rule) path around = cases_found cases rule path around 0
    form_found (contained sizing g) path around = node_found g a_content (path ++ 0 ∷ []) around

    fields_found : (fs : Fields) (path around : List ℕ) (k : ℕ) → found (field_nodes path around k fs) ≡ fields_path path k fs s
    fields_found no_fields path around k = refl
    fields_found (component name g presence default own fs) path around k =
        both (nodes (component_role name presence default own) (path ++ k ∷ []) around g) (field_nodes path around (suc k) fs) _ _ (node_found g (component_role name presence default own) (path ++ k ∷ []) around) (fields_found fs path around (suc k))
    fields_found (inserted name g slot fs) path around k =
        both (nodes (an_inserted name slot) (path ++ k ∷ []) around g) (field_nodes path around (suc k) fs) _ _ (node_found g (an_inserted name slot) (path ++ k ∷ []) around) (fields_found fs path around (suc k))

    cases_found : (cases : Alternatives) (rule : ChoiceRule) (path around : List ℕ) (k : ℕ) → found (alternative_nodes rule path around k cases) ≡ alternatives_path path k cases s
    cases_found no_alternatives rule path around k = refl
    cases_found (alternative name g tests more) rule path around k =
        both (nodes (alternative_role name tests rule) (path ++ k ∷ []) around g) (alternative_nodes rule path around (suc k) more) _ _ (node_found g (alternative_role name tests rule) (path ++ k ∷ []) around) (cases_found more rule path around (suc k))

pub slot_found : (root : Grammar) (s : ℕ) → slot_path root s ≡ path_in [] root s
slot_found root s = node_found s root root_node [] []
