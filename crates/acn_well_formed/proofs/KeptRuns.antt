-- The rules of nodes by recursion are those of all the nodes in preorder.
use Rattle.std.proofs.Common.{◌≡◌, ℕ, suc, Bool, true, false, List, [], ◌∷◌, ◌++◌, ◌&&◌, refl, ◌∙◌}
use Rattle.std.specs.List.{list_all}
use Rattle.std.proofs.lemmas.List.Folds.{list_all-append}
use Rattle.acn_grammar.specs.Grammar.{Grammar, Form, Fields, Alternatives, node, num, octets, bits, text, seq, list, choice, contained, no_fields, component, inserted, no_alternatives, alternative}
use Rattle.acn_well_formed.specs.Kept.{kept, form_kept, fields_kept, alternatives_kept, tests_below, uses_below, all_below, rises_from, form_in}
use Rattle.acn_grammar.specs.Tree.{is_align, form_fine, role_fine}
use Rattle.acn_grammar.specs.Walk.{Stand, Role, component_role, an_inserted, alternative_role, an_element, a_content, nodes, form_nodes, field_nodes, alternative_nodes, own_tests}
use Rattle.acn_grammar.specs.declared.node.ChoiceRule.{ChoiceRule}

module _ (n : ℕ) where
  abbrev pub home_low : Form → Bool
  home_low (seq fs home) = rises_from 0 home && all_below n home
  home_low _ = true

  abbrev pub kept_of : Stand → Bool
  kept_of at = role_fine at.role at.form && (tests_below n (own_tests at.role) && (is_align at.align && (form_fine at.form && (uses_below n at.form && home_low at.form))))

  six_and : (r t a f u h l k : Bool) → (h && l) ≡ k → ((r && (t && (a && (f && (u && h))))) && l) ≡ (r && (t && (a && (f && (u && k)))))
  six_and false t a f u h l k e = refl
  six_and true false a f u h l k e = refl
  six_and true true false f u h l k e = refl
  six_and true true true false u h l k e = refl
  six_and true true true true false h l k e = refl
  six_and true true true true true h l k e = e

  and_three : (a b c d : Bool) → c ≡ d → ((a && b) && c) ≡ (a && (b && d))
  and_three false b c d e = refl
  and_three true false c d e = refl
  and_three true true c d e = e

  and_two : (a b c d : Bool) → a ≡ c → b ≡ d → (a && b) ≡ (c && d)
  and_two a b c d e f = rw (e, f) refl

  mutual
    pub kept_node : (g : Grammar) (role : Role) (path around : List ℕ) → list_all kept_of (nodes role path around g) ≡ (role_fine role (form_in g) && (tests_below n (own_tests role) && kept n g))
    kept_node (node align form) role path around =
        six_and (role_fine role form) (tests_below n (own_tests role)) (is_align align) (form_fine form) (uses_below n form) (home_low form) (list_all kept_of (form_nodes path around form)) (form_kept n form) (kept_form form path around)

    kept_form : (form : Form) (path around : List ℕ) → (home_low form && list_all kept_of (form_nodes path around form)) ≡ form_kept n form
    kept_form (num leaf) path around = refl
    kept_form (octets sizing) path around = refl
    kept_form (bits sizing) path around = refl
    kept_form (text leaf) path around = refl
    kept_form (seq fields home) path around = and_three (rises_from 0 home) (all_below n home) (list_all kept_of (field_nodes path (home ++ around) 0 fields)) (fields_kept n fields) (kept_fields fields path (home ++ around) 0)
    kept_form (list sizing g) path around = kept_node g an_element (path ++ 0 ∷ []) around
    kept_form (choice cases rule) path around = kept_alternatives cases rule path around 0
    kept_form (contained sizing g) path around = kept_node g a_content (path ++ 0 ∷ []) around

    kept_fields : (fs : Fields) (path around : List ℕ) (k : ℕ) → list_all kept_of (field_nodes path around k fs) ≡ fields_kept n fs
    kept_fields no_fields path around k = refl
    kept_fields (component name g presence default own fs) path around k =
        list_all-append kept_of (nodes (component_role name presence default own) (path ++ k ∷ []) around g) (field_nodes path around (suc k) fs)
        ∙ and_two _ _ _ _ (kept_node g (component_role name presence default own) (path ++ k ∷ []) around) (kept_fields fs path around (suc k))
    kept_fields (inserted name g slot fs) path around k =
        list_all-append kept_of (nodes (an_inserted name slot) (path ++ k ∷ []) around g) (field_nodes path around (suc k) fs)
        ∙ and_two _ _ _ _ (kept_node g (an_inserted name slot) (path ++ k ∷ []) around) (kept_fields fs path around (suc k))

    kept_alternatives : (as' : Alternatives) (rule : ChoiceRule) (path around : List ℕ) (k : ℕ) → list_all kept_of (alternative_nodes rule path around k as') ≡ alternatives_kept n as'
    kept_alternatives no_alternatives rule path around k = refl
    kept_alternatives (alternative name g tests more) rule path around k =
        list_all-append kept_of (nodes (alternative_role name tests rule) (path ++ k ∷ []) around g) (alternative_nodes rule path around (suc k) more)
        ∙ and_two _ _ _ _ (kept_node g (alternative_role name tests rule) (path ++ k ∷ []) around) (kept_alternatives more rule path around (suc k))
