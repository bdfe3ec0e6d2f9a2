-- The lines of the nodes of a tree, by recursion.
use Rattle.std.proofs.Common.{◌≡◌, ℕ, zero, suc, List, [], ◌∷◌, ◌++◌, Some, refl, sym, ap, ◌∙◌}
use Rattle.std.specs.Prelude.{slice_get, option_map, unwrap_or}
use Rattle.std.specs.List.{flat_map}
use Rattle.std.proofs.lemmas.Grind.{flat_map-append}
use Rattle.acn_grammar.specs.Grammar.{Grammar, Form, Fields, Alternatives, node, num, octets, bits, text, seq, list, choice, contained, no_fields, component, inserted, no_alternatives, alternative}
use Rattle.acn_grammar.specs.Interval.{span}
use Rattle.acn_grammar.specs.Paths.{node_at}
use Rattle.acn_grammar.specs.View.{grammar_of}
use Rattle.acn_grammar.specs.Walk.{Stand, Role, root_node, component_role, an_inserted, alternative_role, an_element, a_content, nodes, form_nodes, field_nodes, alternative_nodes, nodes_of}
use Rattle.acn_grammar.specs.declared.node.ChoiceRule.{ChoiceRule}
use Rattle.acn_packet_laws.specs.Laws.{EachNodeHasItsPath}
use Rattle.acn_layout.specs.Layout.{tag_of, node_line, stand_line, layout_text}
use Rattle.acn_layout.specs.Walks.{plain, bounds_there, node_lines, form_lines, field_lines, case_lines}
use Rattle.acn_tree.specs.declared.tree.Tree.{Tree}

module _ (tree : Tree) where
  -- the line of a node, with the bounds of the node at its path
  abbrev line_at : Stand → List ℕ
  line_at at = node_line tree at.path (tag_of at.role) (bounds_there (grammar_of tree.root) at.path) at.align at.form

  both : (a b : List Stand) (x y : List ℕ) → flat_map line_at a ≡ x → flat_map line_at b ≡ y → flat_map line_at (a ++ b) ≡ x ++ y
  both a b x y e f = flat_map-append line_at a b ∙ (ap (λ l. l ++ flat_map line_at b) e ∙ ap (λ l. x ++ l) f)

  mutual
    of_node : (g : Grammar) (role : Role) (path around : List ℕ) → flat_map line_at (nodes role path around g) ≡ node_lines tree (tag_of role) path g
    of_node (node align form) role path around = ap (λ l. node_line tree path (tag_of role) (bounds_there (grammar_of tree.root) path) align form ++ l) (of_form form path around)

    of_form : (form : Form) (path around : List ℕ) → flat_map line_at (form_nodes path around form) ≡ form_lines tree path form
    of_form (num leaf) path around = refl
    of_form (octets sizing) path around = refl
    of_form (bits sizing) path around = refl
    of_form (text leaf) path around = refl
    of_form (seq fields home) path around = of_fields fields path (home ++ around) 0
    of_form (list sizing g) path around = of_node g an_element (path ++ 0 ∷ []) around
    of_form (choice cases rule) path around = of_cases cases rule path around 0
    of_form (contained sizing g) path around = of_node g a_content (path ++ 0 ∷ []) around

    of_fields : (fs : Fields) (path around : List ℕ) (k : ℕ) → flat_map line_at (field_nodes path around k fs) ≡ field_lines tree path k fs
    of_fields no_fields path around k = refl
    of_fields (component name g presence default own fs) path around k =
        both (nodes (component_role name presence default own) (path ++ k ∷ []) around g) (field_nodes path around (suc k) fs) _ _ (of_node g (component_role name presence default own) (path ++ k ∷ []) around) (of_fields fs path around (suc k))
    of_fields (inserted name g slot fs) path around k =
        both (nodes (an_inserted name slot) (path ++ k ∷ []) around g) (field_nodes path around (suc k) fs) _ _ (of_node g (an_inserted name slot) (path ++ k ∷ []) around) (of_fields fs path around (suc k))

    of_cases : (cases : Alternatives) (rule : ChoiceRule) (path around : List ℕ) (k : ℕ) → flat_map line_at (alternative_nodes rule path around k cases) ≡ case_lines tree path k cases
    of_cases no_alternatives rule path around k = refl
    of_cases (alternative name g tests more) rule path around k =
        both (nodes (alternative_role name tests rule) (path ++ k ∷ []) around g) (alternative_nodes rule path around (suc k) more) _ _ (of_node g (alternative_role name tests rule) (path ++ k ∷ []) around) (of_cases more rule path around (suc k))

  -- the node at the path of a node is that node
  same_line : (at : Stand) → node_at (grammar_of tree.root) at.path ≡ Some (node at.align at.form) → stand_line tree at ≡ line_at at
  same_line at e = ap (λ o. node_line tree at.path (tag_of at.role) (unwrap_or (option_map span o) (record { least = 0; greatest = 0 })) at.align at.form) (sym e)

  same_lines : (l : List Stand) → ((k : ℕ) (at : Stand) → slice_get l k ≡ Some at → stand_line tree at ≡ line_at at) → flat_map (stand_line tree) l ≡ flat_map line_at l
  same_lines [] h = refl
  same_lines (at ∷ l) h = ap (λ x. x ++ flat_map (stand_line tree) l) (h 0 at refl) ∙ ap (λ x. line_at at ++ x) (same_lines l (λ k here e. h (suc k) here e))

pub layout_is : (tree : Tree) → EachNodeHasItsPath → layout_text tree ≡ node_lines tree plain [] (grammar_of tree.root)
layout_is tree law =
    let root = grammar_of tree.root in
    same_lines tree (nodes_of root) (λ k at e. same_line tree at (law root k at e)) ∙ of_node tree root root_node [] []
