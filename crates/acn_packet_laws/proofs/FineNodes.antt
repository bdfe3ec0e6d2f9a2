-- Each node of a tree keeps its rules, by its number.
use Rattle.std.proofs.Common.{◌≡◌, ℕ, zero, suc, List, [], ◌∷◌, ◌++◌, Some, subst}
use Rattle.std.specs.Prelude.{slice_get}
use Rattle.acn_grammar.specs.Check.{NodeAt}
use Rattle.acn_grammar.specs.Grammar.{Grammar, Form, Fields, Alternatives, node, num, octets, bits, text, seq, list, choice, contained, no_fields, component, inserted, no_alternatives, alternative}
use Rattle.acn_grammar.specs.Tree.{IsTree}
use Rattle.acn_grammar.specs.Walk.{Stand, Role, component_role, an_inserted, alternative_role, an_element, a_content, root_node, nodes, form_nodes, field_nodes, alternative_nodes}
use Rattle.acn_grammar.specs.declared.node.ChoiceRule.{ChoiceRule}
use Rattle.acn_grammar.proofs.SpanLaw.{Fine, FormFine, FieldsFine, AlternativesFine}
use Rattle.acn_grammar.proofs.TreeRules.{tree_fine}
use Rattle.acn_packet_laws.proofs.NodeLaws.{in_either}
use Rattle.acn_packet_laws.proofs.OneFault.{some_same}
use Rattle.acn_packet_laws.proofs.Placed.{here_at}
use Rattle.acn_packet_laws.proofs.Tuples.{last_two}

abbrev FineAt : Stand → Type 0
FineAt at = Fine (node at.align at.form)

mutual
  fine_node : (g : Grammar) (role : Role) (path around : List ℕ) → Fine g → (n : ℕ) (at : Stand) → slice_get (nodes role path around g) n ≡ Some at → FineAt at
  fine_node (node align form) role path around f zero at e = subst FineAt (some_same (here_at role path around align form) at e) f
  fine_node (node align form) role path around f (suc n) at e = fine_form form path around (last_two f) n at e

  fine_form : (form : Form) (path around : List ℕ) → FormFine form → (n : ℕ) (at : Stand) → slice_get (form_nodes path around form) n ≡ Some at → FineAt at
  fine_form (num leaf) path around f n at e = cc
  fine_form (octets sizing) path around f n at e = cc
  fine_form (bits sizing) path around f n at e = cc
  fine_form (text leaf) path around f n at e = cc
  fine_form (seq fields home) path around f n at e = fine_fields fields path (home ++ around) 0 f n at e
  fine_form (list sizing g) path around f n at e = fine_node g an_element (path ++ 0 ∷ []) around (last_two f) n at e
  fine_form (contained sizing g) path around f n at e = fine_node g a_content (path ++ 0 ∷ []) around (last_two f) n at e
  fine_form (choice cases rule) path around f n at e = fine_cases cases rule path around 0 f n at e

  fine_fields : (fs : Fields) (path around : List ℕ) (k : ℕ) → FieldsFine fs → (n : ℕ) (at : Stand) → slice_get (field_nodes path around k fs) n ≡ Some at → FineAt at
  fine_fields no_fields path around k f n at e = cc
  fine_fields (component name g presence default own fs) path around k f n at e =
      in_either {F = FineAt at} (nodes (component_role name presence default own) (path ++ k ∷ []) around g) (field_nodes path around (suc k) fs) n at e
      (λ q. fine_node g (component_role name presence default own) (path ++ k ∷ []) around f.0 n at q) (λ m l q. fine_fields fs path around (suc k) f.1 m at q)
  fine_fields (inserted name g slot fs) path around k f n at e =
      in_either {F = FineAt at} (nodes (an_inserted name slot) (path ++ k ∷ []) around g) (field_nodes path around (suc k) fs) n at e
      (λ q. fine_node g (an_inserted name slot) (path ++ k ∷ []) around f.0 n at q) (λ m l q. fine_fields fs path around (suc k) f.1 m at q)

  fine_cases : (cases : Alternatives) (rule : ChoiceRule) (path around : List ℕ) (k : ℕ) → AlternativesFine cases → (n : ℕ) (at : Stand) → slice_get (alternative_nodes rule path around k cases) n ≡ Some at → FineAt at
  fine_cases no_alternatives rule path around k f n at e = cc
  fine_cases (alternative name g tests more) rule path around k f n at e =
      in_either {F = FineAt at} (nodes (alternative_role name tests rule) (path ++ k ∷ []) around g) (alternative_nodes rule path around (suc k) more) n at e
      (λ q. fine_node g (alternative_role name tests rule) (path ++ k ∷ []) around f.0 n at q) (λ m l q. fine_cases more rule path around (suc k) f.1 m at q)

pub fine_at : (root : Grammar) (k : ℕ) (here : Stand) → IsTree root → NodeAt root k here → Fine (node here.align here.form)
fine_at root k here tree is = fine_node root root_node [] [] (tree_fine root tree) k here is
