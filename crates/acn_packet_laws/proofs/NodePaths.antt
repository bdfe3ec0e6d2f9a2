-- Nodes by their numbers and by their paths are the same.
use Rattle.std.proofs.Common.{◌≡◌, ℕ, zero, suc, ◌+◌, List, [], ◌∷◌, ◌++◌, length, Some, refl, sym, ap, ◌∙◌, arith, subst, append_assoc, append-nil}
use Rattle.std.specs.Prelude.{slice_get}
use Rattle.acn_grammar.specs.Grammar.{Grammar, Form, Fields, Alternatives, node, num, octets, bits, text, seq, list, choice, contained, no_fields, component, inserted, no_alternatives, alternative}
use Rattle.acn_grammar.specs.Paths.{node_at, node_on, child, part_node, field_at, alternative_at, if_some}
use Rattle.acn_grammar.specs.Walk.{Stand, Role, component_role, an_inserted, alternative_role, an_element, a_content, root_node, nodes, form_nodes, field_nodes, alternative_nodes}
use Rattle.acn_grammar.specs.declared.node.ChoiceRule.{ChoiceRule}
use Rattle.acn_grammar.specs.declared.node.Test.{Test}
use Rattle.acn_packet_laws.specs.Laws.{EachNodeHasItsPath, EachPathHasItsNumber, ValuesAreOfNodes}
use Rattle.acn_packet_laws.proofs.NodeLaws.{in_either, get_left}
use Rattle.acn_packet_laws.proofs.OnPaths.{On, FieldsOn, all_fields, first_component, behind_component, first_inserted, behind_inserted, one_further, same_node, after_step}
use Rattle.acn_packet_laws.proofs.OneFault.{some_same}
use Rattle.acn_packet_laws.proofs.Placed.{here_at}

-- By its number each node has its path.
module _ (root : Grammar) where
  abbrev HasPath : Stand → Type 0
  HasPath at = node_at root at.path ≡ Some (node at.align at.form)

  -- the alternatives that are left, the next of which is alternative k
  abbrev CasesOn : List ℕ → Alternatives → ℕ → Type 0
  CasesOn path cases k = (m j : ℕ) (h : Grammar) → m ≡ k + j → alternative_at cases j ≡ Some h → On child root (path ++ m ∷ []) h

  all_cases : (path : List ℕ) (align : ℕ) (cases : Alternatives) (rule : ChoiceRule) → On child root path (node align (choice cases rule)) → CasesOn path cases 0
  all_cases path align cases rule e m j h is found = one_further child path m root (node align (choice cases rule)) h e (ap (alternative_at cases) (number m j is) ∙ found)
    where
      number : (m j : ℕ) → m ≡ 0 + j → m ≡ j
      number m j is = omega arith

  first_case : (path : List ℕ) (name : List ℕ) (g : Grammar) (tests : List Test) (more : Alternatives) (k : ℕ) → CasesOn path (alternative name g tests more) k → On child root (path ++ k ∷ []) g
  first_case path name g tests more k on = on k zero g (omega arith) refl

  behind_case : (path : List ℕ) (name : List ℕ) (g : Grammar) (tests : List Test) (more : Alternatives) (k : ℕ) → CasesOn path (alternative name g tests more) k → CasesOn path more (suc k)
  behind_case path name g tests more k on m j h is found = on m (suc j) h (omega arith) found

  mutual
    node_path : (g : Grammar) (role : Role) (path around : List ℕ) → On child root path g → (n : ℕ) (at : Stand) → slice_get (nodes role path around g) n ≡ Some at → HasPath at
    node_path (node align form) role path around on zero at e = subst HasPath (some_same (here_at role path around align form) at e) on
    node_path (node align form) role path around on (suc n) at e = form_path form align path around on n at e

    form_path : (form : Form) (align : ℕ) (path around : List ℕ) → On child root path (node align form) → (n : ℕ) (at : Stand) → slice_get (form_nodes path around form) n ≡ Some at → HasPath at
    form_path (num leaf) align path around on n at e = cc
    form_path (octets sizing) align path around on n at e = cc
    form_path (bits sizing) align path around on n at e = cc
    form_path (text leaf) align path around on n at e = cc
    form_path (seq fields home) align path around on n at e = fields_path fields path (home ++ around) 0 (all_fields child root path align fields home (λ m. refl) on) n at e
    form_path (list sizing g) align path around on n at e = node_path g an_element (path ++ 0 ∷ []) around (one_further child path 0 root (node align (list sizing g)) g on refl) n at e
    form_path (contained sizing g) align path around on n at e = node_path g a_content (path ++ 0 ∷ []) around (one_further child path 0 root (node align (contained sizing g)) g on refl) n at e
    form_path (choice cases rule) align path around on n at e = cases_path cases rule path around 0 (all_cases path align cases rule on) n at e

    fields_path : (fs : Fields) (path around : List ℕ) (k : ℕ) → FieldsOn child root path fs k → (n : ℕ) (at : Stand) → slice_get (field_nodes path around k fs) n ≡ Some at → HasPath at
    fields_path no_fields path around k on n at e = cc
    fields_path (component name g presence default own fs) path around k on n at e =
        in_either {F = HasPath at} (nodes (component_role name presence default own) (path ++ k ∷ []) around g) (field_nodes path around (suc k) fs) n at e
        (λ q. node_path g (component_role name presence default own) (path ++ k ∷ []) around (first_component child root path name g presence default own fs k on) n at q)
        (λ m l q. fields_path fs path around (suc k) (behind_component child root path name g presence default own fs k on) m at q)
    fields_path (inserted name g slot fs) path around k on n at e =
        in_either {F = HasPath at} (nodes (an_inserted name slot) (path ++ k ∷ []) around g) (field_nodes path around (suc k) fs) n at e
        (λ q. node_path g (an_inserted name slot) (path ++ k ∷ []) around (first_inserted child root path name g slot fs k on) n at q)
        (λ m l q. fields_path fs path around (suc k) (behind_inserted child root path name g slot fs k on) m at q)

    cases_path : (cases : Alternatives) (rule : ChoiceRule) (path around : List ℕ) (k : ℕ) → CasesOn path cases k → (n : ℕ) (at : Stand) → slice_get (alternative_nodes rule path around k cases) n ≡ Some at → HasPath at
    cases_path no_alternatives rule path around k on n at e = cc
    cases_path (alternative name g tests more) rule path around k on n at e =
        in_either {F = HasPath at} (nodes (alternative_role name tests rule) (path ++ k ∷ []) around g) (alternative_nodes rule path around (suc k) more) n at e
        (λ q. node_path g (alternative_role name tests rule) (path ++ k ∷ []) around (first_case path name g tests more k on) n at q)
        (λ m l q. cases_path more rule path around (suc k) (behind_case path name g tests more k on) m at q)

pub each_node_has_its_path : EachNodeHasItsPath
each_node_has_its_path root k here is = node_path root root root_node [] [] refl k here is

-- A path leads to one of the nodes.

get_right : {A : Type 0} (a b : List A) (n : ℕ) (x : A) → slice_get b n ≡ Some x → slice_get (a ++ b) (length a + n) ≡ Some x
get_right [] b n x e = ap (slice_get b) (none n) ∙ e
  where
    none : (n : ℕ) → 0 + n ≡ n
    none n = omega arith
get_right (y ∷ a) b n x e = ap (slice_get (y ∷ (a ++ b))) (more (length a) n) ∙ get_right a b n x e
  where
    more : (m n : ℕ) → suc m + n ≡ suc (m + n)
    more m n = omega arith

-- one of these nodes, at this path, is the node
record IsAmong (all : List Stand) (path : List ℕ) (g : Grammar) : Type 0 where
  pub number : ℕ
  pub here : Stand
  pub is_at : slice_get all number ≡ Some here
  pub path_is : here.path ≡ path
  pub node_is : node here.align here.form ≡ g

among_left : (a b : List Stand) (path : List ℕ) (g : Grammar) → IsAmong a path g → IsAmong (a ++ b) path g
among_left a b path g t = record { number = t.number; here = t.here; is_at = get_left a b t.number t.here t.is_at; path_is = t.path_is; node_is = t.node_is }

among_right : (a b : List Stand) (path : List ℕ) (g : Grammar) → IsAmong b path g → IsAmong (a ++ b) path g
among_right a b path g t = record { number = length a + t.number; here = t.here; is_at = get_right a b t.number t.here t.is_at; path_is = t.path_is; node_is = t.node_is }

among_inside : (x : Stand) (all : List Stand) (path : List ℕ) (g : Grammar) → IsAmong all path g → IsAmong (x ∷ all) path g
among_inside x all path g t = record { number = suc t.number; here = t.here; is_at = t.is_at; path_is = t.path_is; node_is = t.node_is }

-- the path of a step and what is behind it
stepped : (all : List Stand) (path : List ℕ) (k : ℕ) (q : List ℕ) (g : Grammar) → IsAmong all ((path ++ k ∷ []) ++ q) g → IsAmong all (path ++ k ∷ q) g
stepped all path k q g t = record { number = t.number; here = t.here; is_at = t.is_at; path_is = t.path_is ∙ append_assoc path (k ∷ []) q; node_is = t.node_is }

mutual
  among_node : (g : Grammar) (role : Role) (path around : List ℕ) (q : List ℕ) (h : Grammar) → node_at g q ≡ Some h → IsAmong (nodes role path around g) (path ++ q) h
  among_node (node align form) role path around [] h e = record { number = zero; here = here_at role path around align form; is_at = refl; path_is = sym (append-nil path); node_is = same_node (node align form) h e }
  among_node (node align form) role path around (k ∷ q) h e = among_inside (here_at role path around align form) (form_nodes path around form) (path ++ k ∷ q) h (among_form form align path around k q h e)

  among_form : (form : Form) (align : ℕ) (path around : List ℕ) (k : ℕ) (q : List ℕ) (h : Grammar) → node_at (node align form) (k ∷ q) ≡ Some h → IsAmong (form_nodes path around form) (path ++ k ∷ q) h
  among_form (num leaf) align path around k q h e = cc
  among_form (octets sizing) align path around k q h e = cc
  among_form (bits sizing) align path around k q h e = cc
  among_form (text leaf) align path around k q h e = cc
  among_form (seq fields home) align path around k q h e =
      after_step {F = IsAmong (form_nodes path around (seq fields home)) (path ++ k ∷ q) h} (field_at fields k) (λ inside. node_at inside q) h e
      (λ inside is more. among_fields fields path (home ++ around) 0 k k q inside h (omega arith) is more)
  among_form (list sizing g) align path around zero q h e = stepped (nodes an_element (path ++ 0 ∷ []) around g) path 0 q h (among_node g an_element (path ++ 0 ∷ []) around q h e)
  among_form (list sizing g) align path around (suc k) q h e = cc
  among_form (contained sizing g) align path around zero q h e = stepped (nodes a_content (path ++ 0 ∷ []) around g) path 0 q h (among_node g a_content (path ++ 0 ∷ []) around q h e)
  among_form (contained sizing g) align path around (suc k) q h e = cc
  among_form (choice cases rule) align path around k q h e =
      after_step {F = IsAmong (form_nodes path around (choice cases rule)) (path ++ k ∷ q) h} (alternative_at cases k) (λ inside. node_at inside q) h e
      (λ inside is more. among_cases cases rule path around 0 k k q inside h (omega arith) is more)

  -- the field of number m, of which j are left to pass over
  among_fields : (fs : Fields) (path around : List ℕ) (k m j : ℕ) (q : List ℕ) (g h : Grammar) → m ≡ k + j → field_at fs j ≡ Some g → node_at g q ≡ Some h → IsAmong (field_nodes path around k fs) (path ++ m ∷ q) h
  among_fields no_fields path around k m j q g h n is e = cc
  among_fields (component name one presence default own fs) path around k m zero q g h n is e =
      let a = nodes (component_role name presence default own) (path ++ k ∷ []) around one in
      let b = field_nodes path around (suc k) fs in
      let inner = among_node one (component_role name presence default own) (path ++ k ∷ []) around q h (ap (λ x. node_at x q) (same_node one g is) ∙ e) in
      let number : k ≡ m = omega arith in
      among_left a b (path ++ m ∷ q) h (subst (λ (i : ℕ). IsAmong a (path ++ i ∷ q) h) number (stepped a path k q h inner))
  among_fields (component name one presence default own fs) path around k m (suc j) q g h n is e =
      among_right (nodes (component_role name presence default own) (path ++ k ∷ []) around one) (field_nodes path around (suc k) fs) (path ++ m ∷ q) h (among_fields fs path around (suc k) m j q g h (omega arith) is e)
  among_fields (inserted name one slot fs) path around k m zero q g h n is e =
      let a = nodes (an_inserted name slot) (path ++ k ∷ []) around one in
      let b = field_nodes path around (suc k) fs in
      let inner = among_node one (an_inserted name slot) (path ++ k ∷ []) around q h (ap (λ x. node_at x q) (same_node one g is) ∙ e) in
      let number : k ≡ m = omega arith in
      among_left a b (path ++ m ∷ q) h (subst (λ (i : ℕ). IsAmong a (path ++ i ∷ q) h) number (stepped a path k q h inner))
  among_fields (inserted name one slot fs) path around k m (suc j) q g h n is e =
      among_right (nodes (an_inserted name slot) (path ++ k ∷ []) around one) (field_nodes path around (suc k) fs) (path ++ m ∷ q) h (among_fields fs path around (suc k) m j q g h (omega arith) is e)

  among_cases : (cases : Alternatives) (rule : ChoiceRule) (path around : List ℕ) (k m j : ℕ) (q : List ℕ) (g h : Grammar) → m ≡ k + j → alternative_at cases j ≡ Some g → node_at g q ≡ Some h → IsAmong (alternative_nodes rule path around k cases) (path ++ m ∷ q) h
  among_cases no_alternatives rule path around k m j q g h n is e = cc
  among_cases (alternative name one tests more) rule path around k m zero q g h n is e =
      let a = nodes (alternative_role name tests rule) (path ++ k ∷ []) around one in
      let b = alternative_nodes rule path around (suc k) more in
      let inner = among_node one (alternative_role name tests rule) (path ++ k ∷ []) around q h (ap (λ x. node_at x q) (same_node one g is) ∙ e) in
      let number : k ≡ m = omega arith in
      among_left a b (path ++ m ∷ q) h (subst (λ (i : ℕ). IsAmong a (path ++ i ∷ q) h) number (stepped a path k q h inner))
  among_cases (alternative name one tests more) rule path around k m (suc j) q g h n is e =
      among_right (nodes (alternative_role name tests rule) (path ++ k ∷ []) around one) (alternative_nodes rule path around (suc k) more) (path ++ m ∷ q) h (among_cases more rule path around (suc k) m j q g h (omega arith) is e)

pub each_path_has_its_number : EachPathHasItsNumber
each_path_has_its_number root path g e = let t = among_node root root_node [] [] path g e in record { number = t.number; here = t.here; stands = t.is_at; path_is = t.path_is; node_is = t.node_is }

-- What a path of a value leads to, a path of the grammar leads to.

child_too : (g h : Grammar) (k : ℕ) → part_node g k ≡ Some h → (m : ℕ) × (child g m ≡ Some h)
child_too (node align (num leaf)) h k e = cc
child_too (node align (octets sizing)) h k e = cc
child_too (node align (bits sizing)) h k e = cc
child_too (node align (text leaf)) h k e = cc
child_too (node align (seq fields home)) h k e = (k, e)
child_too (node align (list sizing g)) h k e = (zero, e)
child_too (node align (choice cases rule)) h k e = (k, e)
child_too (node align (contained sizing g)) h k e = (k, e)

path_too : (path : List ℕ) (root g : Grammar) → node_on root path ≡ Some g → (q : List ℕ) × (node_at root q ≡ Some g)
path_too [] root g e = ([], e)
path_too (k ∷ path) root g e =
    after_step {F = (q : List ℕ) × (node_at root q ≡ Some g)} (part_node root k) (λ inside. node_on inside path) g e
    (λ inside is more. let c = child_too root inside k is in let t = path_too path inside g more in (c.0 ∷ t.0, ap (λ o. if_some o (λ x. node_at x t.0)) c.1 ∙ t.1))

pub values_are_of_nodes : ValuesAreOfNodes
values_are_of_nodes root path g e = path_too path root g e
