-- The facts of a grammar's nodes, by recursion.
use Rattle.std.proofs.Common.{◌≡◌, ℕ, suc, ◌+◌, List, [], ◌∷◌, ◌++◌, length, map, refl, sym, ap, ◌∙◌, length-append, zero-add}
use Rattle.acn_grammar.specs.Check.{home_size}
use Rattle.acn_grammar.specs.Grammar.{Grammar, Form, Fields, Alternatives, node, num, octets, bits, text, seq, list, choice, contained, no_fields, component, inserted, no_alternatives, alternative}
use Rattle.acn_grammar.specs.Walk.{Stand, Role, root_node, component_role, an_inserted, alternative_role, an_element, a_content, nodes, form_nodes, field_nodes, alternative_nodes}
use Rattle.acn_grammar.specs.declared.node.ChoiceRule.{ChoiceRule}
use Rattle.acn_check.specs.Facts.{Facts, seen, tag_of, plain, facts, form_facts, field_facts, alternative_facts}
use Rattle.acn_check.specs.Order.{lines_of}

pub map-append : {A B : Type 0} (f : A → B) (xs ys : List A) → map f (xs ++ ys) ≡ map f xs ++ map f ys
map-append f [] ys = refl
map-append f (x ∷ xs) ys = ap (λ l. f x ∷ l) (map-append f xs ys)

pub length-map : {A B : Type 0} (f : A → B) (xs : List A) → length (map f xs) ≡ length xs
length-map f [] = refl
length-map f (x ∷ xs) = ap suc (length-map f xs)

both_seen : (a b : List Stand) (x y : List Facts) → map seen a ≡ x → map seen b ≡ y → map seen (a ++ b) ≡ x ++ y
both_seen a b x y e f = map-append seen a b ∙ (ap (λ l. l ++ map seen b) e ∙ ap (λ l. x ++ l) f)

mutual
  node_seen : (g : Grammar) (role : Role) (path around : List ℕ) → map seen (nodes role path around g) ≡ facts (tag_of role) path (length around) g
  node_seen (node align form) role path around = ap (λ l. record { path = path; tag = tag_of role; form = form; at_home = home_size form + length around } ∷ l) (form_seen form path around)

  form_seen : (form : Form) (path around : List ℕ) → map seen (form_nodes path around form) ≡ form_facts path (home_size form + length around) form
  form_seen (num leaf) path around = refl
  form_seen (octets sizing) path around = refl
  form_seen (bits sizing) path around = refl
  form_seen (text leaf) path around = refl
  form_seen (seq fields home) path around = fields_seen fields path (home ++ around) 0 ∙ ap (λ n. field_facts path n 0 fields) (length-append home around)
  form_seen (list sizing g) path around = node_seen g an_element (path ++ 0 ∷ []) around ∙ ap (λ n. facts plain (path ++ 0 ∷ []) n g) (sym (zero-add (length around)))
  form_seen (choice cases rule) path around = cases_seen cases rule path around 0 ∙ ap (λ n. alternative_facts path n 0 cases) (sym (zero-add (length around)))
  form_seen (contained sizing g) path around = node_seen g a_content (path ++ 0 ∷ []) around ∙ ap (λ n. facts plain (path ++ 0 ∷ []) n g) (sym (zero-add (length around)))

  fields_seen : (fs : Fields) (path around : List ℕ) (k : ℕ) → map seen (field_nodes path around k fs) ≡ field_facts path (length around) k fs
  fields_seen no_fields path around k = refl
  fields_seen (component name g presence default own fs) path around k =
      both_seen (nodes (component_role name presence default own) (path ++ k ∷ []) around g) (field_nodes path around (suc k) fs) (facts (tag_of (component_role name presence default own)) (path ++ k ∷ []) (length around) g) (field_facts path (length around) (suc k) fs)
      (node_seen g (component_role name presence default own) (path ++ k ∷ []) around) (fields_seen fs path around (suc k))
  fields_seen (inserted name g slot fs) path around k =
      both_seen (nodes (an_inserted name slot) (path ++ k ∷ []) around g) (field_nodes path around (suc k) fs) (facts (tag_of (an_inserted name slot)) (path ++ k ∷ []) (length around) g) (field_facts path (length around) (suc k) fs)
      (node_seen g (an_inserted name slot) (path ++ k ∷ []) around) (fields_seen fs path around (suc k))

  cases_seen : (cases : Alternatives) (rule : ChoiceRule) (path around : List ℕ) (k : ℕ) → map seen (alternative_nodes rule path around k cases) ≡ alternative_facts path (length around) k cases
  cases_seen no_alternatives rule path around k = refl
  cases_seen (alternative name g tests more) rule path around k =
      both_seen (nodes (alternative_role name tests rule) (path ++ k ∷ []) around g) (alternative_nodes rule path around (suc k) more) (facts (tag_of (alternative_role name tests rule)) (path ++ k ∷ []) (length around) g) (alternative_facts path (length around) (suc k) more)
      (node_seen g (alternative_role name tests rule) (path ++ k ∷ []) around) (cases_seen more rule path around (suc k))

pub lines_are : (root : Grammar) → lines_of root ≡ facts plain [] 0 root
lines_are root = node_seen root root_node [] []
