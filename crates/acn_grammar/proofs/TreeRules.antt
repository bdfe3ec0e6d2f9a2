-- What the test of a tree says of each node inside it.
use Rattle.std.proofs.Common.{◌≡◌, ℕ, zero, suc, ◌<◌, Bool, true, List, [], ◌∷◌, ◌++◌, length, refl, arith, nat_le, ◌&&◌}
use Rattle.std.specs.List.{list_all, range_with_len}
use Rattle.acn_grammar.specs.Grammar.{Grammar, Form, Fields, Alternatives, node, num, octets, bits, text, seq, list, choice, contained, no_fields, component, inserted, no_alternatives, alternative}
use Rattle.acn_grammar.specs.Tree.{IsTree, is_align, form_fine, role_fine, own_used, names_open, home_fine, stand_rules, all_true, same_numbers, slots_of}
use Rattle.acn_grammar.specs.Walk.{Stand, Role, component_role, an_inserted, alternative_role, an_element, a_content, root_node, nodes, form_nodes, field_nodes, alternative_nodes, nodes_of}
use Rattle.acn_grammar.specs.declared.node.ChoiceRule.{ChoiceRule}
use Rattle.acn_grammar.proofs.SpanLaw.{Fine, FormFine, FieldsFine, AlternativesFine}
use Rattle.std.proofs.lemmas.Bool.{and_parts}

-- The rules of one node by their names.
pub record StandFine (all : List Stand) (at : Stand) : Type 0 where
  pub depth : nat_le (length at.path) 64 ≡ true
  pub align : is_align at.align ≡ true
  pub form : form_fine at.form ≡ true
  pub role : role_fine at.role at.form ≡ true
  pub own : own_used all at.role ≡ true
  pub uses : names_open at ≡ true
  pub home : home_fine all at at.form ≡ true

seven : (a b c d e f g : Bool) → list_all (λ x. x) (a ∷ b ∷ c ∷ d ∷ e ∷ f ∷ g ∷ []) ≡ true → (a ≡ true) × (b ≡ true) × (c ≡ true) × (d ≡ true) × (e ≡ true) × (f ≡ true) × (g ≡ true)
seven a b c d e f g h =
    let p = and_parts a (list_all (λ x. x) (b ∷ c ∷ d ∷ e ∷ f ∷ g ∷ [])) h in
    let q = and_parts b (list_all (λ x. x) (c ∷ d ∷ e ∷ f ∷ g ∷ [])) p.1 in
    let r = and_parts c (list_all (λ x. x) (d ∷ e ∷ f ∷ g ∷ [])) q.1 in
    let s = and_parts d (list_all (λ x. x) (e ∷ f ∷ g ∷ [])) r.1 in
    let t = and_parts e (list_all (λ x. x) (f ∷ g ∷ [])) s.1 in
    let u = and_parts f (list_all (λ x. x) (g ∷ [])) t.1 in
    let v = and_parts g (list_all (λ x. x) []) u.1 in
    (p.0, q.0, r.0, s.0, t.0, u.0, v.0)

pub stand_fine : (all : List Stand) (at : Stand) → all_true (stand_rules all at) ≡ true → StandFine all at
stand_fine all at h =
    let r = seven (nat_le (length at.path) 64) (is_align at.align) (form_fine at.form) (role_fine at.role at.form) (own_used all at.role) (names_open at) (home_fine all at at.form) h in
    record { depth = r.0; align = r.1; form = r.2; role = r.3; own = r.4; uses = r.5; home = r.6 }

pub list_all-append : {A : Type 0} (p : A → Bool) (xs ys : List A) → list_all p (xs ++ ys) ≡ true → (list_all p xs ≡ true) × (list_all p ys ≡ true)
list_all-append p [] ys h = (refl, h)
list_all-append p (x ∷ xs) ys h =
    let a = and_parts (p x) (list_all p (xs ++ ys)) h in
    let b = list_all-append p xs ys a.1 in
    (rw (a.0, b.0), b.1)

some_align : (n : ℕ) → is_align n ≡ true → 0 < n
some_align zero h = cc
some_align (suc n) h = omega arith

module _ (all : List Stand) where
  abbrev passes : Stand → Bool
  passes at = all_true (stand_rules all at)

  mutual
    fine_node : (g : Grammar) (role : Role) (path around : List ℕ) → list_all passes (nodes role path around g) ≡ true → Fine g
    fine_node (node align form) role path around h =
        let here : Stand = record { path = path; around = around; role = role; align = align; form = form } in
        let p = and_parts (passes here) (list_all passes (form_nodes path around form)) h in
        let s = stand_fine all here p.0 in
        (some_align align s.align, fine_form form path around s.form p.1)

    fine_form : (form : Form) (path around : List ℕ) → form_fine form ≡ true → list_all passes (form_nodes path around form) ≡ true → FormFine form
    fine_form (num leaf) path around f h = f
    fine_form (octets sizing) path around f h = f
    fine_form (bits sizing) path around f h = f
    fine_form (text leaf) path around f h = f
    fine_form (seq fields home) path around f h = fine_fields fields path (home ++ around) 0 h
    fine_form (list sizing g) path around f h = (f, fine_node g an_element (path ++ 0 ∷ []) around h)
    fine_form (choice cases rule) path around f h = fine_alternatives cases rule path around 0 h
    fine_form (contained sizing g) path around f h = (f, fine_node g a_content (path ++ 0 ∷ []) around h)

    fine_fields : (fs : Fields) (path around : List ℕ) (k : ℕ) → list_all passes (field_nodes path around k fs) ≡ true → FieldsFine fs
    fine_fields no_fields path around k h = tt
    fine_fields (component name g presence default own fs) path around k h =
        let p = list_all-append passes (nodes (component_role name presence default own) (path ++ k ∷ []) around g) (field_nodes path around (suc k) fs) h in
        (fine_node g (component_role name presence default own) (path ++ k ∷ []) around p.0, fine_fields fs path around (suc k) p.1)
    fine_fields (inserted name g slot fs) path around k h =
        let p = list_all-append passes (nodes (an_inserted name slot) (path ++ k ∷ []) around g) (field_nodes path around (suc k) fs) h in
        (fine_node g (an_inserted name slot) (path ++ k ∷ []) around p.0, fine_fields fs path around (suc k) p.1)

    fine_alternatives : (as' : Alternatives) (rule : ChoiceRule) (path around : List ℕ) (k : ℕ) → list_all passes (alternative_nodes rule path around k as') ≡ true → AlternativesFine as'
    fine_alternatives no_alternatives rule path around k h = tt
    fine_alternatives (alternative name g tests more) rule path around k h =
        let p = list_all-append passes (nodes (alternative_role name tests rule) (path ++ k ∷ []) around g) (alternative_nodes rule path around (suc k) more) h in
        (fine_node g (alternative_role name tests rule) (path ++ k ∷ []) around p.0, fine_alternatives more rule path around (suc k) p.1)

-- the test of a tree gives the rules of each node
pub tree_fine : (root : Grammar) → IsTree root → Fine root
tree_fine root h =
    let all = nodes_of root in
    let a = and_parts (nat_le (length all) 65536) (same_numbers (slots_of all) (range_with_len 0 (length (slots_of all))) && list_all (λ at. all_true (stand_rules all at)) all) h in
    let b = and_parts (same_numbers (slots_of all) (range_with_len 0 (length (slots_of all)))) (list_all (λ at. all_true (stand_rules all at)) all) a.1 in
    fine_node all root root_node [] [] b.1
