-- In a tree the slots at home in a SEQUENCE have their fields near in it, and are at home in no SEQUENCE inside it.
use Rattle.std.proofs.Common.{◌≡◌, ℕ, suc, ◌≤◌, Bool, true, false, not, List, [], ◌∷◌, ◌++◌, length, Option, Some, None, refl, sym, ap, ◌∙◌, arith, nat_eq}
use Rattle.std.proofs.lemmas.Bool.{false_from_ne_true, or_parts, and_parts, not-true, eqb-true}
use Rattle.std.specs.List.{list_any, list_all, range_with_len}
use Rattle.std.proofs.lemmas.Bool.Decides.{nat_tests}
use Rattle.std.specs.Prelude.{option_map, if◌then◌else◌}
use Rattle.acn_grammar.specs.Asks.{steps_to, form_steps, field_steps, at_slot, or_else}
use Rattle.acn_grammar.specs.Grammar.{Grammar, Form, Fields, Alternatives, node, num, octets, bits, text, seq, list, choice, contained, no_fields, component, inserted, no_alternatives, alternative}
use Rattle.acn_grammar.specs.Tree.{IsTree, holds, same_numbers, slots_of, is_slot, encloses, near, near_node, all_true, stand_rules}
use Rattle.acn_grammar.specs.Walk.{Stand, Role, component_role, an_inserted, alternative_role, an_element, a_content, root_node, nodes, nodes_of, form_nodes, field_nodes, alternative_nodes}
use Rattle.acn_grammar.specs.declared.node.ChoiceRule.{ChoiceRule}
use Rattle.acn_grammar.specs.declared.node.Presence.{Presence}
use Rattle.acn_grammar.proofs.TreeRules.{stand_fine, list_all-append}
use Rattle.acn_packet_laws.proofs.Homes.{truth}
use Rattle.acn_packet_laws.proofs.Placed.{any-append, here_at, home_near, home_is, near_parts, near_if_when, tree_numbered, tree_rules}
use Rattle.acn_grammar.proofs.WholeTests.{either}
use Rattle.acn_grammar.proofs.SlotLists.{same_eq}

-- The slot whose field is at these steps, through SEQUENCEs alone.

abbrev mutual
  pub form_slot : Form → (m : ℕ) → List ℕ → Option ℕ
  form_slot (seq fields home) m q = field_slot fields 0 m q
  form_slot _ m q = None

  -- k is the number of the next field
  pub field_slot : Fields → (k m : ℕ) → List ℕ → Option ℕ
  field_slot no_fields k m q = None
  field_slot (component name g presence default own fs) k m q = if nat_eq m k then node_slot g own q else field_slot fs (suc k) m q
  field_slot (inserted name g slot fs) k m [] = if nat_eq m k then slot else field_slot fs (suc k) m []
  field_slot (inserted name g slot fs) k m (j ∷ q) = if nat_eq m k then None else field_slot fs (suc k) m (j ∷ q)

  pub node_slot : Grammar → Option ℕ → List ℕ → Option ℕ
  node_slot (node align form) own [] = own
  node_slot (node align form) own (j ∷ q) = form_slot form j q

pub differs : (m k : ℕ) → suc k ≤ m → nat_eq m k ≡ false
differs m k h = grind (arith, nat_tests)

-- The steps to a field lead to it.

pub record Leads (fs : Fields) (k s : ℕ) (steps : List ℕ) : Type 0 where
  pub number : ℕ
  pub more : List ℕ
  pub is : steps ≡ number ∷ more
  pub from : k ≤ number
  pub slot : field_slot fs k number more ≡ Some s

record FormLeads (form : Form) (s : ℕ) (steps : List ℕ) : Type 0 where
  number : ℕ
  more : List ℕ
  is : steps ≡ number ∷ more
  slot : form_slot form number more ≡ Some s

pub some_is : {A : Type 0} (x y : A) → Some x ≡ Some y → x ≡ y
some_is x y e = cc

pub if_yes : {A : Type 0} (b : Bool) (x y : A) → b ≡ true → (if b then x else y) ≡ x
if_yes b x y e = rw e refl

pub if_no : {A : Type 0} (b : Bool) (x y : A) → b ≡ false → (if b then x else y) ≡ y
if_no b x y e = rw e refl

own_case : {F : Type 0} (own : Option ℕ) (s k : ℕ) (y : Option (List ℕ)) (steps : List ℕ) → at_slot own s (k ∷ []) y ≡ Some steps → (own ≡ Some s → steps ≡ k ∷ [] → F) → (y ≡ Some steps → F) → F
own_case None s k y steps e f g = g e
own_case {F} (Some t) s k y steps e f g = truth {F = F} (nat_eq t s)
    (λ q. f (ap Some (eqb-true t s q)) (sym (some_is (k ∷ []) steps (sym (if_yes (nat_eq t s) (Some (k ∷ [])) y q) ∙ e))))
    (λ q. g (sym (if_no (nat_eq t s) (Some (k ∷ [])) y q) ∙ e))

behind_component : (name : List ℕ) (g : Grammar) (presence : Presence) (default : Option (List ℕ)) (own : Option ℕ) (fs : Fields) (k s : ℕ) (steps : List ℕ) → Leads fs (suc k) s steps → Leads (component name g presence default own fs) k s steps
behind_component name g presence default own fs k s steps r =
    let above = r.from in
    record { number = r.number; more = r.more; is = r.is; from = omega arith; slot = if_no (nat_eq r.number k) (node_slot g own r.more) (field_slot fs (suc k) r.number r.more) (differs r.number k r.from) ∙ r.slot }

behind_inserted : (name : List ℕ) (g : Grammar) (slot : Option ℕ) (fs : Fields) (k s : ℕ) (steps : List ℕ) → Leads fs (suc k) s steps → Leads (inserted name g slot fs) k s steps
behind_inserted name g slot fs k s steps r = later r.number r.more r.from r.slot r.is
  where
    later : (m : ℕ) (q : List ℕ) → suc k ≤ m → field_slot fs (suc k) m q ≡ Some s → steps ≡ m ∷ q → Leads (inserted name g slot fs) k s steps
    later m [] h t i = record { number = m; more = []; is = i; from = omega arith; slot = if_no (nat_eq m k) slot (field_slot fs (suc k) m []) (differs m k h) ∙ t }
    later m (j ∷ q) h t i = record { number = m; more = j ∷ q; is = i; from = omega arith; slot = if_no (nat_eq m k) None (field_slot fs (suc k) m (j ∷ q)) (differs m k h) ∙ t }

into_component : (name : List ℕ) (align : ℕ) (form : Form) (presence : Presence) (default : Option (List ℕ)) (own : Option ℕ) (fs : Fields) (k s : ℕ) (steps st : List ℕ) → k ∷ st ≡ steps → FormLeads form s st → Leads (component name (node align form) presence default own fs) k s steps
into_component name align form presence default own fs k s steps st e r =
    record { number = k; more = r.number ∷ r.more; is = sym e ∙ ap (λ z. k ∷ z) r.is; from = omega arith; slot = if_yes (nat_eq k k) (form_slot form r.number r.more) (field_slot fs (suc k) k (r.number ∷ r.more)) (same_eq k) ∙ r.slot }

either_steps : {F : Type 0} (k : ℕ) (x y : Option (List ℕ)) (steps : List ℕ) → or_else (option_map (λ st. k ∷ st) x) y ≡ Some steps → ((st : List ℕ) → x ≡ Some st → k ∷ st ≡ steps → F) → (y ≡ Some steps → F) → F
either_steps k None y steps e f g = g e
either_steps k (Some st) y steps e f g = f st refl (some_is (k ∷ st) steps e)

mutual
  steps_lead : (form : Form) (s : ℕ) (steps : List ℕ) → form_steps form s ≡ Some steps → FormLeads form s steps
  steps_lead (seq fields home) s steps e = let r = field_leads fields 0 s steps e in record { number = r.number; more = r.more; is = r.is; slot = r.slot }
  steps_lead (num leaf) s steps e = cc
  steps_lead (octets sizing) s steps e = cc
  steps_lead (bits sizing) s steps e = cc
  steps_lead (text leaf) s steps e = cc
  steps_lead (list sizing g) s steps e = cc
  steps_lead (choice cases rule) s steps e = cc
  steps_lead (contained sizing g) s steps e = cc

  pub field_leads : (fs : Fields) (k s : ℕ) (steps : List ℕ) → field_steps fs k s ≡ Some steps → Leads fs k s steps
  field_leads no_fields k s steps e = cc
  field_leads (component name (node align form) presence default own fs) k s steps e =
      own_case {F = Leads (component name (node align form) presence default own fs) k s steps} own s k (or_else (option_map (λ st. k ∷ st) (form_steps form s)) (field_steps fs (suc k) s)) steps e
      (λ o i. record { number = k; more = []; is = i; from = omega arith; slot = if_yes (nat_eq k k) own (field_slot fs (suc k) k []) (same_eq k) ∙ o })
      (λ q. either_steps {F = Leads (component name (node align form) presence default own fs) k s steps} k (form_steps form s) (field_steps fs (suc k) s) steps q
      (λ st h i. into_component name align form presence default own fs k s steps st i (steps_lead form s st h))
      (λ h. behind_component name (node align form) presence default own fs k s steps (field_leads fs (suc k) s steps h)))
  field_leads (inserted name g slot fs) k s steps e =
      own_case {F = Leads (inserted name g slot fs) k s steps} slot s k (field_steps fs (suc k) s) steps e
      (λ o i. record { number = k; more = []; is = i; from = omega arith; slot = if_yes (nat_eq k k) slot (field_slot fs (suc k) k []) (same_eq k) ∙ o })
      (λ h. behind_inserted name g slot fs k s steps (field_leads fs (suc k) s steps h))

-- What is near has steps.

abbrev Has : Option (List ℕ) → Type 0
Has o = (steps : List ℕ) × (o ≡ Some steps)

at_first : (own : Option ℕ) (s : ℕ) (st : List ℕ) (y : Option (List ℕ)) → is_slot s own ≡ true → Has (at_slot own s st y)
at_first None s st y h = cc
at_first (Some t) s st y h = (st, rw h refl)

at_second : (own : Option ℕ) (s : ℕ) (st : List ℕ) (y : Option (List ℕ)) → Has y → Has (at_slot own s st y)
at_second None s st y h = h
at_second (Some t) s st y h = truth {F = Has (at_slot (Some t) s st y)} (nat_eq t s) (λ e. (st, rw e refl)) (λ e. (h.0, rw e h.1))

or_first : (k : ℕ) (x y : Option (List ℕ)) → Has x → Has (or_else (option_map (λ st. k ∷ st) x) y)
or_first k None y h = let e = h.1 in cc
or_first k (Some st) y h = (k ∷ st, refl)

or_second : (x y : Option (List ℕ)) → Has y → Has (or_else x y)
or_second None y h = h
or_second (Some st) y h = (st, refl)

mutual
  pub near_steps : (fs : Fields) (k s : ℕ) → holds (near fs) s ≡ true → (steps : List ℕ) × (field_steps fs k s ≡ Some steps)
  near_steps no_fields k s h = cc
  near_steps (component name g presence default own fs) k s h =
      near_parts {F = Has (field_steps (component name g presence default own fs) k s)} own presence (near_node g) (near fs) s h
      (λ q. at_first own s (k ∷ []) _ q)
      (λ q. at_second own s (k ∷ []) _ (or_first k (steps_to g s) (field_steps fs (suc k) s) (near_node_steps g s (near_if_when presence (near_node g) s q).1)))
      (λ q. at_second own s (k ∷ []) _ (or_second (option_map (λ st. k ∷ st) (steps_to g s)) (field_steps fs (suc k) s) (near_steps fs (suc k) s q)))
  near_steps (inserted name g None fs) k s h = near_steps fs (suc k) s h
  near_steps (inserted name g (Some t) fs) k s h = either {F = Has (field_steps (inserted name g (Some t) fs) k s)} (nat_eq t s) (holds (near fs) s) h
      (λ q. at_first (Some t) s (k ∷ []) (field_steps fs (suc k) s) q)
      (λ q. at_second (Some t) s (k ∷ []) (field_steps fs (suc k) s) (near_steps fs (suc k) s q))

  near_node_steps : (g : Grammar) (s : ℕ) → holds (near_node g) s ≡ true → (steps : List ℕ) × (steps_to g s ≡ Some steps)
  near_node_steps (node align (seq fields home)) s h = near_steps fields 0 s h
  near_node_steps (node align (num leaf)) s h = cc
  near_node_steps (node align (octets sizing)) s h = cc
  near_node_steps (node align (bits sizing)) s h = cc
  near_node_steps (node align (text leaf)) s h = cc
  near_node_steps (node align (list sizing g)) s h = cc
  near_node_steps (node align (choice cases rule)) s h = cc
  near_node_steps (node align (contained sizing g)) s h = cc

-- Homes.

abbrev mutual
  -- the slot is at home in no SEQUENCE of the node
  pub FormNot : ℕ → Form → Type 0
  FormNot t (seq fields home) = (holds home t ≡ false) × FieldsNot t fields
  FormNot t (list sizing g) = NodeNot t g
  FormNot t (choice cases rule) = CasesNot t cases
  FormNot t (contained sizing g) = NodeNot t g
  FormNot t _ = Unit {0}

  pub NodeNot : ℕ → Grammar → Type 0
  NodeNot t (node align form) = FormNot t form

  pub FieldsNot : ℕ → Fields → Type 0
  FieldsNot t no_fields = Unit {0}
  FieldsNot t (component name g presence default own fs) = NodeNot t g × FieldsNot t fs
  FieldsNot t (inserted name g slot fs) = FieldsNot t fs

  pub CasesNot : ℕ → Alternatives → Type 0
  CasesNot t no_alternatives = Unit {0}
  CasesNot t (alternative name g tests more) = NodeNot t g × CasesNot t more

abbrev mutual
  -- the slots at home in each SEQUENCE of the node
  pub FormHomes : Form → Type 0
  FormHomes (seq fields home) = ((t : ℕ) → holds home t ≡ true → (holds (near fields) t ≡ true) × FieldsNot t fields) × FieldsHomes fields
  FormHomes (list sizing g) = NodeHomes g
  FormHomes (choice cases rule) = CasesHomes cases
  FormHomes (contained sizing g) = NodeHomes g
  FormHomes _ = Unit {0}

  pub NodeHomes : Grammar → Type 0
  NodeHomes (node align form) = FormHomes form

  pub FieldsHomes : Fields → Type 0
  FieldsHomes no_fields = Unit {0}
  FieldsHomes (component name g presence default own fs) = NodeHomes g × FieldsHomes fs
  FieldsHomes (inserted name g slot fs) = FieldsHomes fs

  pub CasesHomes : Alternatives → Type 0
  CasesHomes no_alternatives = Unit {0}
  CasesHomes (alternative name g tests more) = NodeHomes g × CasesHomes more

none_apart : {A : Type 0} (p : A → Bool) (a b : List A) → list_any p (a ++ b) ≡ false → (list_any p a ≡ false) × (list_any p b ≡ false)
none_apart p a b h = or_parts (list_any p a) (list_any p b) (sym (any-append p a b) ∙ h)

module _ (all : List Stand) (numbered : same_numbers (slots_of all) (range_with_len 0 (length (slots_of all))) ≡ true) (rules : list_all (λ at. all_true (stand_rules all at)) all ≡ true) where
  abbrev passes : Stand → Bool
  passes at = all_true (stand_rules all at)

  mutual
    not_form : (t : ℕ) (form : Form) (role : Role) (path around : List ℕ) (align : ℕ) → passes (here_at role path around align form) ≡ true → list_all passes (form_nodes path around form) ≡ true
        → encloses all t (here_at role path around align form) ≡ false → list_any (encloses all t) (form_nodes path around form) ≡ false → FormNot t form
    not_form t (seq fields home) role path around align h i n m =
        let here = here_at role path around align (seq fields home) in
        let fine = stand_fine all here h in (
          false_from_ne_true (holds home t) (λ q. let e = (and_parts (encloses all t here) (not (list_any (encloses all t) (field_nodes path (home ++ around) 0 fields))) (home_is all numbered rules here fields home fine.home t q)).0 in cc),
          not_fields t fields path (home ++ around) 0 i m,
        )
    not_form t (list sizing g) role path around align h i n m = not_node t g an_element (path ++ 0 ∷ []) around i m
    not_form t (choice cases rule) role path around align h i n m = not_cases t cases rule path around 0 i m
    not_form t (contained sizing g) role path around align h i n m = not_node t g a_content (path ++ 0 ∷ []) around i m
    not_form t (num leaf) role path around align h i n m = tt
    not_form t (octets sizing) role path around align h i n m = tt
    not_form t (bits sizing) role path around align h i n m = tt
    not_form t (text leaf) role path around align h i n m = tt

    not_node : (t : ℕ) (g : Grammar) (role : Role) (path around : List ℕ) → list_all passes (nodes role path around g) ≡ true → list_any (encloses all t) (nodes role path around g) ≡ false → NodeNot t g
    not_node t (node align form) role path around h n =
        let here = here_at role path around align form in
        let a = and_parts (passes here) (list_all passes (form_nodes path around form)) h in
        let b = or_parts (encloses all t here) (list_any (encloses all t) (form_nodes path around form)) n in
        not_form t form role path around align a.0 a.1 b.0 b.1

    not_fields : (t : ℕ) (fs : Fields) (path around : List ℕ) (k : ℕ) → list_all passes (field_nodes path around k fs) ≡ true → list_any (encloses all t) (field_nodes path around k fs) ≡ false → FieldsNot t fs
    not_fields t no_fields path around k h n = tt
    not_fields t (component name g presence default own fs) path around k h n =
        let one = nodes (component_role name presence default own) (path ++ k ∷ []) around g in
        let two = field_nodes path around (suc k) fs in
        let a = list_all-append passes one two h in
        let b = none_apart (encloses all t) one two n in
        (not_node t g (component_role name presence default own) (path ++ k ∷ []) around a.0 b.0, not_fields t fs path around (suc k) a.1 b.1)
    not_fields t (inserted name g slot fs) path around k h n =
        let one = nodes (an_inserted name slot) (path ++ k ∷ []) around g in
        let two = field_nodes path around (suc k) fs in
        let a = list_all-append passes one two h in
        let b = none_apart (encloses all t) one two n in
        not_fields t fs path around (suc k) a.1 b.1

    not_cases : (t : ℕ) (cases : Alternatives) (rule : ChoiceRule) (path around : List ℕ) (k : ℕ) → list_all passes (alternative_nodes rule path around k cases) ≡ true → list_any (encloses all t) (alternative_nodes rule path around k cases) ≡ false → CasesNot t cases
    not_cases t no_alternatives rule path around k h n = tt
    not_cases t (alternative name g tests more) rule path around k h n =
        let one = nodes (alternative_role name tests rule) (path ++ k ∷ []) around g in
        let two = alternative_nodes rule path around (suc k) more in
        let a = list_all-append passes one two h in
        let b = none_apart (encloses all t) one two n in
        (not_node t g (alternative_role name tests rule) (path ++ k ∷ []) around a.0 b.0, not_cases t more rule path around (suc k) a.1 b.1)

  mutual
    pub node_homes : (g : Grammar) (role : Role) (path around : List ℕ) → list_all passes (nodes role path around g) ≡ true → NodeHomes g
    node_homes (node align form) role path around h =
        let a = and_parts (passes (here_at role path around align form)) (list_all passes (form_nodes path around form)) h in
        form_homes form role path around align a.0 a.1

    form_homes : (form : Form) (role : Role) (path around : List ℕ) (align : ℕ) → passes (here_at role path around align form) ≡ true → list_all passes (form_nodes path around form) ≡ true → FormHomes form
    form_homes (seq fields home) role path around align h i =
        let here = here_at role path around align (seq fields home) in
        let fine = stand_fine all here h in
        let inner = field_nodes path (home ++ around) 0 fields in (
          (λ t q. (home_near all numbered rules here fields home fine.home t q, not_fields t fields path (home ++ around) 0 i (not-true (list_any (encloses all t) inner) (and_parts (encloses all t here) (not (list_any (encloses all t) inner)) (home_is all numbered rules here fields home fine.home t q)).1))),
          fields_homes fields path (home ++ around) 0 i,
        )
    form_homes (list sizing g) role path around align h i = node_homes g an_element (path ++ 0 ∷ []) around i
    form_homes (choice cases rule) role path around align h i = cases_homes cases rule path around 0 i
    form_homes (contained sizing g) role path around align h i = node_homes g a_content (path ++ 0 ∷ []) around i
    form_homes (num leaf) role path around align h i = tt
    form_homes (octets sizing) role path around align h i = tt
    form_homes (bits sizing) role path around align h i = tt
    form_homes (text leaf) role path around align h i = tt

    fields_homes : (fs : Fields) (path around : List ℕ) (k : ℕ) → list_all passes (field_nodes path around k fs) ≡ true → FieldsHomes fs
    fields_homes no_fields path around k h = tt
    fields_homes (component name g presence default own fs) path around k h =
        let a = list_all-append passes (nodes (component_role name presence default own) (path ++ k ∷ []) around g) (field_nodes path around (suc k) fs) h in
        (node_homes g (component_role name presence default own) (path ++ k ∷ []) around a.0, fields_homes fs path around (suc k) a.1)
    fields_homes (inserted name g slot fs) path around k h =
        let a = list_all-append passes (nodes (an_inserted name slot) (path ++ k ∷ []) around g) (field_nodes path around (suc k) fs) h in
        fields_homes fs path around (suc k) a.1

    cases_homes : (cases : Alternatives) (rule : ChoiceRule) (path around : List ℕ) (k : ℕ) → list_all passes (alternative_nodes rule path around k cases) ≡ true → CasesHomes cases
    cases_homes no_alternatives rule path around k h = tt
    cases_homes (alternative name g tests more) rule path around k h =
        let a = list_all-append passes (nodes (alternative_role name tests rule) (path ++ k ∷ []) around g) (alternative_nodes rule path around (suc k) more) h in
        (node_homes g (alternative_role name tests rule) (path ++ k ∷ []) around a.0, cases_homes more rule path around (suc k) a.1)

pub tree_homes : (root : Grammar) → IsTree root → NodeHomes root
tree_homes root tree = node_homes (nodes_of root) (tree_numbered root tree) (tree_rules root tree) root root_node [] [] (tree_rules root tree)
