-- The table of inserted fields against the slots of a well-formed tree.
use Rattle.std.proofs.Common.{◌≡◌, ◌⊎◌, inl, inr, ℕ, zero, suc, ◌+◌, Bool, true, false, List, [], ◌∷◌, ◌++◌, length, map, Option, Some, None, refl, sym, ap, ◌∙◌, subst, arith, nat_eq}
use Rattle.std.specs.Prelude.{option_map, slice_get, if◌then◌else◌}
use Rattle.std.specs.List.{list_all, range_with_len, cons_option}
use Rattle.std.proofs.lemmas.Bool.Decides.{nat_tests}
use Rattle.acn_grammar.specs.Asks.{same_name}
use Rattle.acn_grammar.specs.Check.{NodeAt}
use Rattle.acn_grammar.specs.Grammar.{Grammar, Form, Fields, Alternatives, node, num, octets, bits, text, seq, list, choice, contained, no_fields, component, inserted, no_alternatives, alternative}
use Rattle.acn_grammar.specs.Slots.{slot_leaf, form_leaf, fields_leaf, alternatives_leaf, number_leaf, first_of_two, is_slot as if_slot}
use Rattle.acn_grammar.specs.Tree.{IsTree, is_slot, role_fine, slots_of, stand_rules, all_true}
use Rattle.acn_grammar.specs.Walk.{Stand, Role, component_role, an_inserted, alternative_role, an_element, a_content, root_node, nodes, form_nodes, field_nodes, alternative_nodes, nodes_of, slot_here}
use Rattle.acn_grammar.specs.declared.node.ChoiceRule.{ChoiceRule}
use Rattle.acn_grammar.specs.declared.node.NumLeaf.{NumLeaf}
use Rattle.acn_grammar.specs.declared.node.Presence.{Presence}
use Rattle.acn_packet_laws.proofs.Placed.{field_number, is_number, tree_numbered, tree_rules}
use Rattle.acn_grammar.proofs.TreeRules.{stand_fine}
use Rattle.acn_check.specs.Facts.{seen}
use Rattle.acn_check.specs.First.{Det, leaf_in, dets}
use Rattle.acn_check.specs.Order.{lines_of}
use Rattle.std.proofs.lemmas.Bool.{and_parts, eqb-true}
use Rattle.acn_grammar.proofs.SlotLists.{same_eq}
use Rattle.acn_check.proofs.TreeFits.{Each, each_left, each_right}

-- What stands at the head of a list of nodes.

abbrev Fine : Stand → Type 0
Fine at = role_fine at.role at.form ≡ true

record Numbered (at : Stand) : Type 0 where
  slot : ℕ
  leaf : NumLeaf
  slot_is : slot_here at.role ≡ Some slot
  form_is : at.form ≡ num leaf

number_form : (form : Form) → is_number form ≡ true → (leaf : NumLeaf) × (form ≡ num leaf)
number_form (num leaf) h = (leaf, refl)
number_form (octets sizing) h = cc
number_form (bits sizing) h = cc
number_form (text leaf) h = cc
number_form (seq _ home) h = cc
number_form (list sizing g) h = cc
number_form (choice cases rule) h = cc
number_form (contained sizing g) h = cc

head : (at : Stand) → Fine at → (slot_here at.role ≡ None) ⊎ Numbered at
head at fine = by (slot_here at.role) refl
  where
    by : (o : Option ℕ) → slot_here at.role ≡ o → (slot_here at.role ≡ None) ⊎ Numbered at
    by None e = inl e
    by (Some s) e =
        let n = number_form at.form (field_number at.role at.form s fine (ap (is_slot s) e ∙ same_eq s)) in
        inr (record { slot = s; leaf = n.0; slot_is = e; form_is = n.1 })

det_of : ℕ → (at : Stand) → Numbered at → Det
det_of k at n = record { at = k; path = at.path; leaf = n.leaf }

dets_without : (k : ℕ) (at : Stand) (l : List Stand) → slot_here at.role ≡ None → dets k (map seen (at ∷ l)) ≡ dets (suc k) (map seen l)
dets_without k at l e = ap (λ o. cons_option (Rattle.acn_check.specs.First.det_with k at.path o at.form) (dets (suc k) (map seen l))) e

dets_with : (k : ℕ) (at : Stand) (l : List Stand) (n : Numbered at) → dets k (map seen (at ∷ l)) ≡ record { at = k; path = at.path; leaf = n.leaf } ∷ dets (suc k) (map seen l)
dets_with k at l n =
    ap (λ o. cons_option (Rattle.acn_check.specs.First.det_with k at.path o at.form) (dets (suc k) (map seen l))) n.slot_is
    ∙ ap (λ form. cons_option (Rattle.acn_check.specs.First.det_with k at.path (Some n.slot) form) (dets (suc k) (map seen l))) n.form_is

-- the slots of these nodes are the numbers from a on
abbrev From : ℕ → List Stand → Type 0
From a l = same_name (slots_of l) (range_with_len a (length (slots_of l))) ≡ true

from_without : (a : ℕ) (at : Stand) (l : List Stand) → slot_here at.role ≡ None → From a (at ∷ l) → From a l
from_without a at l e f = subst (λ (xs : List ℕ). same_name xs (range_with_len a (length xs)) ≡ true) (ap (λ o. cons_option o (slots_of l)) e) f

record FromWith (a slot : ℕ) (l : List Stand) : Type 0 where
  first : slot ≡ a
  rest : From (a + 1) l

from_with : (a : ℕ) (at : Stand) (l : List Stand) (n : Numbered at) → From a (at ∷ l) → FromWith a n.slot l
from_with a at l n f =
    let g = subst (λ (xs : List ℕ). same_name xs (range_with_len a (length xs)) ≡ true) (ap (λ o. cons_option o (slots_of l)) n.slot_is) f in
    let h = and_parts (nat_eq n.slot a) (same_name (slots_of l) (range_with_len (a + 1) (length (slots_of l)))) g in
    record { first = eqb-true n.slot a h.0; rest = h.1 }

-- From an entry of the table to its node.

pub record Field (l : List Stand) (k a i : ℕ) (d : Det) : Type 0 where
  pub place : ℕ
  pub field : Stand
  pub count : d.at ≡ k + place
  pub is_here : slice_get l place ≡ Some field
  pub slot : slot_here field.role ≡ Some (a + i)
  pub path : field.path ≡ d.path

further : (l : List Stand) (at : Stand) (k a i : ℕ) (b j : ℕ) (d : Det) → a + i ≡ b + j → Field l (suc k) a i d → Field (at ∷ l) k b j d
further l at k a i b j d e f = record { place = suc f.place; field = f.field; count = (let c = f.count in omega (arith, c)); is_here = f.is_here; slot = f.slot ∙ ap Some e; path = f.path }

field_by : (l : List Stand) (at : Stand) (k a : ℕ) → From a (at ∷ l) → ((a' i : ℕ) (d : Det) → From a' l → slice_get (dets (suc k) (map seen l)) i ≡ Some d → Field l (suc k) a' i d)
    → (slot_here at.role ≡ None) ⊎ Numbered at → (i : ℕ) (d : Det) → slice_get (dets k (map seen (at ∷ l))) i ≡ Some d → Field (at ∷ l) k a i d
field_by l at k a from rest (inl none) i d e = further l at k a i a i d refl (rest a i d (from_without a at l none from) (ap (λ t. slice_get t i) (sym (dets_without k at l none)) ∙ e))
field_by l at k a from rest (inr n) zero d e =
    let is : Some (record { at = k; path = at.path; leaf = n.leaf }) ≡ Some d = ap (λ t. slice_get t 0) (sym (dets_with k at l n)) ∙ e in
    let f = from_with a at l n from in
    first_field d is f.first
  where
    first_field : (d : Det) → Some (record { at = k; path = at.path; leaf = n.leaf }) ≡ Some d → n.slot ≡ a → Field (at ∷ l) k a 0 d
    first_field d is first = record {
      place = 0;
      field = at;
      count = (let e' : k ≡ d.at = cc in omega (arith, e'));
      is_here = refl;
      slot = n.slot_is ∙ ap Some (first ∙ omega arith);
      path = (let e' : at.path ≡ d.path = cc in e');
    }
field_by l at k a from rest (inr n) (suc i) d e =
    let f = from_with a at l n from in
    further l at k (a + 1) i a (suc i) d (omega arith) (rest (a + 1) i d f.rest (ap (λ t. slice_get t (suc i)) (sym (dets_with k at l n)) ∙ e))

field_of : (l : List Stand) (k a : ℕ) → Each Fine l → From a l → (i : ℕ) (d : Det) → slice_get (dets k (map seen l)) i ≡ Some d → Field l k a i d
field_of [] k a fine from i d e = cc
field_of (at ∷ l) k a fine from i d e = field_by l at k a from (λ a' i' d' f g. field_of l (suc k) a' fine.1 f i' d' g) (head at fine.0) i d e

-- From a node to its entry in the table.

pub record Entry (l : List Stand) (k a j s : ℕ) (field : Stand) : Type 0 where
  pub place : ℕ
  pub det : Det
  pub counts : s ≡ a + place
  pub is_here : slice_get (dets k (map seen l)) place ≡ Some det
  pub node : det.at ≡ k + j
  pub path : det.path ≡ field.path

entry_by : (l : List Stand) (at : Stand) (k a : ℕ) → From a (at ∷ l) → ((a' j s : ℕ) (field : Stand) → From a' l → slice_get l j ≡ Some field → slot_here field.role ≡ Some s → Entry l (suc k) a' j s field)
    → (slot_here at.role ≡ None) ⊎ Numbered at → (j s : ℕ) (field : Stand) → slice_get (at ∷ l) j ≡ Some field → slot_here field.role ≡ Some s → Entry (at ∷ l) k a j s field
entry_by l at k a from rest (inl none) zero s field e h = (let same : at ≡ field = cc in let clash : Some s ≡ None = sym h ∙ (ap (λ x. slot_here x.role) (sym same) ∙ none) in cc)
entry_by l at k a from rest (inl none) (suc j) s field e h =
    let r = rest a j s field (from_without a at l none from) e h in
    record { place = r.place; det = r.det; counts = r.counts; is_here = ap (λ t. slice_get t r.place) (dets_without k at l none) ∙ r.is_here; node = (let m = r.node in omega (arith, m)); path = r.path }
entry_by l at k a from rest (inr n) zero s field e h =
    let f = from_with a at l n from in
    let same : at ≡ field = cc in
    let slots : Some n.slot ≡ Some s = sym n.slot_is ∙ (ap (λ x. slot_here x.role) same ∙ h) in
    let number : n.slot ≡ s = cc in
    record {
      place = 0;
      det = record { at = k; path = at.path; leaf = n.leaf };
      counts = (let first = f.first in omega (arith, first, number));
      is_here = ap (λ t. slice_get t 0) (dets_with k at l n);
      node = omega arith;
      path = ap (λ x. x.path) same;
    }
entry_by l at k a from rest (inr n) (suc j) s field e h =
    let f = from_with a at l n from in
    let r = rest (a + 1) j s field f.rest e h in
    record {
      place = suc r.place;
      det = r.det;
      counts = (let c = r.counts in omega (arith, c));
      is_here = ap (λ t. slice_get t (suc r.place)) (dets_with k at l n) ∙ r.is_here;
      node = (let m = r.node in omega (arith, m));
      path = r.path;
    }

entry_of : (l : List Stand) (k a : ℕ) → Each Fine l → From a l → (j s : ℕ) (field : Stand) → slice_get l j ≡ Some field → slot_here field.role ≡ Some s → Entry l k a j s field
entry_of [] k a fine from j s field e h = cc
entry_of (at ∷ l) k a fine from j s field e h = entry_by l at k a from (λ a' j' s' x f g i. entry_of l (suc k) a' fine.1 f j' s' x g i) (head at fine.0) j s field e h

-- Leaves.

abbrev own : Role → Form → ℕ → Option NumLeaf
own role form s = if is_slot s (slot_here role) then leaf_in form else None

-- the leaf of the first of these nodes that is the slot's field
abbrev found : ℕ → List Stand → Option NumLeaf
found s [] = None
found s (at ∷ l) = first_of_two (own at.role at.form s) (found s l)

two_assoc : (a b c : Option NumLeaf) → first_of_two (first_of_two a b) c ≡ first_of_two a (first_of_two b c)
two_assoc None b c = refl
two_assoc (Some x) b c = refl

found-append : (s : ℕ) (a b : List Stand) → found s (a ++ b) ≡ first_of_two (found s a) (found s b)
found-append s [] b = refl
found-append s (at ∷ a) b = ap (first_of_two (own at.role at.form s)) (found-append s a b) ∙ sym (two_assoc (own at.role at.form s) (found s a) (found s b))

joined : (s : ℕ) (a b : List Stand) (x y : Option NumLeaf) → x ≡ found s a → y ≡ found s b → first_of_two x y ≡ found s (a ++ b)
joined s a b x y e f = ap (λ o. first_of_two o y) e ∙ (ap (first_of_two (found s a)) f ∙ sym (found-append s a b))

inserted_leaf : (name path around : List ℕ) (align : ℕ) (form : Form) (slot : Option ℕ) (s : ℕ) (l : List Stand) (inner rest : Option NumLeaf) → Fine (record { path = path; around = around; role = an_inserted name slot; align = align; form = form }) → inner ≡ found s (form_nodes path around form) → rest ≡ found s l
    → if_slot slot s (number_leaf (node align form)) (first_of_two inner rest) ≡ found s (nodes (an_inserted name slot) path around (node align form) ++ l)
inserted_leaf name path around align form None s l inner rest fine e f = joined s (form_nodes path around form) l inner rest e f
inserted_leaf name path around align form (Some t) s l inner rest fine e f = by (nat_eq t s) form (λ h. number_form form (field_number (an_inserted name (Some t)) form s fine h)) e
  where
    by : (b : Bool) (form : Form) → (b ≡ true → (leaf : NumLeaf) × (form ≡ num leaf)) → inner ≡ found s (form_nodes path around form) → (if b then number_leaf (node align form) else first_of_two inner rest) ≡ first_of_two (if b then leaf_in form else None) (found s (form_nodes path around form ++ l))
    by false form n e' = joined s (form_nodes path around form) l inner rest e' f
    by true form n e' = (let m = n refl in rw (m.1) refl)

component_leaf : (name path around : List ℕ) (presence : Presence) (default : Option (List ℕ)) (align : ℕ) (form : Form) (slot : Option ℕ) (s : ℕ) (l : List Stand) (inner rest : Option NumLeaf) → Fine (record { path = path; around = around; role = component_role name presence default slot; align = align; form = form }) → inner ≡ found s (form_nodes path around form) → rest ≡ found s l
    → if_slot slot s (number_leaf (node align form)) (first_of_two inner rest) ≡ found s (nodes (component_role name presence default slot) path around (node align form) ++ l)
component_leaf name path around presence default align form None s l inner rest fine e f = joined s (form_nodes path around form) l inner rest e f
component_leaf name path around presence default align form (Some t) s l inner rest fine e f = by (nat_eq t s) form (λ h. number_form form (field_number (component_role name presence default (Some t)) form s fine h)) e
  where
    by : (b : Bool) (form : Form) → (b ≡ true → (leaf : NumLeaf) × (form ≡ num leaf)) → inner ≡ found s (form_nodes path around form) → (if b then number_leaf (node align form) else first_of_two inner rest) ≡ first_of_two (if b then leaf_in form else None) (found s (form_nodes path around form ++ l))
    by false form n e' = joined s (form_nodes path around form) l inner rest e' f
    by true form n e' = (let m = n refl in rw (m.1) refl)

module _ (s : ℕ) where
  mutual
    form_found : (form : Form) (path around : List ℕ) → Each Fine (form_nodes path around form) → form_leaf form s ≡ found s (form_nodes path around form)
    form_found (num leaf) path around fine = refl
    form_found (octets sizing) path around fine = refl
    form_found (bits sizing) path around fine = refl
    form_found (text leaf) path around fine = refl
    form_found (seq fields home) path around fine = fields_found fields path (home ++ around) 0 fine
    form_found (list sizing g) path around fine = node_found g an_element (path ++ 0 ∷ []) around refl fine
    form_found (choice cases rule) path around fine = cases_found cases rule path around 0 fine
    form_found (contained sizing g) path around fine = node_found g a_content (path ++ 0 ∷ []) around refl fine

    node_found : (g : Grammar) (role : Role) (path around : List ℕ) → slot_here role ≡ None → Each Fine (nodes role path around g) → slot_leaf g s ≡ found s (nodes role path around g)
    node_found (node align form) role path around none fine = form_found form path around fine.1 ∙ sym (ap (λ o. first_of_two (if is_slot s o then leaf_in form else None) (found s (form_nodes path around form))) none)

    fields_found : (fs : Fields) (path around : List ℕ) (k : ℕ) → Each Fine (field_nodes path around k fs) → fields_leaf fs s ≡ found s (field_nodes path around k fs)
    fields_found no_fields path around k fine = refl
    fields_found (component name (node align form) presence default slot fs) path around k fine =
        let a = nodes (component_role name presence default slot) (path ++ k ∷ []) around (node align form) in
        let b = field_nodes path around (suc k) fs in
        component_leaf name (path ++ k ∷ []) around presence default align form slot s b (form_leaf form s) (fields_leaf fs s) fine.0 (form_found form (path ++ k ∷ []) around (each_left Fine (form_nodes (path ++ k ∷ []) around form) b fine.1)) (fields_found fs path around (suc k) (each_right Fine a b fine))
    fields_found (inserted name (node align form) slot fs) path around k fine =
        let a = nodes (an_inserted name slot) (path ++ k ∷ []) around (node align form) in
        let b = field_nodes path around (suc k) fs in
        inserted_leaf name (path ++ k ∷ []) around align form slot s b (form_leaf form s) (fields_leaf fs s) fine.0 (form_found form (path ++ k ∷ []) around (each_left Fine (form_nodes (path ++ k ∷ []) around form) b fine.1)) (fields_found fs path around (suc k) (each_right Fine a b fine))

    cases_found : (cases : Alternatives) (rule : ChoiceRule) (path around : List ℕ) (k : ℕ) → Each Fine (alternative_nodes rule path around k cases) → alternatives_leaf cases s ≡ found s (alternative_nodes rule path around k cases)
    cases_found no_alternatives rule path around k fine = refl
    cases_found (alternative name g tests more) rule path around k fine =
        let a = nodes (alternative_role name tests rule) (path ++ k ∷ []) around g in
        let b = alternative_nodes rule path around (suc k) more in
        joined s a b (slot_leaf g s) (alternatives_leaf more s) (node_found g (alternative_role name tests rule) (path ++ k ∷ []) around refl (each_left Fine a b fine)) (cases_found more rule path around (suc k) (each_right Fine a b fine))

found_by : (l : List Stand) (at : Stand) (k a : ℕ) → From a (at ∷ l) → ((a' i : ℕ) → From a' l → found (a' + i) l ≡ option_map (λ d. d.leaf) (slice_get (dets (suc k) (map seen l)) i))
    → (slot_here at.role ≡ None) ⊎ Numbered at → (i : ℕ) → found (a + i) (at ∷ l) ≡ option_map (λ d. d.leaf) (slice_get (dets k (map seen (at ∷ l))) i)
found_by l at k a from rest (inl none) i =
    ap (λ o. first_of_two (if is_slot (a + i) o then leaf_in at.form else None) (found (a + i) l)) none ∙ (rest a i (from_without a at l none from) ∙ ap (λ t. option_map (λ d. d.leaf) (slice_get t i)) (sym (dets_without k at l none)))
found_by l at k a from rest (inr n) zero =
    let f = from_with a at l n from in
    let hit : nat_eq n.slot (a + 0) ≡ true = hits n.slot a f.first in
    ap (λ o. first_of_two (if is_slot (a + 0) o then leaf_in at.form else None) (found (a + 0) l)) n.slot_is
    ∙ (ap (λ b. first_of_two (if b then leaf_in at.form else None) (found (a + 0) l)) hit
    ∙ (ap (λ form. first_of_two (leaf_in form) (found (a + 0) l)) n.form_is ∙ ap (λ t. option_map (λ d. d.leaf) (slice_get t 0)) (sym (dets_with k at l n))))
  where
    hits : (s a : ℕ) → s ≡ a → nat_eq s (a + 0) ≡ true
    hits s a e = grind (arith, nat_tests)
found_by l at k a from rest (inr n) (suc i) =
    let f = from_with a at l n from in
    let miss : nat_eq n.slot (a + suc i) ≡ false = misses n.slot a i f.first in
    ap (λ o. first_of_two (if is_slot (a + suc i) o then leaf_in at.form else None) (found (a + suc i) l)) n.slot_is
    ∙ (ap (λ b. first_of_two (if b then leaf_in at.form else None) (found (a + suc i) l)) miss
    ∙ (ap (λ m. found m l) (one_on a i) ∙ (rest (a + 1) i f.rest ∙ ap (λ t. option_map (λ d. d.leaf) (slice_get t (suc i))) (sym (dets_with k at l n)))))
  where
    misses : (s a i : ℕ) → s ≡ a → nat_eq s (a + suc i) ≡ false
    misses s a i e = grind (arith, nat_tests)

    one_on : (a i : ℕ) → a + suc i ≡ (a + 1) + i
    one_on a i = omega arith

found_is : (l : List Stand) (k a : ℕ) → Each Fine l → From a l → (i : ℕ) → found (a + i) l ≡ option_map (λ d. d.leaf) (slice_get (dets k (map seen l)) i)
found_is [] k a fine from i = refl
found_is (at ∷ l) k a fine from i = found_by l at k a from (λ a' i' f. found_is l (suc k) a' fine.1 f i') (head at fine.0) i

each_fine : (all l : List Stand) → list_all (λ at. all_true (stand_rules all at)) l ≡ true → Each Fine l
each_fine all [] h = tt
each_fine all (at ∷ l) h = (let f = and_parts (all_true (stand_rules all at)) (list_all (λ x. all_true (stand_rules all x)) l) h in ((stand_fine all at f.0).role, each_fine all l f.1))

-- The whole tree.

-- an entry of the table, and the node of its field
pub record OfField (root : Grammar) (s : ℕ) (d : Det) : Type 0 where
  pub field : Stand
  pub is_at : NodeAt root d.at field
  pub slot : slot_here field.role ≡ Some s
  pub path : field.path ≡ d.path

-- the field of a slot, and its entry in the table
pub record InTable (root : Grammar) (j s : ℕ) (field : Stand) : Type 0 where
  pub det : Det
  pub is_here : slice_get (dets 0 (lines_of root)) s ≡ Some det
  pub node : det.at ≡ j
  pub path : det.path ≡ field.path

module _ (root : Grammar) (tree : IsTree root) where
  all_fine : Each Fine (nodes_of root)
  all_fine = each_fine (nodes_of root) (nodes_of root) (tree_rules root tree)

  pub entry_field : (s : ℕ) (d : Det) → slice_get (dets 0 (lines_of root)) s ≡ Some d → OfField root s d
  entry_field s d e =
      let f = field_of (nodes_of root) 0 0 all_fine (tree_numbered root tree) s d e in
      let same : f.place ≡ d.at = (let c = f.count in omega (arith, c)) in
      record { field = f.field; is_at = subst (λ (n : ℕ). NodeAt root n f.field) same f.is_here; slot = f.slot ∙ ap Some (omega arith); path = f.path }

  pub field_entry : (j s : ℕ) (field : Stand) → NodeAt root j field → slot_here field.role ≡ Some s → InTable root j s field
  field_entry j s field at slot =
      let r = entry_of (nodes_of root) 0 0 all_fine (tree_numbered root tree) j s field at slot in
      let same : r.place ≡ s = (let c = r.counts in omega (arith, c)) in
      record { det = r.det; is_here = subst (λ (n : ℕ). slice_get (dets 0 (lines_of root)) n ≡ Some r.det) same r.is_here; node = (let m = r.node in omega (arith, m)); path = r.path }

  root_leaf : (g : Grammar) → Each Fine (nodes root_node [] [] g) → (s : ℕ) → slot_leaf g s ≡ found s (nodes root_node [] [] g)
  root_leaf g fine s = node_found s g root_node [] [] refl fine

  pub leaf_entry : (s : ℕ) → slot_leaf root s ≡ option_map (λ d. d.leaf) (slice_get (dets 0 (lines_of root)) s)
  leaf_entry s = root_leaf root all_fine s ∙ (ap (λ n. found n (nodes_of root)) (zero_on s) ∙ found_is (nodes_of root) 0 0 all_fine (tree_numbered root tree) s)
    where
      zero_on : (s : ℕ) → s ≡ 0 + s
      zero_on s = omega arith
