-- The prefix law of each node of an accepted tree, and of whole packets.
use Rattle.std.proofs.Common.{◌≡◌, ℕ, zero, suc, ◌+◌, true, false, List, [], ◌∷◌, ◌++◌, length, map, Some, refl, sym, ap, ◌∙◌, arith, nat_eq, ◌&&◌, ◌||◌, subst, length-append}
use Rattle.std.proofs.lemmas.Bool.{and_from, or_left, and_parts}
use Rattle.std.specs.Prelude.{slice_get}
use Rattle.std.specs.List.{flat_map}
use Rattle.acn_grammar.specs.Check.{CheckFault, Undecodable}
use Rattle.acn_grammar.specs.Grammar.{Grammar, Form, Fields, Alternatives, node, num, octets, bits, text, seq, list, choice, contained, no_fields, component, inserted, no_alternatives, alternative}
use Rattle.acn_packet_laws.specs.Laws.{IsAccepted, AcceptedIsScoped, NodesArePrefixFree, SlotFieldsArePrefixFree, EachNodeIsPrefixFree, PacketsArePrefixFree, FieldBefore}
use Rattle.acn_grammar.specs.Scoped.{Known}
use Rattle.acn_grammar.specs.Tree.{IsTree, holds}
use Rattle.acn_grammar.specs.Walk.{Stand, Role, component_role, an_inserted, alternative_role, an_element, a_content, root_node, nodes, nodes_of, field_nodes, alternative_nodes, inside, slot_of, uses}
use Rattle.acn_grammar.specs.declared.node.ChoiceRule.{ChoiceRule}
use Rattle.acn_packet_laws.proofs.Accepted.{scoped, root_scoped}
use Rattle.acn_packet_laws.proofs.FirstFaults.{none_without_first}
use Rattle.acn_packet_laws.proofs.Placed.{here_at, to_fields, to_one, to_cases, first_component, next_component, first_inserted, next_inserted, first_case, next_case, has_field, root_place, inside_near, slots-field}
use Rattle.acn_packet_laws.proofs.PrefixNodes.{spell_law, slot_law}
use Rattle.acn_packet_laws.proofs.Scoping.{At, FieldsAt, CasesAt, numbers, rules, Knows, used, named, used_left, used_right, find_field, near_after}
use Rattle.acn_grammar.proofs.WholeTests.{either}

pub accepted_sound : (root : Grammar) → IsAccepted root → (f : CheckFault) → Undecodable root f → ⊥
accepted_sound root a = none_without_first root a.sound

pub accepted_scoped : AcceptedIsScoped
accepted_scoped root a = root_scoped root a.formed (accepted_sound root a)

-- an element of two lists in a row
pub in_either : {A F : Type 0} (a b : List A) (n : ℕ) (x : A) → slice_get (a ++ b) n ≡ Some x → (slice_get a n ≡ Some x → F) → ((m : ℕ) → n ≡ length a + m → slice_get b m ≡ Some x → F) → F
in_either [] b n x e f g = g n (omega arith) e
in_either (y ∷ a) b zero x e f g = f e
in_either {F} (y ∷ a) b (suc n) x e f g = in_either {F = F} a b n x e f (λ m k h. g m (omega arith) h)

pub get_left : {A : Type 0} (a b : List A) (n : ℕ) (x : A) → slice_get a n ≡ Some x → slice_get (a ++ b) n ≡ Some x
get_left [] b n x e = cc
get_left (y ∷ a) b zero x e = e
get_left (y ∷ a) b (suc n) x e = get_left a b n x e

pub some_one : {A : Type 0} (x y : A) → Some x ≡ Some y → x ≡ y
some_one x y e = cc

used_in : (l : List Stand) (s : ℕ) → named s l ≡ true → holds (map slot_of (flat_map uses l)) s ≡ true
used_in [] s h = cc
used_in (at ∷ l) s h = either {F = holds (map slot_of (uses at ++ flat_map uses l)) s ≡ true} (used s at) (named s l) h
    (λ q. used_left (uses at) (flat_map uses l) s q) (λ q. used_right (uses at) (flat_map uses l) s (used_in l s q))

module _ (root : Grammar) (tree : IsTree root) (sound : (f : CheckFault) → Undecodable root f → ⊥) where
  -- a node with as many before it, in its place
  pub record Located (at : Stand) (n : ℕ) : Type 0 where
    pub before : List Stand
    pub behind : List Stand
    pub place : At root tree sound before at.role at.path at.around (node at.align at.form) behind
    pub count : length before ≡ n

  further : (at : Stand) (pre a : List Stand) (n m : ℕ) → n ≡ length a + m → Located at (length (pre ++ a) + m) → Located at (length pre + n)
  further at pre a n m e l = record { before = l.before; behind = l.behind; place = l.place; count = l.count ∙ omega (arith, length-append pre a) }

  one_further : (at here : Stand) (pre : List Stand) (n : ℕ) → Located at (length (pre ++ here ∷ []) + n) → Located at (length pre + suc n)
  one_further at here pre n l = record { before = l.before; behind = l.behind; place = l.place; count = l.count ∙ omega (arith, length-append pre (here ∷ [])) }

  located_here : (pre : List Stand) (role : Role) (path around : List ℕ) (align : ℕ) (form : Form) (post : List Stand) → At root tree sound pre role path around (node align form) post → (at : Stand) → Some (here_at role path around align form) ≡ Some at → Located at (length pre + zero)
  located_here pre role path around align form post p at e =
      subst (λ x. Located x (length pre + zero)) (some_one (here_at role path around align form) at e) (record { before = pre; behind = post; place = p; count = omega arith })

  mutual
    pub located : (g : Grammar) (pre : List Stand) (role : Role) (path around : List ℕ) (post : List Stand) → At root tree sound pre role path around g post → (n : ℕ) (at : Stand) → slice_get (nodes role path around g) n ≡ Some at → Located at (length pre + n)
    located (node align form) pre role path around post p zero at e = located_here pre role path around align form post p at e
    located (node align (seq fields home)) pre role path around post p (suc n) at e =
        one_further at (here_at role path around align (seq fields home)) pre n (located_fields fields (pre ++ here_at role path around align (seq fields home) ∷ []) path (home ++ around) 0 post (to_fields (nodes_of root) (numbers root tree sound) (rules root tree sound) pre role path around align fields home post p) n at e)
    located (node align (list sizing g)) pre role path around post p (suc n) at e =
        one_further at (here_at role path around align (list sizing g)) pre n (located g (pre ++ here_at role path around align (list sizing g) ∷ []) an_element (path ++ 0 ∷ []) around post (to_one (nodes_of root) (numbers root tree sound) (rules root tree sound) pre role path around align (list sizing g) post an_element (path ++ 0 ∷ []) g refl refl p) n at e)
    located (node align (contained sizing g)) pre role path around post p (suc n) at e =
        one_further at (here_at role path around align (contained sizing g)) pre n (located g (pre ++ here_at role path around align (contained sizing g) ∷ []) a_content (path ++ 0 ∷ []) around post (to_one (nodes_of root) (numbers root tree sound) (rules root tree sound) pre role path around align (contained sizing g) post a_content (path ++ 0 ∷ []) g refl refl p) n at e)
    located (node align (choice cases rule)) pre role path around post p (suc n) at e =
        one_further at (here_at role path around align (choice cases rule)) pre n (located_cases cases (pre ++ here_at role path around align (choice cases rule) ∷ []) rule path around 0 post (to_cases (nodes_of root) (numbers root tree sound) (rules root tree sound) pre role path around align cases rule post p) n at e)
    located (node align (num leaf)) pre role path around post p (suc n) at e = cc
    located (node align (octets sizing)) pre role path around post p (suc n) at e = cc
    located (node align (bits sizing)) pre role path around post p (suc n) at e = cc
    located (node align (text leaf)) pre role path around post p (suc n) at e = cc

    located_fields : (fs : Fields) (pre : List Stand) (path around : List ℕ) (k : ℕ) (post : List Stand) → FieldsAt root tree sound pre path around k fs post → (n : ℕ) (at : Stand) → slice_get (field_nodes path around k fs) n ≡ Some at → Located at (length pre + n)
    located_fields no_fields pre path around k post p n at e = cc
    located_fields (component name g presence default own fs) pre path around k post p n at e =
        let a = nodes (component_role name presence default own) (path ++ k ∷ []) around g in
        let b = field_nodes path around (suc k) fs in
        in_either {F = Located at (length pre + n)} a b n at e
        (λ h. located g pre (component_role name presence default own) (path ++ k ∷ []) around (b ++ post) (first_component (nodes_of root) (numbers root tree sound) (rules root tree sound) pre path around k name g presence default own fs post p) n at h)
        (λ m same h. further at pre a n m same (located_fields fs (pre ++ a) path around (suc k) post (next_component (nodes_of root) (numbers root tree sound) (rules root tree sound) pre path around k name g presence default own fs post p) m at h))
    located_fields (inserted name g slot fs) pre path around k post p n at e =
        let a = nodes (an_inserted name slot) (path ++ k ∷ []) around g in
        let b = field_nodes path around (suc k) fs in
        in_either {F = Located at (length pre + n)} a b n at e
        (λ h. located g pre (an_inserted name slot) (path ++ k ∷ []) around (b ++ post) (first_inserted (nodes_of root) (numbers root tree sound) (rules root tree sound) pre path around k name g slot fs post p) n at h)
        (λ m same h. further at pre a n m same (located_fields fs (pre ++ a) path around (suc k) post (next_inserted (nodes_of root) (numbers root tree sound) (rules root tree sound) pre path around k name g slot fs post p) m at h))

    located_cases : (cases : Alternatives) (pre : List Stand) (rule : ChoiceRule) (path around : List ℕ) (k : ℕ) (post : List Stand) → CasesAt root tree sound pre rule path around k cases post → (n : ℕ) (at : Stand) → slice_get (alternative_nodes rule path around k cases) n ≡ Some at → Located at (length pre + n)
    located_cases no_alternatives pre rule path around k post p n at e = cc
    located_cases (alternative name g tests more) pre rule path around k post p n at e =
        let a = nodes (alternative_role name tests rule) (path ++ k ∷ []) around g in
        let b = alternative_nodes rule path around (suc k) more in
        in_either {F = Located at (length pre + n)} a b n at e
        (λ h. located g pre (alternative_role name tests rule) (path ++ k ∷ []) around (b ++ post) (first_case (nodes_of root) (numbers root tree sound) (rules root tree sound) pre rule path around k name g tests more post p) n at h)
        (λ m same h. further at pre a n m same (located_cases more (pre ++ a) rule path around (suc k) post (next_case (nodes_of root) (numbers root tree sound) (rules root tree sound) pre rule path around k name g tests more post p) m at h))

  -- what is known before a node: the open slots that it or a node inside it uses and whose fields stand before
  abbrev known_before : (pre : List Stand) (here : Stand) → Known
  known_before pre here s = holds here.around s && (has_field s pre && named s (here ∷ inside here))

  knows_before : (pre : List Stand) (here : Stand) → Knows (known_before pre here) pre here.around (here ∷ inside here)
  knows_before pre here = record {
    known = λ s o h m. and_from (holds here.around s) (has_field s pre && named s (here ∷ inside here)) o (and_from (has_field s pre) (named s (here ∷ inside here)) h m);
    fresh = λ s h. (and_parts (has_field s pre) (named s (here ∷ inside here)) (and_parts (holds here.around s) (has_field s pre && named s (here ∷ inside here)) h).1).0;
  }

  field_before : (pre rest : List Stand) (k s : ℕ) → nodes_of root ≡ pre ++ rest → length pre ≡ k → has_field s pre ≡ true → FieldBefore root k s
  field_before pre rest k s e l h =
      let f = find_field pre s h in
      record { number = f.0; field = f.1; stands = ap (λ x. slice_get x f.0) e ∙ get_left pre rest f.0 f.1 f.2; is_of_slot = f.3; before = omega (arith, f.4) }

pub nodes_prefix_free : NodesArePrefixFree
nodes_prefix_free root g ks env env' d d' at a b r s fine ok same p q e =
    let h = spell_law root g ks fine env env' ok same d d' at a b r s p q e in
    (h.0, h.1.0, h.1.1)

pub slot_fields_prefix_free : SlotFieldsArePrefixFree
slot_fields_prefix_free root g env env' slot at a b r s fine p q e =
    let h = slot_law root g fine (λ s. false) env env' slot (λ s k. cc) at a b r s p q e in
    (h.0, h.1 slot (same slot))
  where
    same : (s : ℕ) → (nat_eq s s || false) ≡ true
    same s = or_left (nat_eq s s) false (Rattle.acn_grammar.proofs.SlotLists.same_eq s)

pub each_node_prefix_free : EachNodeIsPrefixFree
each_node_prefix_free root k here env env' d d' at a b r s accepted is_at ok agree p q e =
    let tree = accepted.formed in
    let sound = accepted_sound root accepted in
    let g = node here.align here.form in
    let l = located root tree sound root [] root_node [] [] [] (root_place root (numbers root tree sound) (rules root tree sound)) k here is_at in
    let place = l.place in
    let ks = known_before root tree sound l.before here in
    let knows = knows_before root tree sound l.before here in
    let fine = scoped root tree sound g l.before here.role here.path here.around l.behind place ks knows in
    let h = spell_law root g ks fine env env' ok (λ slot known.
    let open_here = and_parts (holds here.around slot) (has_field slot l.before && named slot (here ∷ inside here)) known in
    let used_here = and_parts (has_field slot l.before) (named slot (here ∷ inside here)) open_here.1 in
    agree slot open_here.0 (used_in (here ∷ inside here) slot used_here.1) (field_before root tree sound l.before (nodes here.role here.path here.around g ++ l.behind) k slot place.whole (l.count ∙ omega arith) used_here.0)) d d' at a b r s p q e in
    record {
      bits = h.0;
      value = h.1.0;
      numbers = λ slot o i. h.1.1 slot (near_after root tree sound g l.before here.role here.path here.around l.behind place ks knows.fresh slot o
          (inside_near (nodes_of root) (numbers root tree sound) (rules root tree sound) l.before here.role here.path here.around here.align here.form l.behind place slot o (sym (slots-field slot (inside here)) ∙ i)));
    }

pub packets_prefix_free : PacketsArePrefixFree
packets_prefix_free root d d' a b r s accepted p q e =
    let h = spell_law root root (λ s. false) (accepted_scoped root accepted) [] [] tt (λ s k. cc) d d' 0 a b r s p q e in
    (h.0, h.1.0)
