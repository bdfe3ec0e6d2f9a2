-- In a tree without a fault each use names a slot whose number is known where it stands.
use Rattle.std.proofs.lemmas.Bool.{and_from, false_from_ne_true, or_left, or_parts, or_right, and_parts, eqb-true}
use Rattle.std.proofs.Common.{◌≡◌, ℕ, zero, suc, ◌<◌, Bool, true, false, not, List, [], ◌∷◌, ◌++◌, length, map, Option, Some, None, refl, sym, ap, ◌∙◌, arith, nat_eq, ◌&&◌, ◌||◌}
use Rattle.std.specs.Prelude.{slice_get}
use Rattle.std.specs.List.{list_any, list_all, range_with_len}
use Rattle.acn_grammar.specs.Check.{CheckFault, forward, Undecodable}
use Rattle.acn_grammar.specs.Grammar.{Grammar, Form, Fields, Alternatives, node, num, octets, bits, text, seq, list, choice, contained, no_fields, component, inserted, no_alternatives, alternative}
use Rattle.acn_grammar.specs.Scoped.{Known, with_slot, TestsIn, PresenceIn, RuleIn, FineField, choose_known, with_own, after, fields_after, names_of}
use Rattle.acn_grammar.specs.Tree.{IsTree, holds, is_slot, near, near_node, role_fine, own_fine, presence_fine, encloses, form_fine, same_numbers, slots_of, all_true, stand_rules}
use Rattle.acn_grammar.specs.Walk.{Stand, Role, component_role, a_component, an_inserted, an_alternative, an_element, a_content, root_node, nodes, nodes_of, form_nodes, field_nodes, slot_here, Use, condition, slot_of, uses, own_tests, presence_tests, form_uses, rule_uses, conditions_of}
use Rattle.acn_grammar.specs.declared.node.ChoiceRule.{ChoiceRule}
use Rattle.acn_grammar.specs.declared.node.Presence.{Presence}
use Rattle.acn_grammar.specs.declared.node.Presence.TheVariants.{Always, Bit, When}
use Rattle.acn_grammar.specs.declared.node.SizeRule.{SizeRule}
use Rattle.acn_grammar.specs.declared.node.SizeRule.TheVariants.{Prefix, Slot, Ended}
use Rattle.acn_grammar.specs.declared.node.Test.{Test}
use Rattle.acn_grammar.specs.declared.node.Test.TheVariants.{Flag, Equals}
use Rattle.acn_packet_laws.proofs.Placed.{any_left, any_right, any_either, holds_right, holds_either, list_all-holds, field_is, has_field, near_has, near_if_when, near_parts, own_number, is_number, no_field, twice, fine_at, home_near, home_is, Place, FieldsPlace, CasesPlace, here_at, place_fine, to_fields, first_component, next_component, first_inserted, next_inserted, tree_numbered, tree_rules, slot_in, parts_apart, inserted_number}
use Rattle.acn_grammar.proofs.WholeTests.{either}
use Rattle.acn_grammar.proofs.SlotLists.{same_eq}

-- Uses and fields by their places.

abbrev pub used : ℕ → Stand → Bool
used s at = holds (map slot_of (uses at)) s

-- some of the nodes uses the slot
abbrev pub named : ℕ → List Stand → Bool
named s nodes' = list_any (used s) nodes'

pub used_left : (xs ys : List Use) (s : ℕ) → holds (map slot_of xs) s ≡ true → holds (map slot_of (xs ++ ys)) s ≡ true
used_left [] ys s h = cc
used_left (x ∷ xs) ys s h = either {F = holds (map slot_of ((x ∷ xs) ++ ys)) s ≡ true} (nat_eq (slot_of x) s) (holds (map slot_of xs) s) h
    (λ q. or_left (nat_eq (slot_of x) s) (holds (map slot_of (xs ++ ys)) s) q)
    (λ q. or_right (nat_eq (slot_of x) s) (holds (map slot_of (xs ++ ys)) s) (used_left xs ys s q))

pub used_right : (xs ys : List Use) (s : ℕ) → holds (map slot_of ys) s ≡ true → holds (map slot_of (xs ++ ys)) s ≡ true
used_right [] ys s h = h
used_right (x ∷ xs) ys s h = or_right (nat_eq (slot_of x) s) (holds (map slot_of (xs ++ ys)) s) (used_right xs ys s h)

pub find_use : (us : List Use) (s : ℕ) → holds (map slot_of us) s ≡ true → (u : ℕ) × (use' : Use) × (slice_get us u ≡ Some use') × (slot_of use' ≡ s)
find_use [] s h = cc
find_use (x ∷ us) s h = either {F = (u : ℕ) × (use' : Use) × (slice_get (x ∷ us) u ≡ Some use') × (slot_of use' ≡ s)} (nat_eq (slot_of x) s) (holds (map slot_of us) s) h
    (λ q. (zero, x, refl, eqb-true (slot_of x) s q))
    (λ q. let r = find_use us s q in (suc r.0, r.1, r.2, r.3))

pub slot_is : (o : Option ℕ) (s : ℕ) → is_slot s o ≡ true → o ≡ Some s
slot_is None s h = cc
slot_is (Some t) s h = ap Some (eqb-true t s h)

pub find_field : (l : List Stand) (s : ℕ) → has_field s l ≡ true → (j : ℕ) × (at : Stand) × (slice_get l j ≡ Some at) × (slot_here at.role ≡ Some s) × (j < length l)
find_field [] s h = cc
find_field (x ∷ l) s h = either {F = (j : ℕ) × (at : Stand) × (slice_get (x ∷ l) j ≡ Some at) × (slot_here at.role ≡ Some s) × (j < length (x ∷ l))} (field_is s x) (has_field s l) h
    (λ q. (zero, x, refl, slot_is (slot_here x.role) s q, omega arith))
    (λ q. let r = find_field l s q in (suc r.0, r.1, r.2, r.3, omega (arith, r.4)))

pub get_here : {A : Type 0} (a : List A) (x : A) (c : List A) → slice_get (a ++ x ∷ c) (length a) ≡ Some x
get_here [] x c = refl
get_here (y ∷ a) x c = get_here a x c

get_later : {A : Type 0} (a : List A) (x y : A) (c : List A) (j : ℕ) → slice_get c j ≡ Some y → (m : ℕ) × (length a < m) × (slice_get (a ++ x ∷ c) m ≡ Some y)
get_later [] x y c j e = (suc j, omega arith, e)
get_later (z ∷ a) x y c j e = let r = get_later a x y c j e in (suc r.0, omega (arith, r.1), r.2)

no_uses_own : (presence : Presence) (own : Option ℕ) (form : Form) (s t : ℕ) → (presence_fine presence && own_fine own presence form) ≡ true → is_slot s own ≡ true → holds (map slot_of (map condition (presence_tests presence) ++ form_uses form)) t ≡ true → ⊥
no_uses_own presence None form s t f h u = cc
no_uses_own (When ts) (Some o) form s t f h u = let g = (and_parts (presence_fine (When ts)) false f).1 in cc
no_uses_own Bit (Some o) form s t f h u = cc
no_uses_own Always (Some o) (num leaf) s t f h u = cc
no_uses_own Always (Some o) (octets sizing) s t f h u = cc
no_uses_own Always (Some o) (bits sizing) s t f h u = cc
no_uses_own Always (Some o) (text leaf) s t f h u = cc
no_uses_own Always (Some o) (seq _ home) s t f h u = cc
no_uses_own Always (Some o) (list sizing g) s t f h u = cc
no_uses_own Always (Some o) (choice cases rule) s t f h u = cc
no_uses_own Always (Some o) (contained sizing g) s t f h u = cc

no_uses : (role : Role) (path around : List ℕ) (align : ℕ) (form : Form) (s t : ℕ) → role_fine role form ≡ true → is_slot s (slot_here role) ≡ true → used t (record { path = path; around = around; role = role; align = align; form = form }) ≡ true → ⊥
no_uses root_node path around align form s t f h u = cc
no_uses (a_component one) path around align form s t f h u = no_uses_own one.presence one.slot form s t f h u
no_uses (an_alternative one) path around align form s t f h u = cc
no_uses an_element path around align form s t f h u = cc
no_uses a_content path around align form s t f h u = cc
no_uses (an_inserted name slot) path around align (num leaf) s t f h u = cc
no_uses (an_inserted name slot) path around align (octets sizing) s t f h u = cc
no_uses (an_inserted name slot) path around align (bits sizing) s t f h u = cc
no_uses (an_inserted name slot) path around align (text leaf) s t f h u = cc
no_uses (an_inserted name slot) path around align (seq _ home) s t f h u = cc
no_uses (an_inserted name slot) path around align (list sizing g) s t f h u = cc
no_uses (an_inserted name slot) path around align (choice cases rule) s t f h u = cc
no_uses (an_inserted name slot) path around align (contained sizing g) s t f h u = cc

pub tests_in : (ks : Known) (ts : List Test) → ((s : ℕ) → holds (map slot_of (map condition ts)) s ≡ true → ks s ≡ true) → TestsIn ks ts
tests_in ks [] f = tt
tests_in ks (Flag s ∷ ts) f = (f s (or_left (nat_eq s s) (holds (map slot_of (map condition ts)) s) (same_eq s)), tests_in ks ts (λ t h. f t (or_right (nat_eq s t) (holds (map slot_of (map condition ts)) t) h)))
tests_in ks (Equals s k ∷ ts) f = (f s (or_left (nat_eq s s) (holds (map slot_of (map condition ts)) s) (same_eq s)), tests_in ks ts (λ t h. f t (or_right (nat_eq s t) (holds (map slot_of (map condition ts)) t) h)))

pub presence_in : (ks : Known) (presence : Presence) → ((s : ℕ) → holds (map slot_of (map condition (presence_tests presence))) s ≡ true → ks s ≡ true) → PresenceIn ks presence
presence_in ks Always f = tt
presence_in ks Bit f = tt
presence_in ks (When ts) f = tests_in ks ts f

pub rule_in : (ks : Known) (rule : SizeRule) → ((s : ℕ) → holds (map slot_of (rule_uses rule)) s ≡ true → ks s ≡ true) → RuleIn ks rule
rule_in ks (Prefix low width) f = tt
rule_in ks (Ended p) f = tt
rule_in ks (Slot s) f = f s (or_left (nat_eq s s) false (same_eq s))

pub names_are : (cases : Alternatives) → names_of cases ≡ map (λ c. c.0) (conditions_of cases)
names_are no_alternatives = refl
names_are (alternative name g ts more) = ap (λ ns. name ∷ ns) (names_are more)

if_truth : {F : Type 0} (b : Bool) → (b ≡ true → F) → (b ≡ false → F) → F
if_truth true f g = f refl
if_truth false f g = g refl

-- What is known behind a node stands in it or before it.

behind_all : (a b : List Stand) (ks : Known) (s : ℕ) → (ks s || has_field s b) ≡ true → (ks s || has_field s (a ++ b)) ≡ true
behind_all a b ks s h = either {F = (ks s || has_field s (a ++ b)) ≡ true} (ks s) (has_field s b) h (λ q. or_left (ks s) (has_field s (a ++ b)) q) (λ q. or_right (ks s) (has_field s (a ++ b)) (any_right (field_is s) a b q))

pub own_either : {F : Type 0} (own : Option ℕ) (ks : Known) (s : ℕ) → with_own own ks s ≡ true → (is_slot s own ≡ true → F) → (ks s ≡ true → F) → F
own_either None ks s h f g = g h
own_either {F} (Some t) ks s h f g = either {F = F} (nat_eq t s) (ks s) h f g

own_first : (own : Option ℕ) (ks : Known) (s : ℕ) → is_slot s own ≡ true → with_own own ks s ≡ true
own_first None ks s h = cc
own_first (Some t) ks s h = or_left (nat_eq t s) (ks s) h

pub own_second : (own : Option ℕ) (ks : Known) (s : ℕ) → ks s ≡ true → with_own own ks s ≡ true
own_second None ks s h = h
own_second (Some t) ks s h = or_right (nat_eq t s) (ks s) h

mutual
  pub after_from : (g : Grammar) (role : Role) (path around : List ℕ) (ks : Known) (s : ℕ) → after ks g s ≡ true → (ks s || has_field s (nodes role path around g)) ≡ true
  after_from (node align (seq fields home)) role path around ks s h =
      let f = and_parts (fields_after ks fields s) (not (holds home s)) h in
      either {F = (ks s || (is_slot s (slot_here role) || has_field s (field_nodes path (home ++ around) 0 fields))) ≡ true} (ks s) (has_field s (field_nodes path (home ++ around) 0 fields)) (fields_after_from fields path (home ++ around) 0 ks s f.0)
      (λ q. or_left (ks s) (is_slot s (slot_here role) || has_field s (field_nodes path (home ++ around) 0 fields)) q)
      (λ q. or_right (ks s) (is_slot s (slot_here role) || has_field s (field_nodes path (home ++ around) 0 fields)) (or_right (is_slot s (slot_here role)) (has_field s (field_nodes path (home ++ around) 0 fields)) q))
  after_from (node align (num leaf)) role path around ks s h = or_left (ks s) (has_field s (nodes role path around (node align (num leaf)))) h
  after_from (node align (octets sizing)) role path around ks s h = or_left (ks s) (has_field s (nodes role path around (node align (octets sizing)))) h
  after_from (node align (bits sizing)) role path around ks s h = or_left (ks s) (has_field s (nodes role path around (node align (bits sizing)))) h
  after_from (node align (text leaf)) role path around ks s h = or_left (ks s) (has_field s (nodes role path around (node align (text leaf)))) h
  after_from (node align (list sizing g)) role path around ks s h = or_left (ks s) (has_field s (nodes role path around (node align (list sizing g)))) h
  after_from (node align (choice cases rule)) role path around ks s h = or_left (ks s) (has_field s (nodes role path around (node align (choice cases rule)))) h
  after_from (node align (contained sizing g)) role path around ks s h = or_left (ks s) (has_field s (nodes role path around (node align (contained sizing g)))) h

  fields_after_from : (fs : Fields) (path around : List ℕ) (k : ℕ) (ks : Known) (s : ℕ) → fields_after ks fs s ≡ true → (ks s || has_field s (field_nodes path around k fs)) ≡ true
  fields_after_from no_fields path around k ks s h = or_left (ks s) false h
  fields_after_from (component name g Always default own fs) path around k ks s h =
      let a = nodes (component_role name Always default own) (path ++ k ∷ []) around g in
      let b = field_nodes path around (suc k) fs in
      either {F = (ks s || has_field s (nodes (component_role name Always default own) (path ++ k ∷ []) around g ++ field_nodes path around (suc k) fs)) ≡ true} (with_own own (after ks g) s) (has_field s b) (fields_after_from fs path around (suc k) (with_own own (after ks g)) s h)
      (λ q. own_either {F = (ks s || has_field s (nodes (component_role name Always default own) (path ++ k ∷ []) around g ++ field_nodes path around (suc k) fs)) ≡ true} own (after ks g) s q
      (λ r. or_right (ks s) (has_field s (a ++ b)) (any_left (field_is s) a b (slot_in (component_role name Always default own) (path ++ k ∷ []) around g s r)))
      (λ t. either {F = (ks s || has_field s (nodes (component_role name Always default own) (path ++ k ∷ []) around g ++ field_nodes path around (suc k) fs)) ≡ true} (ks s) (has_field s a) (after_from g (component_role name Always default own) (path ++ k ∷ []) around ks s t)
      (λ r. or_left (ks s) (has_field s (a ++ b)) r) (λ r. or_right (ks s) (has_field s (a ++ b)) (any_left (field_is s) a b r))))
      (λ q. or_right (ks s) (has_field s (a ++ b)) (any_right (field_is s) a b q))
  fields_after_from (component name g Bit default own fs) path around k ks s h =
      behind_all (nodes (component_role name Bit default own) (path ++ k ∷ []) around g) (field_nodes path around (suc k) fs) ks s (fields_after_from fs path around (suc k) ks s h)
  fields_after_from (component name g (When ts) default own fs) path around k ks s h =
      behind_all (nodes (component_role name (When ts) default own) (path ++ k ∷ []) around g) (field_nodes path around (suc k) fs) ks s (fields_after_from fs path around (suc k) ks s h)
  fields_after_from (inserted name (node align form) (Some t) fs) path around k ks s h =
      let a = nodes (an_inserted name (Some t)) (path ++ k ∷ []) around (node align form) in
      let b = field_nodes path around (suc k) fs in
      either {F = (ks s || has_field s (nodes (an_inserted name (Some t)) (path ++ k ∷ []) around (node align form) ++ field_nodes path around (suc k) fs)) ≡ true} (nat_eq t s || ks s) (has_field s b) (fields_after_from fs path around (suc k) (with_slot t ks) s h)
      (λ q. either {F = (ks s || has_field s (nodes (an_inserted name (Some t)) (path ++ k ∷ []) around (node align form) ++ field_nodes path around (suc k) fs)) ≡ true} (nat_eq t s) (ks s) q
      (λ r. or_right (ks s) (has_field s (a ++ b)) (any_left (field_is s) a b (or_left (nat_eq t s) (has_field s (form_nodes (path ++ k ∷ []) around form)) r))) (λ r. or_left (ks s) (has_field s (a ++ b)) r))
      (λ q. or_right (ks s) (has_field s (a ++ b)) (any_right (field_is s) a b q))
  fields_after_from (inserted name g None fs) path around k ks s h =
      behind_all (nodes (an_inserted name None) (path ++ k ∷ []) around g) (field_nodes path around (suc k) fs) ks s (fields_after_from fs path around (suc k) ks s h)

pub not_true : (b : Bool) → b ≡ false → not b ≡ true
not_true true h = cc
not_true false h = refl

-- what is known before these nodes, and stands before them
abbrev pub Fresh : Known → List Stand → Type 0
Fresh ks pre = (s : ℕ) → ks s ≡ true → has_field s pre ≡ true

fresh_more : (ks : Known) (pre a : List Stand) → Fresh ks pre → Fresh ks (pre ++ a)
fresh_more ks pre a f s h = any_left (field_is s) pre a (f s h)

fresh_after : (g : Grammar) (role : Role) (path around : List ℕ) (ks : Known) (pre : List Stand) → Fresh ks pre → Fresh (after ks g) (pre ++ nodes role path around g)
fresh_after g role path around ks pre f s h = either {F = has_field s (pre ++ nodes role path around g) ≡ true} (ks s) (has_field s (nodes role path around g)) (after_from g role path around ks s h)
    (λ q. any_left (field_is s) pre (nodes role path around g) (f s q)) (λ q. any_right (field_is s) pre (nodes role path around g) q)

fresh_own : (name : List ℕ) (g : Grammar) (path around : List ℕ) (k : ℕ) (default : Option (List ℕ)) (own : Option ℕ) (ks : Known) (pre : List Stand) → Fresh ks pre → Fresh (with_own own (after ks g)) (pre ++ nodes (component_role name Always default own) (path ++ k ∷ []) around g)
fresh_own name g path around k default own ks pre f s h = own_either {F = has_field s (pre ++ nodes (component_role name Always default own) (path ++ k ∷ []) around g) ≡ true} own (after ks g) s h
    (λ q. any_right (field_is s) pre (nodes (component_role name Always default own) (path ++ k ∷ []) around g) (slot_in (component_role name Always default own) (path ++ k ∷ []) around g s q))
    (λ q. fresh_after g (component_role name Always default own) (path ++ k ∷ []) around ks pre f s q)

fresh_slot : (name : List ℕ) (g : Grammar) (path around : List ℕ) (k t : ℕ) (ks : Known) (pre : List Stand) → Fresh ks pre → Fresh (with_slot t ks) (pre ++ nodes (an_inserted name (Some t)) (path ++ k ∷ []) around g)
fresh_slot name g path around k t ks pre f s h = either {F = has_field s (pre ++ nodes (an_inserted name (Some t)) (path ++ k ∷ []) around g) ≡ true} (nat_eq t s) (ks s) h
    (λ q. any_right (field_is s) pre (nodes (an_inserted name (Some t)) (path ++ k ∷ []) around g) (slot_in (an_inserted name (Some t)) (path ++ k ∷ []) around g s q))
    (λ q. any_left (field_is s) pre (nodes (an_inserted name (Some t)) (path ++ k ∷ []) around g) (f s q))

-- the slots that a use may name and whose fields stand before are known
pub record Knows (ks : Known) (pre : List Stand) (around : List ℕ) (part : List Stand) : Type 0 where
  pub known : (s : ℕ) → holds around s ≡ true → has_field s pre ≡ true → named s part ≡ true → ks s ≡ true
  pub fresh : Fresh ks pre

number_field : (align : ℕ) (form : Form) → is_number form ≡ true → form_fine form ≡ true → FineField (node align form)
number_field align (num leaf) n f = f
number_field align (octets sizing) n f = cc
number_field align (bits sizing) n f = cc
number_field align (text leaf) n f = cc
number_field align (seq _ home) n f = cc
number_field align (list sizing g) n f = cc
number_field align (choice cases rule) n f = cc
number_field align (contained sizing g) n f = cc

module _ (root : Grammar) (tree : IsTree root) (sound : (f : CheckFault) → Undecodable root f → ⊥) where
  abbrev pub numbers : same_numbers (slots_of (nodes_of root)) (range_with_len 0 (length (slots_of (nodes_of root)))) ≡ true
  numbers = tree_numbered root tree

  abbrev pub rules : list_all (λ at. all_true (stand_rules (nodes_of root) at)) (nodes_of root) ≡ true
  rules = tree_rules root tree

  abbrev pub At : List Stand → Role → List ℕ → List ℕ → Grammar → List Stand → Type 0
  At = Place (nodes_of root) numbers rules

  abbrev pub FieldsAt : List Stand → List ℕ → List ℕ → ℕ → Fields → List Stand → Type 0
  FieldsAt = FieldsPlace (nodes_of root) numbers rules

  abbrev pub CasesAt : List Stand → ChoiceRule → List ℕ → List ℕ → ℕ → Alternatives → List Stand → Type 0
  CasesAt = CasesPlace (nodes_of root) numbers rules

  -- what is at home inside is new, and isn't at home outside
  pub not_home : (pre : List Stand) (role : Role) (path around : List ℕ) (align : ℕ) (fields : Fields) (home : List ℕ) (post : List Stand) → At pre role path around (node align (seq fields home)) post → (s : ℕ) → has_field s pre ≡ true → holds home s ≡ false
  not_home pre role path around align fields home post p s h = false_from_ne_true (holds home s) (λ q.
      let here = here_at role path around align (seq fields home) in
      let inner = field_nodes path (home ++ around) 0 fields in
      let fine = place_fine (nodes_of root) numbers rules pre role path around align (seq fields home) post p in
      twice (nodes_of root) numbers rules pre ((here ∷ inner) ++ post) p.whole s h (any_left (field_is s) (here ∷ inner) post (or_right (field_is s here) (has_field s inner) (near_has fields path (home ++ around) 0 s (home_near (nodes_of root) numbers rules here fields home fine.home s q)))))

  pub outer_home : (pre : List Stand) (role : Role) (path around : List ℕ) (align : ℕ) (fields : Fields) (home : List ℕ) (post : List Stand) → At pre role path around (node align (seq fields home)) post → (s : ℕ) → holds around s ≡ true → holds home s ≡ false
  outer_home pre role path around align fields home post p s o = false_from_ne_true (holds home s) (λ q.
      let here = here_at role path around align (seq fields home) in
      let inner = field_nodes path (home ++ around) 0 fields in
      let fine = place_fine (nodes_of root) numbers rules pre role path around align (seq fields home) post p in
      let one = (and_parts (encloses (nodes_of root) s here) (not (list_any (encloses (nodes_of root) s) inner)) (home_is (nodes_of root) numbers rules here fields home fine.home s q)).0 in
      let two = (or_parts (encloses (nodes_of root) s here) (list_any (encloses (nodes_of root) s) inner) (p.alone s o)).0 in
      cc)

  mutual
    pub keeps : (g : Grammar) (pre : List Stand) (role : Role) (path around : List ℕ) (post : List Stand) → At pre role path around g post → (ks : Known) → Fresh ks pre → (s : ℕ) → ks s ≡ true → after ks g s ≡ true
    keeps (node align (seq fields home)) pre role path around post p ks fresh s h =
        let here = here_at role path around align (seq fields home) in
        and_from (fields_after ks fields s) (not (holds home s))
        (fields_keeps fields (pre ++ here ∷ []) path (home ++ around) 0 post (to_fields (nodes_of root) numbers rules pre role path around align fields home post p) ks (fresh_more ks pre (here ∷ []) fresh) s h)
        (not_true (holds home s) (not_home pre role path around align fields home post p s (fresh s h)))
    keeps (node align (num leaf)) pre role path around post p ks fresh s h = h
    keeps (node align (octets sizing)) pre role path around post p ks fresh s h = h
    keeps (node align (bits sizing)) pre role path around post p ks fresh s h = h
    keeps (node align (text leaf)) pre role path around post p ks fresh s h = h
    keeps (node align (list sizing g)) pre role path around post p ks fresh s h = h
    keeps (node align (choice cases rule)) pre role path around post p ks fresh s h = h
    keeps (node align (contained sizing g)) pre role path around post p ks fresh s h = h

    fields_keeps : (fs : Fields) (pre : List Stand) (path around : List ℕ) (k : ℕ) (post : List Stand) → FieldsAt pre path around k fs post → (ks : Known) → Fresh ks pre → (s : ℕ) → ks s ≡ true → fields_after ks fs s ≡ true
    fields_keeps no_fields pre path around k post p ks fresh s h = h
    fields_keeps (component name g Always default own fs) pre path around k post p ks fresh s h =
        fields_keeps fs (pre ++ nodes (component_role name Always default own) (path ++ k ∷ []) around g) path around (suc k) post (next_component (nodes_of root) numbers rules pre path around k name g Always default own fs post p)
        (with_own own (after ks g)) (fresh_own name g path around k default own ks pre fresh) s
        (own_second own (after ks g) s (keeps g pre (component_role name Always default own) (path ++ k ∷ []) around (field_nodes path around (suc k) fs ++ post) (first_component (nodes_of root) numbers rules pre path around k name g Always default own fs post p) ks fresh s h))
    fields_keeps (component name g Bit default own fs) pre path around k post p ks fresh s h =
        fields_keeps fs (pre ++ nodes (component_role name Bit default own) (path ++ k ∷ []) around g) path around (suc k) post (next_component (nodes_of root) numbers rules pre path around k name g Bit default own fs post p)
        ks (fresh_more ks pre (nodes (component_role name Bit default own) (path ++ k ∷ []) around g) fresh) s h
    fields_keeps (component name g (When ts) default own fs) pre path around k post p ks fresh s h =
        fields_keeps fs (pre ++ nodes (component_role name (When ts) default own) (path ++ k ∷ []) around g) path around (suc k) post (next_component (nodes_of root) numbers rules pre path around k name g (When ts) default own fs post p)
        ks (fresh_more ks pre (nodes (component_role name (When ts) default own) (path ++ k ∷ []) around g) fresh) s h
    fields_keeps (inserted name g (Some t) fs) pre path around k post p ks fresh s h =
        fields_keeps fs (pre ++ nodes (an_inserted name (Some t)) (path ++ k ∷ []) around g) path around (suc k) post (next_inserted (nodes_of root) numbers rules pre path around k name g (Some t) fs post p)
        (with_slot t ks) (fresh_slot name g path around k t ks pre fresh) s (or_right (nat_eq t s) (ks s) h)
    fields_keeps (inserted name g None fs) pre path around k post p ks fresh s h =
        fields_keeps fs (pre ++ nodes (an_inserted name None) (path ++ k ∷ []) around g) path around (suc k) post (next_inserted (nodes_of root) numbers rules pre path around k name g None fs post p)
        ks (fresh_more ks pre (nodes (an_inserted name None) (path ++ k ∷ []) around g) fresh) s h

  -- a component that says a slot is always there
  pub own_always : (pre : List Stand) (path around : List ℕ) (k : ℕ) (name : List ℕ) (g : Grammar) (presence : Presence) (default : Option (List ℕ)) (own : Option ℕ) (fs : Fields) (post : List Stand) → FieldsAt pre path around k (component name g presence default own fs) post
      → (s : ℕ) → is_slot s own ≡ true → presence ≡ Always
  own_always pre path around k name (node align form) presence default own fs post p s q =
      let fine = place_fine (nodes_of root) numbers rules pre (component_role name presence default own) (path ++ k ∷ []) around align form (field_nodes path around (suc k) fs ++ post) (first_component (nodes_of root) numbers rules pre path around k name (node align form) presence default own fs post p) in
      (own_number own presence form s (and_parts (presence_fine presence) (own_fine own presence form) fine.role).1 q).0

  -- an open slot whose field stands near in a node is known behind it
  mutual
    pub near_after : (g : Grammar) (pre : List Stand) (role : Role) (path around : List ℕ) (post : List Stand) → At pre role path around g post → (ks : Known) → Fresh ks pre → (s : ℕ) → holds around s ≡ true → holds (near_node g) s ≡ true → after ks g s ≡ true
    near_after (node align (seq fields home)) pre role path around post p ks fresh s o h =
        let here = here_at role path around align (seq fields home) in
        and_from (fields_after ks fields s) (not (holds home s))
        (fields_near_after fields (pre ++ here ∷ []) path (home ++ around) 0 post (to_fields (nodes_of root) numbers rules pre role path around align fields home post p) ks (fresh_more ks pre (here ∷ []) fresh) s (holds_right home around s o) h)
        (not_true (holds home s) (outer_home pre role path around align fields home post p s o))
    near_after (node align (num leaf)) pre role path around post p ks fresh s o h = cc
    near_after (node align (octets sizing)) pre role path around post p ks fresh s o h = cc
    near_after (node align (bits sizing)) pre role path around post p ks fresh s o h = cc
    near_after (node align (text leaf)) pre role path around post p ks fresh s o h = cc
    near_after (node align (list sizing g)) pre role path around post p ks fresh s o h = cc
    near_after (node align (choice cases rule)) pre role path around post p ks fresh s o h = cc
    near_after (node align (contained sizing g)) pre role path around post p ks fresh s o h = cc

    pub fields_near_after : (fs : Fields) (pre : List Stand) (path around : List ℕ) (k : ℕ) (post : List Stand) → FieldsAt pre path around k fs post → (ks : Known) → Fresh ks pre → (s : ℕ) → holds around s ≡ true → holds (near fs) s ≡ true → fields_after ks fs s ≡ true
    fields_near_after no_fields pre path around k post p ks fresh s o h = cc
    fields_near_after (component name g Always default own fs) pre path around k post p ks fresh s o h =
        let next = next_component (nodes_of root) numbers rules pre path around k name g Always default own fs post p in
        let more = fresh_own name g path around k default own ks pre fresh in
        let behind = with_own own (after ks g) in
        near_parts {F = fields_after behind fs s ≡ true} own Always (near_node g) (near fs) s h
        (λ q. fields_keeps fs (pre ++ nodes (component_role name Always default own) (path ++ k ∷ []) around g) path around (suc k) post next behind more s (own_first own (after ks g) s q))
        (λ q. fields_keeps fs (pre ++ nodes (component_role name Always default own) (path ++ k ∷ []) around g) path around (suc k) post next behind more s
        (own_second own (after ks g) s (near_after g pre (component_role name Always default own) (path ++ k ∷ []) around (field_nodes path around (suc k) fs ++ post) (first_component (nodes_of root) numbers rules pre path around k name g Always default own fs post p) ks fresh s o q)))
        (λ q. fields_near_after fs (pre ++ nodes (component_role name Always default own) (path ++ k ∷ []) around g) path around (suc k) post next behind more s o q)
    fields_near_after (component name g Bit default own fs) pre path around k post p ks fresh s o h =
        near_parts {F = fields_after ks fs s ≡ true} own Bit (near_node g) (near fs) s h
        (λ q. (let never = own_always pre path around k name g Bit default own fs post p s q in cc))
        (λ q. cc)
        (λ q. fields_near_after fs (pre ++ nodes (component_role name Bit default own) (path ++ k ∷ []) around g) path around (suc k) post (next_component (nodes_of root) numbers rules pre path around k name g Bit default own fs post p)
        ks (fresh_more ks pre (nodes (component_role name Bit default own) (path ++ k ∷ []) around g) fresh) s o q)
    fields_near_after (component name g (When ts) default own fs) pre path around k post p ks fresh s o h =
        near_parts {F = fields_after ks fs s ≡ true} own (When ts) (near_node g) (near fs) s h
        (λ q. (let never = own_always pre path around k name g (When ts) default own fs post p s q in cc))
        (λ q. cc)
        (λ q. fields_near_after fs (pre ++ nodes (component_role name (When ts) default own) (path ++ k ∷ []) around g) path around (suc k) post (next_component (nodes_of root) numbers rules pre path around k name g (When ts) default own fs post p)
        ks (fresh_more ks pre (nodes (component_role name (When ts) default own) (path ++ k ∷ []) around g) fresh) s o q)
    fields_near_after (inserted name g (Some t) fs) pre path around k post p ks fresh s o h =
        let next = next_inserted (nodes_of root) numbers rules pre path around k name g (Some t) fs post p in
        let more = fresh_slot name g path around k t ks pre fresh in
        either {F = fields_after (with_slot t ks) fs s ≡ true} (nat_eq t s) (holds (near fs) s) h
        (λ q. fields_keeps fs (pre ++ nodes (an_inserted name (Some t)) (path ++ k ∷ []) around g) path around (suc k) post next (with_slot t ks) more s (or_left (nat_eq t s) (ks s) q))
        (λ q. fields_near_after fs (pre ++ nodes (an_inserted name (Some t)) (path ++ k ∷ []) around g) path around (suc k) post next (with_slot t ks) more s o q)
    fields_near_after (inserted name g None fs) pre path around k post p ks fresh s o h =
        fields_near_after fs (pre ++ nodes (an_inserted name None) (path ++ k ∷ []) around g) path around (suc k) post (next_inserted (nodes_of root) numbers rules pre path around k name g None fs post p)
        ks (fresh_more ks pre (nodes (an_inserted name None) (path ++ k ∷ []) around g) fresh) s o h

  -- a use stands behind the field of its slot
  seen : (a c : List Stand) (here : Stand) → nodes_of root ≡ a ++ (here ∷ c) → (s : ℕ) → used s here ≡ true → has_field s (nodes_of root) ≡ true → has_field s a ≡ true
  seen a c here e s u h = any_either {F = has_field s a ≡ true} (field_is s) a (here ∷ c) (ap (has_field s) (sym e) ∙ h) (λ q. q)
      (λ q. either {F = has_field s a ≡ true} (field_is s here) (has_field s c) q
      (λ r. absurd (no_uses here.role here.path here.around here.align here.form s s (fine_at (nodes_of root) numbers rules a c here e).role r u))
      (λ r.
      let field = find_field c s r in
      let named_use = find_use (uses here) s u in
      let later = get_later a here field.1 c field.0 field.2 in
      absurd (sound (forward here.path field.1.path) (record {
        node = length a;
        use_here = named_use.0;
        holds = record {
          named = named_use.1;
          field_at = later.0;
          use_is = record {
            at = here;
            field = field.1;
            is_at = ap (λ l. slice_get l (length a)) e ∙ get_here a here c;
            is_use = named_use.2;
            is_field = ap (λ l. slice_get l later.0) e ∙ later.2;
            slot = field.3 ∙ ap Some (sym named_use.3);
            user_path = refl;
            det_path = refl;
          };
          behind = later.1;
        };
      }))))

  -- so the slot of a use is known
  pub use_known : (pre : List Stand) (role : Role) (path around : List ℕ) (align : ℕ) (form : Form) (post : List Stand) → At pre role path around (node align form) post → (ks : Known) → Knows ks pre around (nodes role path around (node align form)) → (s : ℕ) → used s (here_at role path around align form) ≡ true → ks s ≡ true
  use_known pre role path around align form post p ks knows s u =
      let here = here_at role path around align form in
      let fine = place_fine (nodes_of root) numbers rules pre role path around align form post p in
      let opened = list_all-holds (holds around) (map slot_of (uses here)) s fine.uses u in
      knows.known s opened (seen pre (form_nodes path around form ++ post) here p.whole s u (p.open_slots s opened)) (or_left (used s here) (named s (form_nodes path around form)) u)

  pub own_known : (pre : List Stand) (role : Role) (path around : List ℕ) (g : Grammar) (post : List Stand) → At pre role path around g post → (ks : Known) → Knows ks pre around (nodes role path around g) → (s : ℕ) → holds (map slot_of (map condition (own_tests role))) s ≡ true → ks s ≡ true
  own_known pre role path around (node align form) post p ks knows s h = use_known pre role path around align form post p ks knows s (used_left (map condition (own_tests role)) (form_uses form) s h)

  pub form_known : (pre : List Stand) (role : Role) (path around : List ℕ) (align : ℕ) (form : Form) (post : List Stand) → At pre role path around (node align form) post → (ks : Known) → Knows ks pre around (nodes role path around (node align form)) → (s : ℕ) → holds (map slot_of (form_uses form)) s ≡ true → ks s ≡ true
  form_known pre role path around align form post p ks knows s h = use_known pre role path around align form post p ks knows s (used_right (map condition (own_tests role)) (form_uses form) s h)

  -- What is known inside a node that is no field of a slot.

  pub step_in : (pre : List Stand) (role : Role) (path around : List ℕ) (align : ℕ) (form : Form) (post : List Stand) → At pre role path around (node align form) post → is_number form ≡ false → (ks : Known) → Knows ks pre around (nodes role path around (node align form)) → Knows ks (pre ++ here_at role path around align form ∷ []) around (form_nodes path around form)
  step_in pre role path around align form post p n ks knows =
      let here = here_at role path around align form in
      let fine = place_fine (nodes_of root) numbers rules pre role path around align form post p in
      record {
        known = λ s o h m. any_either {F = ks s ≡ true} (field_is s) pre (here ∷ []) h
            (λ q. knows.known s o q (or_right (used s here) (named s (form_nodes path around form)) m))
            (λ q. let none = no_field role form s fine.role n in cc);
        fresh = fresh_more ks pre (here ∷ []) knows.fresh;
      }

  pub fields_in : (pre : List Stand) (role : Role) (path around : List ℕ) (align : ℕ) (fields : Fields) (home : List ℕ) (post : List Stand) → At pre role path around (node align (seq fields home)) post → (ks : Known) → Knows ks pre around (nodes role path around (node align (seq fields home)))
      → Knows ks (pre ++ here_at role path around align (seq fields home) ∷ []) (home ++ around) (field_nodes path (home ++ around) 0 fields)
  fields_in pre role path around align fields home post p ks knows =
      let here = here_at role path around align (seq fields home) in
      let inner = field_nodes path (home ++ around) 0 fields in
      let fine = place_fine (nodes_of root) numbers rules pre role path around align (seq fields home) post p in
      let outer = step_in pre role path around align (seq fields home) post p refl ks knows in
      let next = to_fields (nodes_of root) numbers rules pre role path around align fields home post p in
      record {
        known = λ s o h m. holds_either {F = ks s ≡ true} home around s o
            (λ q. absurd (twice (nodes_of root) numbers rules (pre ++ here ∷ []) (inner ++ post) next.whole s h (any_left (field_is s) inner post (near_has fields path (home ++ around) 0 s (home_near (nodes_of root) numbers rules here fields home fine.home s q)))))
            (λ q. outer.known s q h m);
        fresh = outer.fresh;
      }

  pub knows_left : (ks : Known) (pre : List Stand) (around : List ℕ) (a b : List Stand) → Knows ks pre around (a ++ b) → Knows ks pre around a
  knows_left ks pre around a b k = record { known = λ s o h m. k.known s o h (any_left (used s) a b m); fresh = k.fresh }

  -- behind a node in which no open slot has its field
  pub knows_right : (ks : Known) (pre : List Stand) (around : List ℕ) (a b : List Stand) → ((s : ℕ) → holds around s ≡ true → has_field s a ≡ true → ⊥) → Knows ks pre around (a ++ b) → Knows ks (pre ++ a) around b
  knows_right ks pre around a b none k = record {
    known = λ s o h m. any_either {F = ks s ≡ true} (field_is s) pre a h (λ q. k.known s o q (any_right (used s) a b m)) (λ q. absurd (none s o q));
    fresh = fresh_more ks pre a k.fresh;
  }

  -- no open slot has its field in a component that may be absent
  pub optional_none : (pre : List Stand) (path around : List ℕ) (k : ℕ) (name : List ℕ) (g : Grammar) (presence : Presence) (default : Option (List ℕ)) (own : Option ℕ) (fs : Fields) (post : List Stand) → FieldsAt pre path around k (component name g presence default own fs) post
      → (presence ≡ Always → ⊥) → (s : ℕ) → holds around s ≡ true → has_field s (nodes (component_role name presence default own) (path ++ k ∷ []) around g) ≡ true → ⊥
  optional_none pre path around k name g presence default own fs post p never s o h =
      let a = nodes (component_role name presence default own) (path ++ k ∷ []) around g in
      let b = field_nodes path around (suc k) fs in
      near_parts {F = ⊥} own presence (near_node g) (near fs) s (p.close s o (any_left (field_is s) a b h))
      (λ q. never (own_always pre path around k name g presence default own fs post p s q))
      (λ q. never (near_if_when presence (near_node g) s q).0)
      (λ q. parts_apart (nodes_of root) numbers rules pre a b post p.whole s h (near_has fs path around (suc k) s q))

  -- an inserted node is a number, and has the field of its slot alone
  pub inserted_is : (pre : List Stand) (path around : List ℕ) (k : ℕ) (name : List ℕ) (g : Grammar) (slot : Option ℕ) (fs : Fields) (post : List Stand) → FieldsAt pre path around k (inserted name g slot fs) post → FineField g
  inserted_is pre path around k name (node align form) slot fs post p =
      let fine = place_fine (nodes_of root) numbers rules pre (an_inserted name slot) (path ++ k ∷ []) around align form (field_nodes path around (suc k) fs ++ post) (first_inserted (nodes_of root) numbers rules pre path around k name (node align form) slot fs post p) in
      number_field align form (inserted_number slot form fine.role) fine.form

  pub only_slot : (g : Grammar) → FineField g → (name path around : List ℕ) (slot : Option ℕ) (s : ℕ) → has_field s (nodes (an_inserted name slot) path around g) ≡ true → is_slot s slot ≡ true
  only_slot (node align (num leaf)) f name path around slot s h = either {F = is_slot s slot ≡ true} (is_slot s slot) false h (λ q. q) (λ q. cc)
  only_slot (node align _) f name path around slot s h = absurd f

  pub component_behind : (pre : List Stand) (path around : List ℕ) (k : ℕ) (name : List ℕ) (g : Grammar) (presence : Presence) (default : Option (List ℕ)) (own : Option ℕ) (fs : Fields) (post : List Stand) → FieldsAt pre path around k (component name g presence default own fs) post
      → (ks : Known) → Knows ks pre around (field_nodes path around k (component name g presence default own fs)) → Knows (choose_known presence ks (with_own own (after ks g))) (pre ++ nodes (component_role name presence default own) (path ++ k ∷ []) around g) around (field_nodes path around (suc k) fs)
  component_behind pre path around k name g Always default own fs post p ks knows =
      let a = nodes (component_role name Always default own) (path ++ k ∷ []) around g in
      let b = field_nodes path around (suc k) fs in
      let first = first_component (nodes_of root) numbers rules pre path around k name g Always default own fs post p in
      let last = field_nodes path around (suc k) fs ++ post in
      record {
        known = λ s o h m. any_either {F = with_own own (after ks g) s ≡ true} (field_is s) pre a h
            (λ q. own_second own (after ks g) s (keeps g pre (component_role name Always default own) (path ++ k ∷ []) around last first ks knows.fresh s (knows.known s o q (any_right (used s) a b m))))
            (λ q. if_truth {F = with_own own (after ks g) s ≡ true} (is_slot s own) (λ e. own_first own (after ks g) s e)
            (λ e. own_second own (after ks g) s (near_after g pre (component_role name Always default own) (path ++ k ∷ []) around last first ks knows.fresh s o (first.close s o q e))));
        fresh = fresh_own name g path around k default own ks pre knows.fresh;
      }
  component_behind pre path around k name g Bit default own fs post p ks knows =
      knows_right ks pre around (nodes (component_role name Bit default own) (path ++ k ∷ []) around g) (field_nodes path around (suc k) fs) (optional_none pre path around k name g Bit default own fs post p (λ e. cc)) knows
  component_behind pre path around k name g (When ts) default own fs post p ks knows =
      knows_right ks pre around (nodes (component_role name (When ts) default own) (path ++ k ∷ []) around g) (field_nodes path around (suc k) fs) (optional_none pre path around k name g (When ts) default own fs post p (λ e. cc)) knows

  pub inserted_behind : (pre : List Stand) (path around : List ℕ) (k : ℕ) (name : List ℕ) (g : Grammar) (t : ℕ) (fs : Fields) (post : List Stand) → FieldsAt pre path around k (inserted name g (Some t) fs) post
      → (ks : Known) → Knows ks pre around (field_nodes path around k (inserted name g (Some t) fs)) → Knows (with_slot t ks) (pre ++ nodes (an_inserted name (Some t)) (path ++ k ∷ []) around g) around (field_nodes path around (suc k) fs)
  inserted_behind pre path around k name g t fs post p ks knows =
      let a = nodes (an_inserted name (Some t)) (path ++ k ∷ []) around g in
      let b = field_nodes path around (suc k) fs in
      record {
        known = λ s o h m. any_either {F = with_slot t ks s ≡ true} (field_is s) pre a h
            (λ q. or_right (nat_eq t s) (ks s) (knows.known s o q (any_right (used s) a b m)))
            (λ q. or_left (nat_eq t s) (ks s) (only_slot g (inserted_is pre path around k name g (Some t) fs post p) name (path ++ k ∷ []) around (Some t) s q));
        fresh = fresh_slot name g path around k t ks pre knows.fresh;
      }
