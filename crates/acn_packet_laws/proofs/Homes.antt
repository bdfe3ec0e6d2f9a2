-- Each slot of an accepted tree is at home round its field.
use Rattle.std.proofs.Common.{◌≡◌, ℕ, suc, ◌+◌, ◌≤◌, Bool, true, false, not, List, [], ◌∷◌, ◌++◌, map, refl, ap, ◌∙◌, arith, inl, inr, ◌⊎◌, nat_eq}
use Rattle.std.proofs.lemmas.Bool.{and_from, or_left, or_right, and_parts, eqb-true}
use Rattle.std.specs.Prelude.{cond, filter, count_by}
use Rattle.std.specs.List.{list_any, list_all, flat_map}
use Rattle.std.proofs.lemmas.List.Sums.{sum_by-append, sum_by-cons}
use Rattle.acn_grammar.specs.Check.{CheckFault, unused, Undecodable}
use Rattle.acn_grammar.specs.Grammar.{Grammar, Form, Fields, Alternatives, node, num, octets, bits, text, seq, list, choice, contained, no_fields, component, inserted, no_alternatives, alternative}
use Rattle.acn_grammar.specs.Tree.{IsTree, holds, same_numbers, slots_of, is_slot, is_about, is_seq, encloses, is_home, near}
use Rattle.acn_grammar.specs.Walk.{Stand, Role, component_role, an_inserted, alternative_role, an_element, a_content, root_node, nodes, nodes_of, form_nodes, field_nodes, alternative_nodes, slot_here, Use, slot_of, uses, inside}
use Rattle.acn_grammar.specs.declared.node.ChoiceRule.{ChoiceRule}
use Rattle.acn_packet_laws.proofs.Placed.{any_left, any_right, any_either, holds_left, holds_right, holds_either, slots-field, list_all-holds, field_is, has_field, here_at, home_is, place_fine, to_fields, to_one, to_cases, first_component, next_component, first_inserted, next_inserted, first_case, next_case, root_place, is_number}
use Rattle.acn_packet_laws.proofs.Scoping.{At, FieldsAt, CasesAt, numbers, rules, used, named, not_true, find_field}
use Rattle.acn_grammar.proofs.Characters.{same_name-is}
use Rattle.acn_grammar.proofs.WholeTests.{either}
use Rattle.acn_grammar.proofs.SlotLists.{contains_holds}

pub out : {A B F : Type 0} → A ⊎ B → (A → F) → (B → F) → F
out (inl a) f g = f a
out (inr b) f g = g b

pub truth : {F : Type 0} (b : Bool) → (b ≡ true → F) → (b ≡ false → F) → F
truth true f g = f refl
truth false f g = g refl

cond_first : (t : Bool) (x s : ℕ) (rest : List ℕ) → t ≡ true → nat_eq x s ≡ true → holds (cond t (x ∷ rest) rest) s ≡ true
cond_first true x s rest h q = or_left (nat_eq x s) (holds rest s) q
cond_first false x s rest h q = cc

cond_rest : (t : Bool) (x s : ℕ) (rest : List ℕ) → holds rest s ≡ true → holds (cond t (x ∷ rest) rest) s ≡ true
cond_rest true x s rest h = or_right (nat_eq x s) (holds rest s) h
cond_rest false x s rest h = h

filter_holds : (p : ℕ → Bool) (xs : List ℕ) (s : ℕ) → p s ≡ true → holds xs s ≡ true → holds (filter p xs) s ≡ true
filter_holds p [] s k h = cc
filter_holds p (x ∷ xs) s k h = either {F = holds (filter p (x ∷ xs)) s ≡ true} (nat_eq x s) (holds xs s) h
    (λ q. cond_first (p x) x s (filter p xs) (ap p (eqb-true x s q) ∙ k) q)
    (λ q. cond_rest (p x) x s (filter p xs) (filter_holds p xs s k q))

-- Uses in a list of nodes.

holds_uses : {F : Type 0} (us vs : List Use) (s : ℕ) → holds (map slot_of (us ++ vs)) s ≡ true → (holds (map slot_of us) s ≡ true → F) → (holds (map slot_of vs) s ≡ true → F) → F
holds_uses [] vs s h f g = g h
holds_uses {F} (u ∷ us) vs s h f g = either {F = F} (nat_eq (slot_of u) s) (holds (map slot_of (us ++ vs)) s) h
    (λ q. f (or_left (nat_eq (slot_of u) s) (holds (map slot_of us) s) q))
    (λ q. holds_uses {F = F} us vs s q (λ r. f (or_right (nat_eq (slot_of u) s) (holds (map slot_of us) s) r)) g)

uses_named : (l : List Stand) (s : ℕ) → holds (map slot_of (flat_map uses l)) s ≡ true → named s l ≡ true
uses_named [] s h = cc
uses_named (x ∷ l) s h = holds_uses {F = named s (x ∷ l) ≡ true} (uses x) (flat_map uses l) s h
    (λ q. or_left (used s x) (named s l) q)
    (λ q. or_right (used s x) (named s l) (uses_named l s q))

-- Counts of nodes that are about a slot.

one_if : (b : Bool) → b ≡ true → 1 ≤ cond b 1 0
one_if true h = omega arith
one_if false h = cc

any_counts : (p q : Stand → Bool) → ((x : Stand) → q x ≡ true → p x ≡ true) → (xs : List Stand) → list_any q xs ≡ true → 1 ≤ count_by p xs
any_counts p q f [] h = cc
any_counts p q f (x ∷ xs) h =
    let c = sum_by-cons (λ y. cond (p y) 1 0) x xs in
    either {F = 1 ≤ count_by p (x ∷ xs)} (q x) (list_any q xs) h
    (λ e. let one = one_if (p x) (f x e) in omega arith)
    (λ e. let r = any_counts p q f xs e in omega arith)

field_about : (s : ℕ) (l : List Stand) → has_field s l ≡ true → 1 ≤ count_by (is_about s) l
field_about s l h = any_counts (is_about s) (field_is s) (λ x e. or_left (is_slot s (slot_here x.role)) (list_any (nat_eq s) (map slot_of (uses x))) e) l h

-- all that is about the slot is there where a node encloses it
module _ (all : List Stand) (s : ℕ) where
  whole_parts : (a b : List Stand) → (list_any (encloses all s) a ≡ true → count_by (is_about s) all ≤ count_by (is_about s) a) → (list_any (encloses all s) b ≡ true → count_by (is_about s) all ≤ count_by (is_about s) b) → list_any (encloses all s) (a ++ b) ≡ true → count_by (is_about s) all ≤ count_by (is_about s) (a ++ b)
  whole_parts a b one rest h =
      let c = sum_by-append (λ y. cond (is_about s y) 1 0) a b in
      any_either {F = count_by (is_about s) all ≤ count_by (is_about s) (a ++ b)} (encloses all s) a b h
      (λ q. let r = one q in omega arith)
      (λ q. let r = rest q in omega arith)

  mutual
    pub whole_node : (g : Grammar) (role : Role) (path around : List ℕ) → list_any (encloses all s) (nodes role path around g) ≡ true → count_by (is_about s) all ≤ count_by (is_about s) (nodes role path around g)
    whole_node (node align form) role path around h =
        let here = here_at role path around align form in
        let c = sum_by-cons (λ y. cond (is_about s y) 1 0) here (form_nodes path around form) in
        either {F = count_by (is_about s) all ≤ count_by (is_about s) (nodes role path around (node align form))} (encloses all s here) (list_any (encloses all s) (form_nodes path around form)) h
        (λ q.
        let e : count_by (is_about s) (form_nodes path around form) ≡ count_by (is_about s) all = eqb-true (count_by (is_about s) (form_nodes path around form)) (count_by (is_about s) all) (and_parts (is_seq form) (nat_eq (count_by (is_about s) (form_nodes path around form)) (count_by (is_about s) all)) q).1 in
        omega arith)
        (λ q. let r = whole_form form path around q in omega arith)

    whole_form : (form : Form) (path around : List ℕ) → list_any (encloses all s) (form_nodes path around form) ≡ true → count_by (is_about s) all ≤ count_by (is_about s) (form_nodes path around form)
    whole_form (num leaf) path around h = cc
    whole_form (octets sizing) path around h = cc
    whole_form (bits sizing) path around h = cc
    whole_form (text leaf) path around h = cc
    whole_form (seq fields home) path around h = whole_fields fields path (home ++ around) 0 h
    whole_form (list sizing g) path around h = whole_node g an_element (path ++ 0 ∷ []) around h
    whole_form (choice cases rule) path around h = whole_cases cases rule path around 0 h
    whole_form (contained sizing g) path around h = whole_node g a_content (path ++ 0 ∷ []) around h

    pub whole_fields : (fs : Fields) (path around : List ℕ) (k : ℕ) → list_any (encloses all s) (field_nodes path around k fs) ≡ true → count_by (is_about s) all ≤ count_by (is_about s) (field_nodes path around k fs)
    whole_fields no_fields path around k h = cc
    whole_fields (component name g presence default own fs) path around k h = whole_parts (nodes (component_role name presence default own) (path ++ k ∷ []) around g) (field_nodes path around (suc k) fs) (whole_node g (component_role name presence default own) (path ++ k ∷ []) around) (whole_fields fs path around (suc k)) h
    whole_fields (inserted name g slot fs) path around k h = whole_parts (nodes (an_inserted name slot) (path ++ k ∷ []) around g) (field_nodes path around (suc k) fs) (whole_node g (an_inserted name slot) (path ++ k ∷ []) around) (whole_fields fs path around (suc k)) h

    pub whole_cases : (cases : Alternatives) (rule : ChoiceRule) (path around : List ℕ) (k : ℕ) → list_any (encloses all s) (alternative_nodes rule path around k cases) ≡ true → count_by (is_about s) all ≤ count_by (is_about s) (alternative_nodes rule path around k cases)
    whole_cases no_alternatives rule path around k h = cc
    whole_cases (alternative name g tests more) rule path around k h = whole_parts (nodes (alternative_role name tests rule) (path ++ k ∷ []) around g) (alternative_nodes rule path around (suc k) more) (whole_node g (alternative_role name tests rule) (path ++ k ∷ []) around) (whole_cases more rule path around (suc k)) h

module _ (root : Grammar) (tree : IsTree root) (sound : (f : CheckFault) → Undecodable root f → ⊥) where
  abbrev all : List Stand
  all = nodes_of root

  -- the slot is at home round the nodes, or in them
  abbrev pub IsHomed : List ℕ → List Stand → ℕ → Type 0
  IsHomed around part s = (holds around s ≡ true) ⊎ (list_any (encloses (nodes_of root) s) part ≡ true)

  -- each slot whose field stands here is
  abbrev pub Homed : List ℕ → List Stand → Type 0
  Homed around part = (s : ℕ) → has_field s part ≡ true → IsHomed around part s

  from_home : (pre : List Stand) (role : Role) (path around : List ℕ) (align : ℕ) (fields : Fields) (home : List ℕ) (post : List Stand) → At root tree sound pre role path around (node align (seq fields home)) post → (s : ℕ) → IsHomed (home ++ around) (field_nodes path (home ++ around) 0 fields) s → IsHomed around (nodes role path around (node align (seq fields home))) s
  from_home pre role path around align fields home post p s h =
      let here = here_at role path around align (seq fields home) in
      let inner = field_nodes path (home ++ around) 0 fields in
      let fine = place_fine (nodes_of root) (numbers root tree sound) (rules root tree sound) pre role path around align (seq fields home) post p in
      out {F = IsHomed around (nodes role path around (node align (seq fields home))) s} h
      (λ o. holds_either {F = IsHomed around (nodes role path around (node align (seq fields home))) s} home around s o
      (λ q. inr (or_left (encloses all s here) (list_any (encloses all s) inner) (and_parts (encloses all s here) (not (list_any (encloses all s) inner)) (home_is (nodes_of root) (numbers root tree sound) (rules root tree sound) here fields home fine.home s q)).0))
      (λ q. inl q))
      (λ q. inr (or_right (encloses all s here) (list_any (encloses all s) inner) q))

  deeper : (role : Role) (path around : List ℕ) (align : ℕ) (form : Form) (s : ℕ) → IsHomed around (form_nodes path around form) s → IsHomed around (nodes role path around (node align form)) s
  deeper role path around align form s h = out {F = IsHomed around (nodes role path around (node align form)) s} h (λ o. inl o) (λ q. inr (or_right (encloses all s (here_at role path around align form)) (list_any (encloses all s) (form_nodes path around form)) q))

  left_home : (around : List ℕ) (a b : List Stand) (s : ℕ) → IsHomed around a s → IsHomed around (a ++ b) s
  left_home around a b s h = out {F = IsHomed around (a ++ b) s} h (λ o. inl o) (λ q. inr (any_left (encloses all s) a b q))

  right_home : (around : List ℕ) (a b : List Stand) (s : ℕ) → IsHomed around b s → IsHomed around (a ++ b) s
  right_home around a b s h = out {F = IsHomed around (a ++ b) s} h (λ o. inl o) (λ q. inr (any_right (encloses all s) a b q))

  -- a slot that is used is at home round the use
  mutual
    home_of : (g : Grammar) (pre : List Stand) (role : Role) (path around : List ℕ) (post : List Stand) → At root tree sound pre role path around g post → (s : ℕ) → named s (nodes role path around g) ≡ true → IsHomed around (nodes role path around g) s
    home_of (node align form) pre role path around post p s h =
        let here = here_at role path around align form in
        let fine = place_fine (nodes_of root) (numbers root tree sound) (rules root tree sound) pre role path around align form post p in
        either {F = IsHomed around (nodes role path around (node align form)) s} (used s here) (named s (form_nodes path around form)) h
        (λ q. inl (list_all-holds (holds around) (map slot_of (uses here)) s fine.uses q))
        (λ q. home_in form pre role path around align post p s q)

    home_in : (form : Form) (pre : List Stand) (role : Role) (path around : List ℕ) (align : ℕ) (post : List Stand) → At root tree sound pre role path around (node align form) post → (s : ℕ) → named s (form_nodes path around form) ≡ true → IsHomed around (nodes role path around (node align form)) s
    home_in (num leaf) pre role path around align post p s h = cc
    home_in (octets sizing) pre role path around align post p s h = cc
    home_in (bits sizing) pre role path around align post p s h = cc
    home_in (text leaf) pre role path around align post p s h = cc
    home_in (seq fields home) pre role path around align post p s h =
        from_home pre role path around align fields home post p s (home_fields fields (pre ++ here_at role path around align (seq fields home) ∷ []) path (home ++ around) 0 post (to_fields (nodes_of root) (numbers root tree sound) (rules root tree sound) pre role path around align fields home post p) s h)
    home_in (list sizing g) pre role path around align post p s h =
        deeper role path around align (list sizing g) s (home_of g (pre ++ here_at role path around align (list sizing g) ∷ []) an_element (path ++ 0 ∷ []) around post (to_one (nodes_of root) (numbers root tree sound) (rules root tree sound) pre role path around align (list sizing g) post an_element (path ++ 0 ∷ []) g refl refl p) s h)
    home_in (contained sizing g) pre role path around align post p s h =
        deeper role path around align (contained sizing g) s (home_of g (pre ++ here_at role path around align (contained sizing g) ∷ []) a_content (path ++ 0 ∷ []) around post (to_one (nodes_of root) (numbers root tree sound) (rules root tree sound) pre role path around align (contained sizing g) post a_content (path ++ 0 ∷ []) g refl refl p) s h)
    home_in (choice cases rule) pre role path around align post p s h =
        deeper role path around align (choice cases rule) s (home_cases cases (pre ++ here_at role path around align (choice cases rule) ∷ []) rule path around 0 post (to_cases (nodes_of root) (numbers root tree sound) (rules root tree sound) pre role path around align cases rule post p) s h)

    home_fields : (fs : Fields) (pre : List Stand) (path around : List ℕ) (k : ℕ) (post : List Stand) → FieldsAt root tree sound pre path around k fs post → (s : ℕ) → named s (field_nodes path around k fs) ≡ true → IsHomed around (field_nodes path around k fs) s
    home_fields no_fields pre path around k post p s h = cc
    home_fields (component name g presence default own fs) pre path around k post p s h =
        let a = nodes (component_role name presence default own) (path ++ k ∷ []) around g in
        let b = field_nodes path around (suc k) fs in
        any_either {F = IsHomed around (field_nodes path around k (component name g presence default own fs)) s} (used s) (nodes (component_role name presence default own) (path ++ k ∷ []) around g) (field_nodes path around (suc k) fs) h
        (λ q. left_home around a b s (home_of g pre (component_role name presence default own) (path ++ k ∷ []) around (b ++ post) (first_component (nodes_of root) (numbers root tree sound) (rules root tree sound) pre path around k name g presence default own fs post p) s q))
        (λ q. right_home around a b s (home_fields fs (pre ++ a) path around (suc k) post (next_component (nodes_of root) (numbers root tree sound) (rules root tree sound) pre path around k name g presence default own fs post p) s q))
    home_fields (inserted name g slot fs) pre path around k post p s h =
        let a = nodes (an_inserted name slot) (path ++ k ∷ []) around g in
        let b = field_nodes path around (suc k) fs in
        any_either {F = IsHomed around (field_nodes path around k (inserted name g slot fs)) s} (used s) (nodes (an_inserted name slot) (path ++ k ∷ []) around g) (field_nodes path around (suc k) fs) h
        (λ q. left_home around a b s (home_of g pre (an_inserted name slot) (path ++ k ∷ []) around (b ++ post) (first_inserted (nodes_of root) (numbers root tree sound) (rules root tree sound) pre path around k name g slot fs post p) s q))
        (λ q. right_home around a b s (home_fields fs (pre ++ a) path around (suc k) post (next_inserted (nodes_of root) (numbers root tree sound) (rules root tree sound) pre path around k name g slot fs post p) s q))

    home_cases : (cases : Alternatives) (pre : List Stand) (rule : ChoiceRule) (path around : List ℕ) (k : ℕ) (post : List Stand) → CasesAt root tree sound pre rule path around k cases post → (s : ℕ) → named s (alternative_nodes rule path around k cases) ≡ true → IsHomed around (alternative_nodes rule path around k cases) s
    home_cases no_alternatives pre rule path around k post p s h = cc
    home_cases (alternative name g tests more) pre rule path around k post p s h =
        let a = nodes (alternative_role name tests rule) (path ++ k ∷ []) around g in
        let b = alternative_nodes rule path around (suc k) more in
        any_either {F = IsHomed around (alternative_nodes rule path around k (alternative name g tests more)) s} (used s) (nodes (alternative_role name tests rule) (path ++ k ∷ []) around g) (alternative_nodes rule path around (suc k) more) h
        (λ q. left_home around a b s (home_of g pre (alternative_role name tests rule) (path ++ k ∷ []) around (b ++ post) (first_case (nodes_of root) (numbers root tree sound) (rules root tree sound) pre rule path around k name g tests more post p) s q))
        (λ q. right_home around a b s (home_cases more (pre ++ a) rule path around (suc k) post (next_case (nodes_of root) (numbers root tree sound) (rules root tree sound) pre rule path around k name g tests more post p) s q))

  -- at the root: a slot without a use would be a fault
  pub root_homed : Homed [] (nodes_of root)
  root_homed s h = truth {F = IsHomed [] (nodes_of root) s} (named s (nodes_of root))
      (λ e. home_of root [] root_node [] [] [] (root_place root (numbers root tree sound) (rules root tree sound)) s e)
      (λ e.
      let f = find_field (nodes_of root) s h in
      absurd (sound (unused f.1.path) (record {
        node = f.0;
        use_here = 0;
        holds = record { at = f.1; is_at = f.2; path_is = refl; slot = s; slot_is = f.3; no_use = λ c. let n = uses_named (nodes_of root) s (contains_holds (map slot_of (flat_map uses (nodes_of root))) s c) in cc };
      })))

  -- into a SEQUENCE
  pub in_fields : (pre : List Stand) (role : Role) (path around : List ℕ) (align : ℕ) (fields : Fields) (home : List ℕ) (post : List Stand) → At root tree sound pre role path around (node align (seq fields home)) post
      → Homed around (nodes role path around (node align (seq fields home))) → Homed (home ++ around) (field_nodes path (home ++ around) 0 fields)
  in_fields pre role path around align fields home post p hm s h =
      let here = here_at role path around align (seq fields home) in
      let inner = field_nodes path (home ++ around) 0 fields in
      let fine = place_fine (nodes_of root) (numbers root tree sound) (rules root tree sound) pre role path around align (seq fields home) post p in
      let there = ap (has_field s) p.whole ∙ any_right (field_is s) pre ((here ∷ inner) ++ post) (any_left (field_is s) (here ∷ inner) post (or_right (field_is s here) (has_field s inner) h)) in
      out {F = IsHomed (home ++ around) (field_nodes path (home ++ around) 0 fields) s} (hm s (or_right (field_is s here) (has_field s inner) h))
      (λ o. inl (holds_right home around s o))
      (λ e. either {F = IsHomed (home ++ around) (field_nodes path (home ++ around) 0 fields) s} (encloses all s here) (list_any (encloses all s) inner) e
      (λ q. truth {F = IsHomed (home ++ around) (field_nodes path (home ++ around) 0 fields) s} (list_any (encloses all s) inner) (λ t. inr t) (λ t.
      let is = and_from (encloses all s here) (not (list_any (encloses all s) inner)) q (not_true (list_any (encloses all s) inner) t) in
      let same = same_name-is home (filter (λ r. is_home all r here) (slots_of all)) (and_parts (same_numbers home (filter (λ r. is_home all r here) (slots_of all))) (list_all (holds (near fields)) home) fine.home).0 in
      inl (holds_left home around s (ap (λ l. holds l s) same ∙ filter_holds (λ r. is_home all r here) (slots_of all) s is (slots-field s all ∙ there)))))
      (λ q. inr q))

  -- into another node
  pub in_one : (role : Role) (path around : List ℕ) (align : ℕ) (form : Form) → is_seq form ≡ false → Homed around (nodes role path around (node align form)) → Homed around (form_nodes path around form)
  in_one role path around align form n hm s h =
      let here = here_at role path around align form in
      out {F = IsHomed around (form_nodes path around form) s} (hm s (or_right (field_is s here) (has_field s (form_nodes path around form)) h))
      (λ o. inl o)
      (λ e. either {F = IsHomed around (form_nodes path around form) s} (encloses all s here) (list_any (encloses all s) (form_nodes path around form)) e
      (λ q. let f = (and_parts (is_seq form) (nat_eq (count_by (is_about s) (inside here)) (count_by (is_about s) all)) q).0 in cc)
      (λ q. inr q))

  total : (pre a b post : List Stand) → all ≡ pre ++ ((a ++ b) ++ post) → (s : ℕ) → count_by (is_about s) a + count_by (is_about s) b ≤ count_by (is_about s) all
  total pre a b post e s =
      let c = ap (count_by (is_about s)) e in
      let one = sum_by-append (λ y. cond (is_about s y) 1 0) pre ((a ++ b) ++ post) in
      let two = sum_by-append (λ y. cond (is_about s y) 1 0) (a ++ b) post in
      let three = sum_by-append (λ y. cond (is_about s y) 1 0) a b in
      omega arith

  -- into the first of two parts, and behind it
  pub in_left : (around : List ℕ) (pre a b post : List Stand) → all ≡ pre ++ ((a ++ b) ++ post) → ((s : ℕ) → list_any (encloses all s) b ≡ true → count_by (is_about s) all ≤ count_by (is_about s) b) → Homed around (a ++ b) → Homed around a
  in_left around pre a b post e whole hm s h =
      out {F = IsHomed around a s} (hm s (any_left (field_is s) a b h))
      (λ o. inl o)
      (λ q. any_either {F = IsHomed around a s} (encloses all s) a b q (λ r. inr r) (λ r.
      let t = total pre a b post e s in
      let w = whole s r in
      let one = field_about s a h in
      absurd (omega arith)))

  pub in_right : (around : List ℕ) (pre a b post : List Stand) → all ≡ pre ++ ((a ++ b) ++ post) → ((s : ℕ) → list_any (encloses all s) a ≡ true → count_by (is_about s) all ≤ count_by (is_about s) a) → Homed around (a ++ b) → Homed around b
  in_right around pre a b post e whole hm s h =
      out {F = IsHomed around b s} (hm s (any_right (field_is s) a b h))
      (λ o. inl o)
      (λ q. any_either {F = IsHomed around b s} (encloses all s) a b q (λ r.
      let t = total pre a b post e s in
      let w = whole s r in
      let one = field_about s b h in
      absurd (omega arith)) (λ r. inr r))

  -- a number that says a slot stands inside the slot's home
  pub slot_open : (role : Role) (path around : List ℕ) (align : ℕ) (form : Form) (s : ℕ) → is_number form ≡ true → is_slot s (slot_here role) ≡ true → Homed around (nodes role path around (node align form)) → holds around s ≡ true
  slot_open role path around align (num leaf) s n h hm =
      out {F = holds around s ≡ true} (hm s (or_left (is_slot s (slot_here role)) false h)) (λ o. o) (λ e. cc)
  slot_open role path around align (octets sizing) s n h hm = cc
  slot_open role path around align (bits sizing) s n h hm = cc
  slot_open role path around align (text leaf) s n h hm = cc
  slot_open role path around align (seq _ home) s n h hm = cc
  slot_open role path around align (list sizing g) s n h hm = cc
  slot_open role path around align (choice cases rule) s n h hm = cc
  slot_open role path around align (contained sizing g) s n h hm = cc
