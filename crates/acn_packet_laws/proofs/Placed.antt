-- Where a node stands in a tree, and what the rules of a tree say of the slots there.
use Rattle.std.proofs.Common.{◌≡◌, ℕ, zero, suc, ◌+◌, ◌≤◌, Bool, true, false, not, List, [], ◌∷◌, ◌++◌, length, Option, Some, None, refl, sym, ap, ◌∙◌, arith, append_assoc, append-nil, inl, inr, ◌⊎◌, nat_eq, nat_le, ◌&&◌, ◌||◌}
use Rattle.std.proofs.lemmas.Bool.{or_left, or_right}
use Rattle.std.specs.Prelude.{cond, filter}
use Rattle.std.specs.List.{list_any, list_all, range_with_len, cons_option}
use Rattle.acn_grammar.specs.Asks.{same_name}
use Rattle.acn_grammar.specs.Grammar.{Grammar, Form, Fields, Alternatives, node, num, octets, bits, text, seq, list, choice, contained, no_fields, component, inserted, alternative}
use Rattle.acn_grammar.specs.Tree.{IsTree, holds, same_numbers, slots_of, is_slot, is_home, encloses, near, near_node, near_form, near_if, slot_list, home_fine, role_fine, inserted_fine, own_fine, presence_fine, all_true, stand_rules}
use Rattle.acn_grammar.specs.Walk.{Stand, Role, component_role, a_component, an_inserted, alternative_role, an_alternative, an_element, a_content, root_node, nodes, nodes_of, form_nodes, field_nodes, alternative_nodes, slot_here}
use Rattle.acn_grammar.specs.declared.node.Presence.{Presence}
use Rattle.acn_grammar.specs.declared.node.Presence.TheVariants.{Always, Bit, When}
use Rattle.acn_grammar.specs.declared.node.ChoiceRule.{ChoiceRule}
use Rattle.acn_grammar.specs.declared.node.Test.{Test}
use Rattle.acn_grammar.proofs.TreeRules.{StandFine, stand_fine, list_all-append}
use Rattle.acn_grammar.proofs.Characters.{same_name-is}
use Rattle.std.proofs.lemmas.Bool.{and_parts, not-true, eqb-true}
use Rattle.acn_grammar.proofs.WholeTests.{either}
use Rattle.acn_grammar.proofs.SlotLists.{holds-append, or_assoc}

-- Tests on lists.

pub any-append : {A : Type 0} (p : A → Bool) (xs ys : List A) → list_any p (xs ++ ys) ≡ (list_any p xs || list_any p ys)
any-append p [] ys = refl
any-append p (x ∷ xs) ys = rw (any-append p xs ys) (or_assoc (p x) (list_any p xs) (list_any p ys))

pub any_left : {A : Type 0} (p : A → Bool) (xs ys : List A) → list_any p xs ≡ true → list_any p (xs ++ ys) ≡ true
any_left p xs ys h = any-append p xs ys ∙ or_left (list_any p xs) (list_any p ys) h

pub any_right : {A : Type 0} (p : A → Bool) (xs ys : List A) → list_any p ys ≡ true → list_any p (xs ++ ys) ≡ true
any_right p xs ys h = any-append p xs ys ∙ or_right (list_any p xs) (list_any p ys) h

pub any_either : {F A : Type 0} (p : A → Bool) (xs ys : List A) → list_any p (xs ++ ys) ≡ true → (list_any p xs ≡ true → F) → (list_any p ys ≡ true → F) → F
any_either {F} p xs ys h f g = either {F = F} (list_any p xs) (list_any p ys) (sym (any-append p xs ys) ∙ h) f g

pub holds_left : (xs ys : List ℕ) (s : ℕ) → holds xs s ≡ true → holds (xs ++ ys) s ≡ true
holds_left xs ys s h = holds-append xs ys s ∙ or_left (holds xs s) (holds ys s) h

pub holds_right : (xs ys : List ℕ) (s : ℕ) → holds ys s ≡ true → holds (xs ++ ys) s ≡ true
holds_right xs ys s h = holds-append xs ys s ∙ or_right (holds xs s) (holds ys s) h

pub holds_either : {F : Type 0} (xs ys : List ℕ) (s : ℕ) → holds (xs ++ ys) s ≡ true → (holds xs s ≡ true → F) → (holds ys s ≡ true → F) → F
holds_either {F} xs ys s h f g = either {F = F} (holds xs s) (holds ys s) (sym (holds-append xs ys s) ∙ h) f g

pub list_all-holds : (p : ℕ → Bool) (xs : List ℕ) (s : ℕ) → list_all p xs ≡ true → holds xs s ≡ true → p s ≡ true
list_all-holds p [] s h k = cc
list_all-holds p (x ∷ xs) s h k =
    let f = and_parts (p x) (list_all p xs) h in
    either {F = p s ≡ true} (nat_eq x s) (holds xs s) k (λ e. rw (← eqb-true x s e) f.0) (λ e. list_all-holds p xs s f.1 e)

pub cond_holds : {F : Type 0} (t : Bool) (x s : ℕ) (rest : List ℕ) → holds (cond t (x ∷ rest) rest) s ≡ true → (t ≡ true → x ≡ s → F) → (holds rest s ≡ true → F) → F
cond_holds {F} true x s rest h f g = either {F = F} (nat_eq x s) (holds rest s) h (λ q. f refl (eqb-true x s q)) g
cond_holds {F} false x s rest h f g = g h

holds-filter : (p : ℕ → Bool) (xs : List ℕ) (s : ℕ) → holds (filter p xs) s ≡ true → p s ≡ true
holds-filter p [] s h = cc
holds-filter p (x ∷ xs) s h = cond_holds {F = p s ≡ true} (p x) x s (filter p xs) h (λ e same. rw (← same) e) (λ q. holds-filter p xs s q)

-- Slots in a list of nodes.

abbrev pub field_is : ℕ → Stand → Bool
field_is s at = is_slot s (slot_here at.role)

-- the slot's field is among the nodes
abbrev pub has_field : ℕ → List Stand → Bool
has_field s nodes' = list_any (field_is s) nodes'

holds-cons : (o : Option ℕ) (xs : List ℕ) (s : ℕ) → holds (cons_option o xs) s ≡ (is_slot s o || holds xs s)
holds-cons None xs s = refl
holds-cons (Some t) xs s = refl

pub slots-field : (s : ℕ) (l : List Stand) → holds (slots_of l) s ≡ has_field s l
slots-field s [] = refl
slots-field s (at ∷ l) = holds-cons (slot_here at.role) (slots_of l) s ∙ ap (λ b. is_slot s (slot_here at.role) || b) (slots-field s l)

cons-append : (o : Option ℕ) (xs ys : List ℕ) → cons_option o (xs ++ ys) ≡ cons_option o xs ++ ys
cons-append None xs ys = refl
cons-append (Some x) xs ys = refl

slots-append : (a b : List Stand) → slots_of (a ++ b) ≡ slots_of a ++ slots_of b
slots-append [] b = refl
slots-append (at ∷ a) b = ap (cons_option (slot_here at.role)) (slots-append a b) ∙ cons-append (slot_here at.role) (slots_of a) (slots_of b)

pub range-above : (xs : List ℕ) (a n s : ℕ) → same_name xs (range_with_len a n) ≡ true → holds xs s ≡ true → a ≤ s
range-above [] a n s e h = cc
range-above (x ∷ xs) a zero s e h = cc
range-above (x ∷ xs) a (suc n) s e h =
    let f = and_parts (nat_eq x a) (same_name xs (range_with_len (a + 1) n)) e in
    let is = eqb-true x a f.0 in
    either {F = a ≤ s} (nat_eq x s) (holds xs s) h (λ q. let same = eqb-true x s q in omega arith) (λ q. let r = range-above xs (a + 1) n s f.1 q in omega arith)

range-apart : (xs ys : List ℕ) (a n s : ℕ) → same_name (xs ++ ys) (range_with_len a n) ≡ true → holds xs s ≡ true → holds ys s ≡ true → ⊥
range-apart [] ys a n s e p q = cc
range-apart (x ∷ xs) ys a zero s e p q = cc
range-apart (x ∷ xs) ys a (suc n) s e p q =
    let f = and_parts (nat_eq x a) (same_name (xs ++ ys) (range_with_len (a + 1) n)) e in
    let is = eqb-true x a f.0 in
    either {F = ⊥} (nat_eq x s) (holds xs s) p
    (λ t. let same = eqb-true x s t in let r = range-above (xs ++ ys) (a + 1) n s f.1 (holds_right xs ys s q) in absurd (omega arith))
    (λ t. range-apart xs ys (a + 1) n s f.1 t q)

-- What is near is inside.

pub near_if_when : (presence : Presence) (ns : List ℕ) (s : ℕ) → holds (near_if presence ns) s ≡ true → (presence ≡ Always) × (holds ns s ≡ true)
near_if_when Always ns s h = (refl, h)
near_if_when Bit ns s h = cc
near_if_when (When ts) ns s h = cc

pub own_holds : (own : Option ℕ) (s : ℕ) → holds (slot_list own) s ≡ true → is_slot s own ≡ true
own_holds None s h = cc
own_holds (Some t) s h = either {F = nat_eq t s ≡ true} (nat_eq t s) false h (λ q. q) (λ q. cc)

-- what is near in a component and behind it: the slot that it says, what is near inside it, and the rest
pub near_parts : {F : Type 0} (own : Option ℕ) (presence : Presence) (ns ms : List ℕ) (s : ℕ) → holds (slot_list own ++ (near_if presence ns ++ ms)) s ≡ true
    → (is_slot s own ≡ true → F) → (holds (near_if presence ns) s ≡ true → F) → (holds ms s ≡ true → F) → F
near_parts {F} own presence ns ms s h f g r =
    holds_either {F = F} (slot_list own) (near_if presence ns ++ ms) s h (λ q. f (own_holds own s q)) (λ q. holds_either {F = F} (near_if presence ns) ms s q g r)

pub slot_in : (role : Role) (path around : List ℕ) (g : Grammar) (s : ℕ) → is_slot s (slot_here role) ≡ true → has_field s (nodes role path around g) ≡ true
slot_in role path around (node align form) s h = or_left (is_slot s (slot_here role)) (has_field s (form_nodes path around form)) h

mutual
  pub near_has : (fs : Fields) (path around : List ℕ) (k s : ℕ) → holds (near fs) s ≡ true → has_field s (field_nodes path around k fs) ≡ true
  near_has no_fields path around k s h = cc
  near_has (component name g presence default own fs) path around k s h =
      near_parts {F = has_field s (field_nodes path around k (component name g presence default own fs)) ≡ true} own presence (near_node g) (near fs) s h
      (λ q. any_left (field_is s) (nodes (component_role name presence default own) (path ++ k ∷ []) around g) (field_nodes path around (suc k) fs) (slot_in (component_role name presence default own) (path ++ k ∷ []) around g s q))
      (λ q. any_left (field_is s) (nodes (component_role name presence default own) (path ++ k ∷ []) around g) (field_nodes path around (suc k) fs) (near_node_has g (component_role name presence default own) (path ++ k ∷ []) around s (near_if_when presence (near_node g) s q).1))
      (λ q. any_right (field_is s) (nodes (component_role name presence default own) (path ++ k ∷ []) around g) (field_nodes path around (suc k) fs) (near_has fs path around (suc k) s q))
  near_has (inserted name g None fs) path around k s h =
      any_right (field_is s) (nodes (an_inserted name None) (path ++ k ∷ []) around g) (field_nodes path around (suc k) fs) (near_has fs path around (suc k) s h)
  near_has (inserted name (node align form) (Some t) fs) path around k s h =
      either {F = has_field s (field_nodes path around k (inserted name (node align form) (Some t) fs)) ≡ true} (nat_eq t s) (holds (near fs) s) h
      (λ q. or_left (nat_eq t s) (has_field s (form_nodes (path ++ k ∷ []) around form ++ field_nodes path around (suc k) fs)) q)
      (λ q. any_right (field_is s) (nodes (an_inserted name (Some t)) (path ++ k ∷ []) around (node align form)) (field_nodes path around (suc k) fs) (near_has fs path around (suc k) s q))

  pub near_node_has : (g : Grammar) (role : Role) (path around : List ℕ) (s : ℕ) → holds (near_node g) s ≡ true → has_field s (nodes role path around g) ≡ true
  near_node_has (node align (seq fields home)) role path around s h = or_right (is_slot s (slot_here role)) (has_field s (field_nodes path (home ++ around) 0 fields)) (near_has fields path (home ++ around) 0 s h)
  near_node_has (node align (num leaf)) role path around s h = cc
  near_node_has (node align (octets sizing)) role path around s h = cc
  near_node_has (node align (bits sizing)) role path around s h = cc
  near_node_has (node align (text leaf)) role path around s h = cc
  near_node_has (node align (list sizing g)) role path around s h = cc
  near_node_has (node align (choice cases rule)) role path around s h = cc
  near_node_has (node align (contained sizing g)) role path around s h = cc

-- An inserted field is a number.

abbrev pub is_number : Form → Bool
is_number (num leaf) = true
is_number _ = false

pub inserted_number : (slot : Option ℕ) (form : Form) → inserted_fine slot form ≡ true → is_number form ≡ true
inserted_number slot (num leaf) h = refl
inserted_number slot (octets sizing) h = cc
inserted_number slot (bits sizing) h = cc
inserted_number slot (text leaf) h = cc
inserted_number slot (seq _ home) h = cc
inserted_number slot (list sizing g) h = cc
inserted_number slot (choice cases rule) h = cc
inserted_number slot (contained sizing g) h = cc

-- a component that says a slot is a number that is always there
pub own_number : (own : Option ℕ) (presence : Presence) (form : Form) (s : ℕ) → own_fine own presence form ≡ true → is_slot s own ≡ true → (presence ≡ Always) × (is_number form ≡ true)
own_number None presence form s h e = cc
own_number (Some t) Always form s h e = (refl, inserted_number (Some t) form h)
own_number (Some t) Bit form s h e = cc
own_number (Some t) (When ts) form s h e = cc

pub field_number : (role : Role) (form : Form) (s : ℕ) → role_fine role form ≡ true → is_slot s (slot_here role) ≡ true → is_number form ≡ true
field_number root_node form s h e = cc
field_number (a_component one) form s h e = (own_number one.slot one.presence form s (and_parts (presence_fine one.presence) (own_fine one.slot one.presence form) h).1 e).1
field_number (an_inserted name slot) form s h e = inserted_number slot form h
field_number (an_alternative one) form s h e = cc
field_number an_element form s h e = cc
field_number a_content form s h e = cc

pub no_field : (role : Role) (form : Form) (s : ℕ) → role_fine role form ≡ true → is_number form ≡ false → is_slot s (slot_here role) ≡ false
no_field role form s h n = by (is_slot s (slot_here role)) refl
  where
    by : (b : Bool) → is_slot s (slot_here role) ≡ b → b ≡ false
    by true e = let t = field_number role form s h e in cc
    by false e = refl

abbrev pub here_at : (role : Role) (path around : List ℕ) (align : ℕ) (form : Form) → Stand
here_at role path around align form = record { path = path; around = around; role = role; align = align; form = form }

pub split_here : (a : List Stand) (here : Stand) (b c : List Stand) → a ++ (here ∷ (b ++ c)) ≡ (a ++ here ∷ []) ++ (b ++ c)
split_here a here b c = sym (append_assoc a (here ∷ []) (b ++ c))

module _ (all : List Stand) (numbered : same_numbers (slots_of all) (range_with_len 0 (length (slots_of all))) ≡ true) (rules : list_all (λ at. all_true (stand_rules all at)) all ≡ true) where
  -- one field a slot
  pub twice : (a b : List Stand) → all ≡ a ++ b → (s : ℕ) → has_field s a ≡ true → has_field s b ≡ true → ⊥
  twice a b e s p q =
      range-apart (slots_of a) (slots_of b) 0 (length (slots_of all)) s
      (ap (λ l. same_name l (range_with_len 0 (length (slots_of all)))) (sym (ap slots_of e ∙ slots-append a b)) ∙ numbered)
      (slots-field s a ∙ p) (slots-field s b ∙ q)

  -- the rules of the node at a place
  pub fine_at : (a c : List Stand) (here : Stand) → all ≡ a ++ (here ∷ c) → StandFine all here
  fine_at a c here e =
      let f = list_all-append (λ at. all_true (stand_rules all at)) a (here ∷ c) (ap (list_all (λ at. all_true (stand_rules all at))) (sym e) ∙ rules) in
      stand_fine all here (and_parts (all_true (stand_rules all here)) (list_all (λ at. all_true (stand_rules all at)) c) f.1).0

  -- the slots at home have their fields near, and nothing inside encloses them
  pub home_near : (at : Stand) (fields : Fields) (home : List ℕ) → home_fine all at (seq fields home) ≡ true → (s : ℕ) → holds home s ≡ true → holds (near fields) s ≡ true
  home_near at fields home h s k =
      list_all-holds (holds (near fields)) home s (and_parts (same_numbers home (filter (λ t. is_home all t at) (slots_of all))) (list_all (holds (near fields)) home) h).1 k

  pub home_is : (at : Stand) (fields : Fields) (home : List ℕ) → home_fine all at (seq fields home) ≡ true → (s : ℕ) → holds home s ≡ true → is_home all s at ≡ true
  home_is at fields home h s k =
      let f = and_parts (same_numbers home (filter (λ t. is_home all t at) (slots_of all))) (list_all (holds (near fields)) home) h in
      holds-filter (λ t. is_home all t at) (slots_of all) s (ap (λ l. holds l s) (sym (same_name-is home (filter (λ t. is_home all t at) (slots_of all)) f.0)) ∙ k)

  -- A node in its place: what stands before and behind it, and the slots that are open there.
  pub record Place (pre : List Stand) (role : Role) (path around : List ℕ) (g : Grammar) (post : List Stand) : Type 0 where
    pub whole : all ≡ pre ++ (nodes role path around g ++ post)
    pub open_slots : (s : ℕ) → holds around s ≡ true → has_field s all ≡ true
    pub alone : (s : ℕ) → holds around s ≡ true → list_any (encloses all s) (nodes role path around g) ≡ false
    pub close : (s : ℕ) → holds around s ≡ true → has_field s (nodes role path around g) ≡ true → is_slot s (slot_here role) ≡ false → holds (near_node g) s ≡ true

  pub record FieldsPlace (pre : List Stand) (path around : List ℕ) (k : ℕ) (fs : Fields) (post : List Stand) : Type 0 where
    pub whole : all ≡ pre ++ (field_nodes path around k fs ++ post)
    pub open_slots : (s : ℕ) → holds around s ≡ true → has_field s all ≡ true
    pub alone : (s : ℕ) → holds around s ≡ true → list_any (encloses all s) (field_nodes path around k fs) ≡ false
    pub close : (s : ℕ) → holds around s ≡ true → has_field s (field_nodes path around k fs) ≡ true → holds (near fs) s ≡ true

  pub record CasesPlace (pre : List Stand) (rule : ChoiceRule) (path around : List ℕ) (k : ℕ) (cases : Alternatives) (post : List Stand) : Type 0 where
    pub whole : all ≡ pre ++ (alternative_nodes rule path around k cases ++ post)
    pub open_slots : (s : ℕ) → holds around s ≡ true → has_field s all ≡ true
    pub alone : (s : ℕ) → holds around s ≡ true → list_any (encloses all s) (alternative_nodes rule path around k cases) ≡ false
    pub none : (s : ℕ) → holds around s ≡ true → has_field s (alternative_nodes rule path around k cases) ≡ true → ⊥

  neither : (a b : Bool) → (a || b) ≡ false → (a ≡ false) × (b ≡ false)
  neither true b h = cc
  neither false b h = (refl, h)

  none_left : (p : Stand → Bool) (a b : List Stand) → list_any p (a ++ b) ≡ false → list_any p a ≡ false
  none_left p a b h = (neither (list_any p a) (list_any p b) (sym (any-append p a b) ∙ h)).0

  none_right : (p : Stand → Bool) (a b : List Stand) → list_any p (a ++ b) ≡ false → list_any p b ≡ false
  none_right p a b h = (neither (list_any p a) (list_any p b) (sym (any-append p a b) ∙ h)).1

  -- a node has the rules of its stand
  pub place_fine : (pre : List Stand) (role : Role) (path around : List ℕ) (align : ℕ) (form : Form) (post : List Stand) → Place pre role path around (node align form) post → StandFine all (here_at role path around align form)
  place_fine pre role path around align form post p = fine_at pre (form_nodes path around form ++ post) (here_at role path around align form) p.whole

  -- what is inside a node and open there is near
  pub inside_near : (pre : List Stand) (role : Role) (path around : List ℕ) (align : ℕ) (form : Form) (post : List Stand) → Place pre role path around (node align form) post → (s : ℕ) → holds around s ≡ true → has_field s (form_nodes path around form) ≡ true → holds (near_form form) s ≡ true
  inside_near pre role path around align form post p s o h = by (is_slot s (slot_here role)) refl
    where
      here : Stand
      here = here_at role path around align form

      by : (b : Bool) → is_slot s (slot_here role) ≡ b → holds (near_form form) s ≡ true
      by true e = absurd (twice (pre ++ here_at role path around align form ∷ []) (form_nodes path around form ++ post) (p.whole ∙ split_here pre (here_at role path around align form) (form_nodes path around form) post) s
          (any_right (field_is s) pre (here_at role path around align form ∷ []) (or_left (is_slot s (slot_here role)) false e)) (any_left (field_is s) (form_nodes path around form) post h))
      by false e = p.close s o (or_right (is_slot s (slot_here role)) (has_field s (form_nodes path around form)) h) e

  -- into a SEQUENCE
  pub to_fields : (pre : List Stand) (role : Role) (path around : List ℕ) (align : ℕ) (fields : Fields) (home : List ℕ) (post : List Stand) → Place pre role path around (node align (seq fields home)) post
      → FieldsPlace (pre ++ here_at role path around align (seq fields home) ∷ []) path (home ++ around) 0 fields post
  to_fields pre role path around align fields home post p =
      let here = here_at role path around align (seq fields home) in
      let fine = place_fine pre role path around align (seq fields home) post p in
      let inner = field_nodes path (home ++ around) 0 fields in
      record {
        whole = p.whole ∙ split_here pre (here_at role path around align (seq fields home)) (field_nodes path (home ++ around) 0 fields) post;
        open_slots = λ s o. holds_either {F = has_field s all ≡ true} home around s o
            (λ h. ap (has_field s) p.whole ∙ any_right (field_is s) pre (here ∷ (inner ++ post)) (or_right (field_is s here) (has_field s (inner ++ post)) (any_left (field_is s) inner post (near_has fields path (home ++ around) 0 s (home_near here fields home fine.home s h)))))
            (λ h. p.open_slots s h);
        alone = λ s o. holds_either {F = list_any (encloses all s) (field_nodes path (home ++ around) 0 fields) ≡ false} home around s o
            (λ h. not-true (list_any (encloses all s) inner) (and_parts (encloses all s here) (not (list_any (encloses all s) inner)) (home_is here fields home fine.home s h)).1)
            (λ h. (neither (encloses all s here) (list_any (encloses all s) inner) (p.alone s h)).1);
        close = λ s o h. holds_either {F = holds (near fields) s ≡ true} home around s o
            (λ q. home_near here fields home fine.home s q)
            (λ q. inside_near pre role path around align (seq fields home) post p s q h);
      }

  -- into an element or a content
  pub to_one : (pre : List Stand) (role : Role) (path around : List ℕ) (align : ℕ) (form : Form) (post : List Stand) (role' : Role) (path' : List ℕ) (g : Grammar) → form_nodes path around form ≡ nodes role' path' around g → near_form form ≡ [] → Place pre role path around (node align form) post
      → Place (pre ++ here_at role path around align form ∷ []) role' path' around g post
  to_one pre role path around align form post role' path' g same empty p =
      record {
        whole = p.whole ∙ (split_here pre (here_at role path around align form) (form_nodes path around form) post ∙ ap (λ l. (pre ++ here_at role path around align form ∷ []) ++ (l ++ post)) same);
        open_slots = p.open_slots;
        alone = λ s o. ap (list_any (encloses all s)) (sym same) ∙ (neither (encloses all s (here_at role path around align form)) (list_any (encloses all s) (form_nodes path around form)) (p.alone s o)).1;
        close = λ s o h _. let n = inside_near pre role path around align form post p s o (ap (has_field s) same ∙ h) in let none : holds (near_form form) s ≡ false = ap (λ l. holds l s) empty in cc;
      }

  -- into a CHOICE
  pub to_cases : (pre : List Stand) (role : Role) (path around : List ℕ) (align : ℕ) (cases : Alternatives) (rule : ChoiceRule) (post : List Stand) → Place pre role path around (node align (choice cases rule)) post
      → CasesPlace (pre ++ here_at role path around align (choice cases rule) ∷ []) rule path around 0 cases post
  to_cases pre role path around align cases rule post p =
      record {
        whole = p.whole ∙ split_here pre (here_at role path around align (choice cases rule)) (alternative_nodes rule path around 0 cases) post;
        open_slots = p.open_slots;
        alone = λ s o. (neither (encloses all s (here_at role path around align (choice cases rule))) (list_any (encloses all s) (alternative_nodes rule path around 0 cases)) (p.alone s o)).1;
        none = λ s o h. let n = inside_near pre role path around align (choice cases rule) post p s o h in cc;
      }

  split_more : (pre a b post : List Stand) → pre ++ ((a ++ b) ++ post) ≡ pre ++ (a ++ (b ++ post))
  split_more pre a b post = ap (λ l. pre ++ l) (append_assoc a b post)

  moved : (pre a b post : List Stand) → pre ++ ((a ++ b) ++ post) ≡ (pre ++ a) ++ (b ++ post)
  moved pre a b post = split_more pre a b post ∙ sym (append_assoc pre a (b ++ post))

  -- the first of two parts holds the field, and the second one too
  pub parts_apart : (pre a b post : List Stand) → all ≡ pre ++ ((a ++ b) ++ post) → (s : ℕ) → has_field s a ≡ true → has_field s b ≡ true → ⊥
  parts_apart pre a b post e s p q = twice (pre ++ a) (b ++ post) (e ∙ moved pre a b post) s (any_right (field_is s) pre a p) (any_left (field_is s) b post q)

  -- Along the fields.

  abbrev component_nodes : (path around : List ℕ) (k : ℕ) (name : List ℕ) (g : Grammar) (presence : Presence) (default : Option (List ℕ)) (own : Option ℕ) → List Stand
  component_nodes path around k name g presence default own = nodes (component_role name presence default own) (path ++ k ∷ []) around g

  abbrev inserted_nodes : (path around : List ℕ) (k : ℕ) (name : List ℕ) (g : Grammar) (slot : Option ℕ) → List Stand
  inserted_nodes path around k name g slot = nodes (an_inserted name slot) (path ++ k ∷ []) around g

  pub first_component : (pre : List Stand) (path around : List ℕ) (k : ℕ) (name : List ℕ) (g : Grammar) (presence : Presence) (default : Option (List ℕ)) (own : Option ℕ) (fs : Fields) (post : List Stand) → FieldsPlace pre path around k (component name g presence default own fs) post
      → Place pre (component_role name presence default own) (path ++ k ∷ []) around g (field_nodes path around (suc k) fs ++ post)
  first_component pre path around k name g presence default own fs post p =
      let a = component_nodes path around k name g presence default own in
      let b = field_nodes path around (suc k) fs in
      record {
        whole = p.whole ∙ split_more pre (component_nodes path around k name g presence default own) (field_nodes path around (suc k) fs) post;
        open_slots = p.open_slots;
        alone = λ s o. none_left (encloses all s) a b (p.alone s o);
        close = λ s o h n. near_parts {F = holds (near_node g) s ≡ true} own presence (near_node g) (near fs) s (p.close s o (any_left (field_is s) a b h))
            (λ q. cc)
            (λ q. (near_if_when presence (near_node g) s q).1)
            (λ q. absurd (parts_apart pre a b post p.whole s h (near_has fs path around (suc k) s q)));
      }

  pub next_component : (pre : List Stand) (path around : List ℕ) (k : ℕ) (name : List ℕ) (g : Grammar) (presence : Presence) (default : Option (List ℕ)) (own : Option ℕ) (fs : Fields) (post : List Stand) → FieldsPlace pre path around k (component name g presence default own fs) post
      → FieldsPlace (pre ++ nodes (component_role name presence default own) (path ++ k ∷ []) around g) path around (suc k) fs post
  next_component pre path around k name g presence default own fs post p =
      let a = component_nodes path around k name g presence default own in
      let b = field_nodes path around (suc k) fs in
      record {
        whole = p.whole ∙ moved pre (component_nodes path around k name g presence default own) (field_nodes path around (suc k) fs) post;
        open_slots = p.open_slots;
        alone = λ s o. none_right (encloses all s) a b (p.alone s o);
        close = λ s o h. near_parts {F = holds (near fs) s ≡ true} own presence (near_node g) (near fs) s (p.close s o (any_right (field_is s) a b h))
            (λ q. absurd (parts_apart pre a b post p.whole s (slot_in (component_role name presence default own) (path ++ k ∷ []) around g s q) h))
            (λ q. absurd (parts_apart pre a b post p.whole s (near_node_has g (component_role name presence default own) (path ++ k ∷ []) around s (near_if_when presence (near_node g) s q).1) h))
            (λ q. q);
      }

  near_behind : (name : List ℕ) (g : Grammar) (slot : Option ℕ) (fs : Fields) (s : ℕ) → holds (near (inserted name g slot fs)) s ≡ true → (is_slot s slot ≡ true) ⊎ (holds (near fs) s ≡ true)
  near_behind name g None fs s h = inr h
  near_behind name g (Some t) fs s h = either {F = (nat_eq t s ≡ true) ⊎ (holds (near fs) s ≡ true)} (nat_eq t s) (holds (near fs) s) h (λ q. inl q) (λ q. inr q)

  out : {A B F : Type 0} → A ⊎ B → (A → F) → (B → F) → F
  out (inl a) f g = f a
  out (inr b) f g = g b

  -- an inserted node has no field inside
  pub first_inserted : (pre : List Stand) (path around : List ℕ) (k : ℕ) (name : List ℕ) (g : Grammar) (slot : Option ℕ) (fs : Fields) (post : List Stand) → FieldsPlace pre path around k (inserted name g slot fs) post
      → Place pre (an_inserted name slot) (path ++ k ∷ []) around g (field_nodes path around (suc k) fs ++ post)
  first_inserted pre path around k name g slot fs post p =
      let a = inserted_nodes path around k name g slot in
      let b = field_nodes path around (suc k) fs in
      record {
        whole = p.whole ∙ split_more pre (inserted_nodes path around k name g slot) (field_nodes path around (suc k) fs) post;
        open_slots = p.open_slots;
        alone = λ s o. none_left (encloses all s) a b (p.alone s o);
        close = λ s o h n. out {F = holds (near_node g) s ≡ true} (near_behind name g slot fs s (p.close s o (any_left (field_is s) a b h)))
            (λ q. cc)
            (λ q. absurd (parts_apart pre a b post p.whole s h (near_has fs path around (suc k) s q)));
      }

  pub next_inserted : (pre : List Stand) (path around : List ℕ) (k : ℕ) (name : List ℕ) (g : Grammar) (slot : Option ℕ) (fs : Fields) (post : List Stand) → FieldsPlace pre path around k (inserted name g slot fs) post
      → FieldsPlace (pre ++ nodes (an_inserted name slot) (path ++ k ∷ []) around g) path around (suc k) fs post
  next_inserted pre path around k name g slot fs post p =
      let a = inserted_nodes path around k name g slot in
      let b = field_nodes path around (suc k) fs in
      record {
        whole = p.whole ∙ moved pre (inserted_nodes path around k name g slot) (field_nodes path around (suc k) fs) post;
        open_slots = p.open_slots;
        alone = λ s o. none_right (encloses all s) a b (p.alone s o);
        close = λ s o h. out {F = holds (near fs) s ≡ true} (near_behind name g slot fs s (p.close s o (any_right (field_is s) a b h)))
            (λ q. absurd (parts_apart pre a b post p.whole s (slot_in (an_inserted name slot) (path ++ k ∷ []) around g s q) h))
            (λ q. q);
      }

  -- Along the alternatives.

  abbrev case_nodes : (rule : ChoiceRule) (path around : List ℕ) (k : ℕ) (name : List ℕ) (g : Grammar) (tests : List Test) → List Stand
  case_nodes rule path around k name g tests = nodes (alternative_role name tests rule) (path ++ k ∷ []) around g

  pub first_case : (pre : List Stand) (rule : ChoiceRule) (path around : List ℕ) (k : ℕ) (name : List ℕ) (g : Grammar) (tests : List Test) (more : Alternatives) (post : List Stand) → CasesPlace pre rule path around k (alternative name g tests more) post
      → Place pre (alternative_role name tests rule) (path ++ k ∷ []) around g (alternative_nodes rule path around (suc k) more ++ post)
  first_case pre rule path around k name g tests more post p =
      let a = case_nodes rule path around k name g tests in
      let b = alternative_nodes rule path around (suc k) more in
      record {
        whole = p.whole ∙ split_more pre (case_nodes rule path around k name g tests) (alternative_nodes rule path around (suc k) more) post;
        open_slots = p.open_slots;
        alone = λ s o. none_left (encloses all s) a b (p.alone s o);
        close = λ s o h _. absurd (p.none s o (any_left (field_is s) a b h));
      }

  pub next_case : (pre : List Stand) (rule : ChoiceRule) (path around : List ℕ) (k : ℕ) (name : List ℕ) (g : Grammar) (tests : List Test) (more : Alternatives) (post : List Stand) → CasesPlace pre rule path around k (alternative name g tests more) post
      → CasesPlace (pre ++ nodes (alternative_role name tests rule) (path ++ k ∷ []) around g) rule path around (suc k) more post
  next_case pre rule path around k name g tests more post p =
      let a = case_nodes rule path around k name g tests in
      let b = alternative_nodes rule path around (suc k) more in
      record {
        whole = p.whole ∙ moved pre (case_nodes rule path around k name g tests) (alternative_nodes rule path around (suc k) more) post;
        open_slots = p.open_slots;
        alone = λ s o. none_right (encloses all s) a b (p.alone s o);
        none = λ s o h. p.none s o (any_right (field_is s) a b h);
      }

-- the whole tree in its place
pub root_place : (root : Grammar) (numbered : same_numbers (slots_of (nodes_of root)) (range_with_len 0 (length (slots_of (nodes_of root)))) ≡ true) (rules : list_all (λ at. all_true (stand_rules (nodes_of root) at)) (nodes_of root) ≡ true)
    → Place (nodes_of root) numbered rules [] root_node [] [] root []
root_place root numbered rules = record { whole = sym (append-nil (nodes_of root)); open_slots = λ s o. cc; alone = λ s o. cc; close = λ s o h n. cc }

pub tree_numbered : (root : Grammar) → IsTree root → same_numbers (slots_of (nodes_of root)) (range_with_len 0 (length (slots_of (nodes_of root)))) ≡ true
tree_numbered root h =
    let all = nodes_of root in
    (and_parts (same_numbers (slots_of all) (range_with_len 0 (length (slots_of all)))) (list_all (λ at. all_true (stand_rules all at)) all) (and_parts (nat_le (length all) 65536) (same_numbers (slots_of all) (range_with_len 0 (length (slots_of all))) && list_all (λ at. all_true (stand_rules all at)) all) h).1).0

pub tree_rules : (root : Grammar) → IsTree root → list_all (λ at. all_true (stand_rules (nodes_of root) at)) (nodes_of root) ≡ true
tree_rules root h =
    let all = nodes_of root in
    (and_parts (same_numbers (slots_of all) (range_with_len 0 (length (slots_of all)))) (list_all (λ at. all_true (stand_rules all at)) all) (and_parts (nat_le (length all) 65536) (same_numbers (slots_of all) (range_with_len 0 (length (slots_of all))) && list_all (λ at. all_true (stand_rules all at)) all) h).1).1
