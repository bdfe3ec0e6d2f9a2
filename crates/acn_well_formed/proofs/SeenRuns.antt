-- What is seen of a slot by recursion, over the nodes in preorder.
use Rattle.std.proofs.Common.{◌≡◌, ℕ, suc, ◌+◌, ◌-◌, ◌^◌, min, Bool, true, false, not, List, [], ◌∷◌, ◌++◌, Some, None, nat_eq, ◌&&◌, ◌||◌, cond, refl, sym, ap, ◌∙◌, arith, append_assoc, append-nil, Option}
use Rattle.std.specs.Prelude.{count_by, map}
use Rattle.std.specs.List.{list_all, list_any}
use Rattle.std.proofs.lemmas.List.Folds.{list_all-append, list_any-append}
use Rattle.std.proofs.lemmas.List.Sums.{sum_by-append}
use Rattle.acn_grammar.specs.Check.{test_slot}
use Rattle.acn_grammar.specs.Grammar.{Grammar, Form, Fields, Alternatives, node, num, octets, bits, text, seq, list, choice, contained, no_fields, component, inserted, no_alternatives, alternative}
use Rattle.acn_grammar.specs.Leaves.{implies, same_truth}
use Rattle.acn_well_formed.specs.Seen.{tests_name, form_names, nothing, joined, weight, far, own_right, own_near, with_node, with_home, through, inserted_near, seen, form_seen, fields_seen, alternatives_seen}
use Rattle.acn_grammar.specs.Tree.{holds, is_seq, is_slot, is_about, near, near_node, near_form, near_if, slot_list}
use Rattle.acn_grammar.specs.Walk.{Stand, Role, component_role, a_component, an_inserted, alternative_role, an_element, a_content, nodes, form_nodes, field_nodes, alternative_nodes, inside, own_tests, presence_tests, slot_here, slot_of, form_uses, Use, condition}
use Rattle.acn_grammar.specs.declared.node.ChoiceRule.{ChoiceRule}
use Rattle.acn_well_formed.specs.declared.homes.Seen.{Seen}
use Rattle.acn_grammar.specs.declared.node.Presence.{Presence}
use Rattle.acn_grammar.specs.declared.node.Presence.TheVariants.{Always, Bit, When}
use Rattle.acn_grammar.specs.declared.node.Test.{Test}
use Rattle.acn_grammar.specs.declared.node.Test.TheVariants.{Flag, Equals}

-- Truth values.

pub or_comm : (a b : Bool) → (a || b) ≡ (b || a)
or_comm false false = refl
or_comm false true = refl
or_comm true false = refl
or_comm true true = refl

pub and_comm : (a b : Bool) → (a && b) ≡ (b && a)
and_comm false false = refl
and_comm false true = refl
and_comm true false = refl
and_comm true true = refl

pub and_turn : (l h u : Bool) → ((l && h) && u) ≡ ((u && h) && l)
and_turn false h false = refl
and_turn false false true = refl
and_turn false true true = refl
and_turn true false false = refl
and_turn true false true = refl
and_turn true true false = refl
and_turn true true true = refl

or_false : (a : Bool) → (a || false) ≡ a
or_false false = refl
or_false true = refl

and_true : (a : Bool) → (a && true) ≡ a
and_true false = refl
and_true true = refl

pub holds-append : (xs ys : List ℕ) (s : ℕ) → holds (xs ++ ys) s ≡ (holds xs s || holds ys s)
holds-append [] ys s = refl
holds-append (x ∷ xs) ys s = or_head (nat_eq x s) (holds (xs ++ ys) s) (holds xs s) (holds ys s) (holds-append xs ys s)
  where
    or_head : (a b c d : Bool) → b ≡ (c || d) → (a || b) ≡ ((a || c) || d)
    or_head true b c d e = refl
    or_head false b c d e = e

same_slot : (t : Test) → slot_of (condition t) ≡ test_slot t
same_slot (Flag s) = refl
same_slot (Equals s k) = refl

or_step : (a b c d : Bool) → b ≡ (c || d) → (a || b) ≡ ((a || c) || d)
or_step true b c d e = refl
or_step false b c d e = e

module _ (s total : ℕ) where
  abbrev pub form_named : List Use → Bool
  form_named us = list_any (λ u. nat_eq s (slot_of u)) us

  any_mapped : (us : List Use) → list_any (nat_eq s) (map slot_of us) ≡ form_named us
  any_mapped [] = refl
  any_mapped (u ∷ us) = ap (λ b. nat_eq s (slot_of u) || b) (any_mapped us)

  -- the uses of a node name the slot where its role or its form does
  pub uses_named : (ts : List Test) (us : List Use) → list_any (nat_eq s) (map slot_of (map condition ts ++ us)) ≡ (tests_name s ts || form_named us)
  uses_named [] us = any_mapped us
  uses_named (t ∷ ts) us = rw (same_slot t) (or_step (nat_eq s (test_slot t)) (list_any (nat_eq s) (map slot_of (map condition ts ++ us))) (tests_name s ts) (form_named us) (uses_named ts us))

  -- a SEQUENCE inside which as many nodes are about the slot as in all
  abbrev pub enough : List Stand → Bool
  enough xs = nat_eq (min (count_by (is_about s) xs) (2 ^ 32 - 1)) total

  abbrev pub has_all : Stand → Bool
  has_all at = is_seq at.form && enough (inside at)

  abbrev pub home_right : Form → List Stand → Bool
  home_right (seq fs home) xs = same_truth (holds home s) (enough xs && not (list_any has_all xs)) && implies (holds home s) (holds (near fs) s)
  home_right _ xs = true

  abbrev pub own_slot : Role → Option ℕ
  own_slot (a_component one) = one.slot
  own_slot _ = None

  abbrev pub role_right : Role → Bool
  role_right role = own_right s total (own_slot role)

  -- a use stands inside the slot's home, a component that says the slot has a use, and a home is right
  abbrev pub slot_right : Stand → Bool
  slot_right at = (implies (tests_name s (own_tests at.role) || form_names s at.form) (holds at.around s) && role_right at.role) && home_right at.form (inside at)

  pub record Sees (xs : List Stand) (ns : List ℕ) (r : Seen) : Type 0 where
    pub about : r.about ≡ min (count_by (is_about s) xs) (2 ^ 32 - 1)
    pub encloses : r.encloses ≡ list_any has_all xs
    pub near : r.near ≡ holds ns s
    pub fine : r.fine ≡ list_all slot_right xs

  -- inside a node, whose own home is among what is seen
  pub record Inside (form : Form) (xs : List Stand) (ns : List ℕ) (r : Seen) : Type 0 where
    pub about : r.about ≡ min (count_by (is_about s) xs) (2 ^ 32 - 1)
    pub encloses : r.encloses ≡ list_any has_all xs
    pub near : r.near ≡ holds ns s
    pub fine : r.fine ≡ (list_all slot_right xs && home_right form xs)

  pub count-append : (xs ys : List Stand) → count_by (is_about s) (xs ++ ys) ≡ count_by (is_about s) xs + count_by (is_about s) ys
  count-append xs ys = sum_by-append (λ (at : Stand). cond (is_about s at) 1 0) xs ys

  min_join : (a b m : ℕ) → min (min a m + min b m) m ≡ min (a + b) m
  min_join a b m = omega arith

  pub sees_joined : (xs ys : List Stand) (ns ms : List ℕ) (a b : Seen) → Sees xs ns a → Sees ys ms b → Sees (xs ++ ys) (ns ++ ms) (joined a b)
  sees_joined xs ys ns ms a b p q = record {
    about = rw (p.about, q.about, count-append xs ys) (min_join (count_by (is_about s) xs) (count_by (is_about s) ys) (2 ^ 32 - 1));
    encloses = rw (p.encloses, q.encloses) (sym (list_any-append has_all xs ys));
    near = rw (p.near, q.near) (sym (holds-append ns ms s));
    fine = rw (p.fine, q.fine) (sym (list_all-append slot_right xs ys));
  }

  sees_none : Sees [] [] nothing
  sees_none = record { about = refl; encloses = refl; near = refl; fine = refl }

  pub sees_far : (xs : List Stand) (ns : List ℕ) (a : Seen) → Sees xs ns a → Sees xs [] (far a)
  sees_far xs ns a p = record { about = p.about; encloses = p.encloses; near = refl; fine = p.fine }

  sees_through : (xs : List Stand) (ns : List ℕ) (a : Seen) (presence : Presence) → Sees xs ns a → Sees xs (near_if presence ns) (through s total presence a)
  sees_through xs ns a Always p = p
  sees_through xs ns a Bit p = sees_far xs ns a p
  sees_through xs ns a (When ts) p = sees_far xs ns a p

  sees_own : (xs : List Stand) (ns : List ℕ) (a : Seen) (own : Option ℕ) → Sees xs ns a → Sees xs (slot_list own ++ ns) (own_near s total own a)
  sees_own xs ns a None p = record { about = p.about; encloses = p.encloses; near = p.near; fine = p.fine }
  sees_own xs ns a (Some t) p = record { about = p.about; encloses = p.encloses; near = ap (λ (b : Bool). nat_eq t s || b) p.near; fine = p.fine }

  no_more : (n : ℕ) → 0 + n ≡ n
  no_more n = omega arith

  about_node : (n c m : ℕ) (b : Bool) → n ≡ min c m → min (n + weight b) m ≡ min (cond b 1 0 + c) m
  about_node n c m false e = omega arith
  about_node n c m true e = omega arith

  pub count_first : (at : Stand) (xs : List Stand) → count_by (is_about s) (at ∷ xs) ≡ cond (is_about s at) 1 0 + count_by (is_about s) xs
  count_first at xs = count-append (at ∷ []) xs ∙ ap (λ (n : ℕ). n + count_by (is_about s) xs) (no_more (cond (is_about s at) 1 0))

  abbrev named_at : Role → Form → Bool
  named_at role form = tests_name s (own_tests role) || form_names s form

  pub sees_node : (form : Form) (ns : List ℕ) (role : Role) (path around : List ℕ) (align : ℕ) (in_home : Bool) (inner : Seen)
      → Inside form (form_nodes path around form) ns inner → in_home ≡ holds around s
      → Sees (nodes role path around (node align form)) ns (with_node s total in_home (is_slot s (slot_here role)) (tests_name s (own_tests role)) (role_right role) form inner)
  sees_node form ns role path around align in_home inner p g =
      let xs = form_nodes path around form in
      let at : Stand = record { path = path; around = around; role = role; align = align; form = form } in
      let here = is_slot s (slot_here role) || named_at role form in
      let about_is : is_about s at ≡ here = ap (λ (b : Bool). is_slot s (slot_here role) || b) (uses_named (own_tests role) (form_uses form)) in
      let counted : count_by (is_about s) (at ∷ xs) ≡ cond here 1 0 + count_by (is_about s) xs = count_first at xs ∙ ap (λ (b : Bool). cond b 1 0 + count_by (is_about s) xs) about_is in
      record {
        about = about_node inner.about (count_by (is_about s) xs) (2 ^ 32 - 1) here p.about ∙ ap (λ (n : ℕ). min n (2 ^ 32 - 1)) (sym counted);
        encloses = rw (p.encloses, p.about) (or_comm (list_any has_all xs) (is_seq form && enough xs));
        near = p.near;
        fine = rw (p.fine, g) (and_turn (list_all slot_right xs) (home_right form xs) (implies (named_at role form) (holds around s) && role_right role));
      }

  inside_none : (form : Form) → home_right form [] ≡ true → Inside form [] [] nothing
  inside_none form h = record { about = refl; encloses = refl; near = refl; fine = sym h }

  inside_far : (form : Form) (xs : List Stand) (ns : List ℕ) (a : Seen) → home_right form xs ≡ true → Sees xs ns a → Inside form xs [] (far a)
  inside_far form xs ns a h p = record { about = p.about; encloses = p.encloses; near = refl; fine = rw h (p.fine ∙ sym (and_true (list_all slot_right xs))) }

  inside_home : (fs : Fields) (home : List ℕ) (xs : List Stand) (a : Seen) → Sees xs (near fs) a → Inside (seq fs home) xs (near fs) (with_home s total home a)
  inside_home fs home xs a p = record { about = p.about; encloses = p.encloses; near = p.near; fine = rw (p.fine, p.about, p.encloses, p.near) refl }

  regroup : (xs ys zs : List Stand) (ns ms ls : List ℕ) (r : Seen) → Sees ((xs ++ ys) ++ zs) ((ns ++ ms) ++ ls) r → Sees (xs ++ (ys ++ zs)) (ns ++ (ms ++ ls)) r
  regroup xs ys zs ns ms ls r p = rw (append_assoc xs ys zs, append_assoc ns ms ls) at p

  at_end : (xs : List Stand) (ns : List ℕ) (r : Seen) → Sees xs ns r → Sees (xs ++ []) (ns ++ []) r
  at_end xs ns r p = rw (append-nil xs, append-nil ns) p

  no_slot_near : (xs : List Stand) (ns : List ℕ) (a : Seen) → Sees xs ns a → Sees xs [] (inserted_near s total None a)
  no_slot_near xs ns a p = record { about = p.about; encloses = p.encloses; near = refl; fine = p.fine }

  slot_near : (xs : List Stand) (ns : List ℕ) (a : Seen) (t : ℕ) → Sees xs ns a → Sees xs (t ∷ []) (inserted_near s total (Some t) a)
  slot_near xs ns a t p = record { about = p.about; encloses = p.encloses; near = sym (or_false (nat_eq t s)); fine = p.fine }

  home_around : (home around : List ℕ) (in_home : Bool) → in_home ≡ holds around s → (in_home || holds home s) ≡ holds (home ++ around) s
  home_around home around in_home e = rw e (or_comm (holds around s) (holds home s) ∙ sym (holds-append home around s))

  -- what is near in alternatives, which their CHOICE keeps to itself
  abbrev near_cases : Alternatives → List ℕ
  near_cases no_alternatives = []
  near_cases (alternative name g tests more) = near_node g ++ near_cases more

  mutual
    pub sees_grammar : (g : Grammar) (role : Role) (path around : List ℕ) (in_home : Bool) → in_home ≡ holds around s
        → Sees (nodes role path around g) (near_node g) (seen s total in_home (is_slot s (slot_here role)) (tests_name s (own_tests role)) (role_right role) g)
    sees_grammar (node align form) role path around in_home h =
        sees_node form (near_form form) role path around align in_home (form_seen s total in_home form) (sees_form form path around in_home h) h

    pub sees_form : (form : Form) (path around : List ℕ) (in_home : Bool) → in_home ≡ holds around s → Inside form (form_nodes path around form) (near_form form) (form_seen s total in_home form)
    sees_form (num leaf) path around in_home h = inside_none (num leaf) refl
    sees_form (octets sizing) path around in_home h = inside_none (octets sizing) refl
    sees_form (bits sizing) path around in_home h = inside_none (bits sizing) refl
    sees_form (text leaf) path around in_home h = inside_none (text leaf) refl
    sees_form (seq fs home) path around in_home h =
        inside_home fs home (field_nodes path (home ++ around) 0 fs) (fields_seen s total (in_home || holds home s) nothing fs)
        (sees_fields fs path (home ++ around) 0 (in_home || holds home s) (home_around home around in_home h) [] [] nothing sees_none)
    sees_form (list sizing g) path around in_home h =
        inside_far (list sizing g) (nodes an_element (path ++ 0 ∷ []) around g) (near_node g) (seen s total in_home false false true g) refl (sees_grammar g an_element (path ++ 0 ∷ []) around in_home h)
    sees_form (choice cases rule) path around in_home h =
        inside_far (choice cases rule) (alternative_nodes rule path around 0 cases) (near_cases cases) (alternatives_seen s total in_home nothing cases) refl (sees_alternatives cases rule path around 0 in_home h [] [] nothing sees_none)
    sees_form (contained sizing g) path around in_home h =
        inside_far (contained sizing g) (nodes a_content (path ++ 0 ∷ []) around g) (near_node g) (seen s total in_home false false true g) refl (sees_grammar g a_content (path ++ 0 ∷ []) around in_home h)

    sees_fields : (fs : Fields) (path around : List ℕ) (k : ℕ) (in_home : Bool) → in_home ≡ holds around s → (xs : List Stand) (ns : List ℕ) (before : Seen) → Sees xs ns before
        → Sees (xs ++ field_nodes path around k fs) (ns ++ near fs) (fields_seen s total in_home before fs)
    sees_fields no_fields path around k in_home h xs ns before p = at_end xs ns before p
    sees_fields (component name g presence default own fs) path around k in_home h xs ns before p =
        let ys = nodes (component_role name presence default own) (path ++ k ∷ []) around g in
        let one = seen s total in_home (is_slot s own) (tests_name s (presence_tests presence)) (own_right s total own) g in
        let here = own_near s total own (through s total presence one) in
        let ms = slot_list own ++ near_if presence (near_node g) in
        rw (← append_assoc (slot_list own) (near_if presence (near_node g)) (near fs)) (regroup xs ys (field_nodes path around (suc k) fs) ns ms (near fs) (fields_seen s total in_home (joined before here) fs)
        (sees_fields fs path around (suc k) in_home h (xs ++ ys) (ns ++ ms) (joined before here)
        (sees_joined xs ys ns ms before here p
        (sees_own ys (near_if presence (near_node g)) (through s total presence one) own
        (sees_through ys (near_node g) one presence (sees_grammar g (component_role name presence default own) (path ++ k ∷ []) around in_home h))))))
    sees_fields (inserted name g None fs) path around k in_home h xs ns before p =
        let ys = nodes (an_inserted name None) (path ++ k ∷ []) around g in
        let one = seen s total in_home false false true g in
        regroup xs ys (field_nodes path around (suc k) fs) ns [] (near fs) (fields_seen s total in_home (joined before (inserted_near s total None one)) fs)
        (sees_fields fs path around (suc k) in_home h (xs ++ ys) (ns ++ []) (joined before (inserted_near s total None one))
        (sees_joined xs ys ns [] before (inserted_near s total None one) p
        (no_slot_near ys (near_node g) one (sees_grammar g (an_inserted name None) (path ++ k ∷ []) around in_home h))))
    sees_fields (inserted name g (Some t) fs) path around k in_home h xs ns before p =
        let ys = nodes (an_inserted name (Some t)) (path ++ k ∷ []) around g in
        let one = seen s total in_home (nat_eq t s) false true g in
        regroup xs ys (field_nodes path around (suc k) fs) ns (t ∷ []) (near fs) (fields_seen s total in_home (joined before (inserted_near s total (Some t) one)) fs)
        (sees_fields fs path around (suc k) in_home h (xs ++ ys) (ns ++ t ∷ []) (joined before (inserted_near s total (Some t) one))
        (sees_joined xs ys ns (t ∷ []) before (inserted_near s total (Some t) one) p
        (slot_near ys (near_node g) one t (sees_grammar g (an_inserted name (Some t)) (path ++ k ∷ []) around in_home h))))

    sees_alternatives : (as' : Alternatives) (rule : ChoiceRule) (path around : List ℕ) (k : ℕ) (in_home : Bool) → in_home ≡ holds around s → (xs : List Stand) (ns : List ℕ) (before : Seen) → Sees xs ns before
        → Sees (xs ++ alternative_nodes rule path around k as') (ns ++ near_cases as') (alternatives_seen s total in_home before as')
    sees_alternatives no_alternatives rule path around k in_home h xs ns before p = at_end xs ns before p
    sees_alternatives (alternative name g tests more) rule path around k in_home h xs ns before p =
        let ys = nodes (alternative_role name tests rule) (path ++ k ∷ []) around g in
        let one = seen s total in_home false (tests_name s tests) true g in
        regroup xs ys (alternative_nodes rule path around (suc k) more) ns (near_node g) (near_cases more) (alternatives_seen s total in_home (joined before one) more)
        (sees_alternatives more rule path around (suc k) in_home h (xs ++ ys) (ns ++ near_node g) (joined before one)
        (sees_joined xs ys ns (near_node g) before one p (sees_grammar g (alternative_role name tests rule) (path ++ k ∷ []) around in_home h)))
