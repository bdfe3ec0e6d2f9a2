-- A tree without a fault is sound at each of its nodes.
use Rattle.std.proofs.Common.{◌≡◌, ℕ, zero, suc, ◌+◌, ◌<◌, ◌≤◌, Bool, true, false, not, List, [], ◌∷◌, ◌++◌, length, map, Option, Some, None, refl, sym, ap, ◌∙◌, arith, subst, inl, inr, ◌⊎◌, nat_eq, nat_lt, nat_le, ◌&&◌, get_or, length-append}
use Rattle.std.proofs.lemmas.Bool.{false_from_ne_true, or_left, or_right, leb-true, ltb-true, and_parts, not-true, eqb-true}
use Rattle.std.specs.Prelude.{slice_get, Contains, cond, filter}
use Rattle.std.specs.List.{list_any, list_all, range_with_len}
use Rattle.std.proofs.lemmas.Bool.Decides.{nat_tests}
use Rattle.acn_grammar.specs.Asks.{same_name}
use Rattle.acn_grammar.specs.Check.{CheckFault, absent_unclear, det_width, no_item, too_many_open, Undecodable, HasOneWidth}
use Rattle.acn_grammar.specs.Fails.{count_of}
use Rattle.acn_grammar.specs.Grammar.{Grammar, Form, Fields, Alternatives, node, num, octets, bits, text, seq, list, choice, contained, no_fields, component, inserted, no_alternatives, alternative}
use Rattle.acn_grammar.specs.Interval.{width_of}
use Rattle.acn_grammar.specs.Leaves.{all_differ, num_fine}
use Rattle.acn_grammar.specs.Length.{ending}
use Rattle.acn_grammar.specs.Scoped.{Known, with_slot, with_own, choose_known, after, fields_after}
use Rattle.acn_grammar.specs.Slots.{items_of, slot_leaf, fields_leaf, alternatives_leaf, number_leaf, first_of_two}
use Rattle.acn_grammar.specs.Sound.{field_count, PresenceSound, NothingLeaves, NothingLeavesIt, OneWidth, IsNull, SaysSlot, OwnSound, SequenceSound, RuleSound, Sound, FormSound, FieldsSound, AlternativesSound}
use Rattle.acn_grammar.specs.Tree.{IsTree, holds, slots_of, same_numbers, is_slot, is_home, has_tests, choice_rule_fine, presence_fine, own_fine, inserted_fine, stand_rules, all_true, near, near_form}
use Rattle.acn_grammar.specs.Walk.{Stand, Role, component_role, an_inserted, alternative_role, an_element, a_content, root_node, nodes, nodes_of, form_nodes, field_nodes, alternative_nodes, slot_here, conditions_of}
use Rattle.acn_grammar.specs.declared.node.ChoiceRule.{ChoiceRule}
use Rattle.acn_grammar.specs.declared.node.ChoiceRule.TheVariants.{Index, Tests, Item}
use Rattle.acn_grammar.specs.declared.node.Presence.{Presence}
use Rattle.acn_grammar.specs.declared.node.Presence.TheVariants.{Always, Bit, When}
use Rattle.acn_grammar.specs.declared.node.Test.{Test}
use Rattle.acn_packet_laws.proofs.Accepted.{tests_known, end_told}
use Rattle.acn_packet_laws.proofs.Homes.{out, truth, Homed, root_homed, in_fields, in_one, in_left, in_right, slot_open, whole_node, whole_fields, whole_cases}
use Rattle.acn_packet_laws.proofs.Overlaps.{no_overlap}
use Rattle.acn_packet_laws.proofs.Placed.{here_at, twice, slot_in, cond_holds, range-above, holds_left, home_near, place_fine, to_fields, to_one, to_cases, first_component, next_component, first_inserted, next_inserted, first_case, next_case, any_left, field_is, has_field, root_place, holds_either, inside_near, is_number, own_number, inserted_number}
use Rattle.acn_packet_laws.proofs.Scoping.{At, FieldsAt, CasesAt, numbers, rules, Knows, Fresh, own_known, form_known, step_in, fields_in, knows_left, knows_right, component_behind, inserted_behind, inserted_is, only_slot, not_home, outer_home, tests_in, rule_in, get_here, after_from, keeps, fields_near_after, optional_none}
use Rattle.acn_packet_laws.proofs.SlotLeaves.{Leafed, below, no_fields_leaf, no_cases_leaf, leafed_one, leafed_first, leafed_next, leafed_case, leafed_next_case, leafed_here}
use Rattle.acn_packet_laws.proofs.WidthBack.{width_is}
use Rattle.acn_grammar.proofs.WidthLaw.{width_holds}
use Rattle.acn_grammar.proofs.Characters.{same_name-is}
use Rattle.acn_packet_laws.proofs.SlotNumbers.{only_null}
use Rattle.acn_packet_laws.proofs.SoundSlots.{some_behind}
use Rattle.acn_packet_laws.proofs.Tuples.{first_four, fourth_five, last_five, last_four, last_three, last_two, second_five}
use Rattle.acn_grammar.proofs.WholeTests.{either}
use Rattle.acn_grammar.proofs.SlotLists.{same_eq}

-- Numbers.

le_not : (n m : ℕ) → nat_le n m ≡ false → m < n
le_not n m h = grind (arith, nat_tests)

pub at_most : (n m : ℕ) → (m < n → ⊥) → n ≤ m
at_most n m f = truth {F = n ≤ m} (nat_le n m) (λ e. leb-true n m e) (λ e. absurd (f (le_not n m e)))

pub one_step : (path : List ℕ) (i d : ℕ) → suc (length path) ≡ d → length (path ++ i ∷ []) ≡ d
one_step path i d e = let c = length-append path (i ∷ []) in omega arith

-- Lists of names.

same_refl : (xs : List ℕ) → same_name xs xs ≡ true
same_refl [] = refl
same_refl (x ∷ xs) = both (nat_eq x x) (same_name xs xs) (same_eq x) (same_refl xs)
  where
    both : (a b : Bool) → a ≡ true → b ≡ true → (a && b) ≡ true
    both true b h k = k
    both false b h k = cc

names_contain : (xs : List (List ℕ)) (name : List ℕ) → list_any (same_name name) xs ≡ true → Contains xs name
names_contain [] name h = cc
names_contain (x ∷ xs) name h = either {F = Contains (x ∷ xs) name} (same_name name x) (list_any (same_name name) xs) h
    (λ q. (zero, omega arith, sym (same_name-is name x q)))
    (λ q. let r = names_contain xs name q in (suc r.0, (let l = r.1 in omega (arith, l)), r.2))

pub got_name : (xs : List (List ℕ)) (name : List ℕ) (k : ℕ) → k < length xs → get_or xs k name ≡ name → list_any (same_name name) xs ≡ true
got_name [] name k l e = absurd (omega arith)
got_name (x ∷ xs) name zero l e = or_left (same_name name x) (list_any (same_name name) xs) (ap (same_name name) e ∙ same_refl name)
got_name (x ∷ xs) name (suc k) l e = or_right (same_name name x) (list_any (same_name name) xs) (got_name xs name k (omega arith) e)

find_name : (cs : List (List ℕ × List Test)) (name : List ℕ) (k : ℕ) → k < length (map (λ c. c.0) cs) → get_or (map (λ c. c.0) cs) k name ≡ name → (ts : List Test) × (slice_get cs k ≡ Some (name, ts))
find_name [] name k l e = absurd (omega arith)
find_name (c ∷ cs) name zero l e = (c.1, ap (λ n. Some (n, c.1)) e)
find_name (c ∷ cs) name (suc k) l e = find_name cs name k (omega arith) e

-- Counts of fields.

node_counts : (role : Role) (path around : List ℕ) (g : Grammar) → 1 ≤ length (nodes role path around g)
node_counts role path around (node align form) = omega arith

fields_count : (fs : Fields) (path around : List ℕ) (k : ℕ) → field_count fs ≤ length (field_nodes path around k fs)
fields_count no_fields path around k = omega arith
fields_count (component name g presence default own fs) path around k =
    let c = length-append (nodes (component_role name presence default own) (path ++ k ∷ []) around g) (field_nodes path around (suc k) fs) in
    let one = node_counts (component_role name presence default own) (path ++ k ∷ []) around g in
    let rest = fields_count fs path around (suc k) in
    omega arith
fields_count (inserted name g slot fs) path around k =
    let c = length-append (nodes (an_inserted name slot) (path ++ k ∷ []) around g) (field_nodes path around (suc k) fs) in
    let one = node_counts (an_inserted name slot) (path ++ k ∷ []) around g in
    let rest = fields_count fs path around (suc k) in
    omega arith

cases_count : (cases : Alternatives) (rule : ChoiceRule) (path around : List ℕ) (k : ℕ) → count_of cases ≤ length (alternative_nodes rule path around k cases)
cases_count no_alternatives rule path around k = omega arith
cases_count (alternative name g tests more) rule path around k =
    let c = length-append (nodes (alternative_role name tests rule) (path ++ k ∷ []) around g) (alternative_nodes rule path around (suc k) more) in
    let one = node_counts (alternative_role name tests rule) (path ++ k ∷ []) around g in
    let rest = cases_count more rule path around (suc k) in
    omega arith

-- Some of the numbers of a range differ.

any_holds : (xs : List ℕ) (x : ℕ) → list_any (nat_eq x) xs ≡ true → holds xs x ≡ true
any_holds [] x h = cc
any_holds (y ∷ xs) x h = either {F = holds (y ∷ xs) x ≡ true} (nat_eq x y) (list_any (nat_eq x) xs) h
    (λ q. or_left (nat_eq y x) (holds xs x) (flip q)) (λ q. or_right (nat_eq y x) (holds xs x) (any_holds xs x q))
  where
    flip : nat_eq x y ≡ true → nat_eq y x ≡ true
    flip q = grind (arith, nat_tests)

filter_in : (p : ℕ → Bool) (xs : List ℕ) (s : ℕ) → holds (filter p xs) s ≡ true → holds xs s ≡ true
filter_in p [] s h = cc
filter_in p (x ∷ xs) s h = cond_holds {F = holds (x ∷ xs) s ≡ true} (p x) x s (filter p xs) h (λ t e. or_left (nat_eq x s) (holds xs s) (subst (λ z. nat_eq x z ≡ true) e (same_eq x))) (λ q. or_right (nat_eq x s) (holds xs s) (filter_in p xs s q))

filter_differs : (p : ℕ → Bool) (xs : List ℕ) (a n : ℕ) → same_numbers xs (range_with_len a n) ≡ true → all_differ nat_eq (filter p xs) ≡ true
filter_differs p [] a n h = refl
filter_differs p (x ∷ xs) a zero h = cc
filter_differs p (x ∷ xs) a (suc n) h =
    let f = and_parts (nat_eq x a) (same_numbers xs (range_with_len (a + 1) n)) h in
    let is = eqb-true x a f.0 in
    by (p x) (false_from_ne_true (list_any (nat_eq x) (filter p xs)) (λ q. (let r = range-above xs (a + 1) n x f.1 (filter_in p xs x (any_holds (filter p xs) x q)) in absurd (omega (arith, is, r))))) (filter_differs p xs (a + 1) n f.1)
  where
    both : (u v : Bool) → u ≡ false → v ≡ true → (not u && v) ≡ true
    both false true h k = refl
    both true v h k = cc
    both u false h k = cc

    by : (t : Bool) → list_any (nat_eq x) (filter p xs) ≡ false → all_differ nat_eq (filter p xs) ≡ true → all_differ nat_eq (cond t (x ∷ filter p xs) (filter p xs)) ≡ true
    by true n' d = both (list_any (nat_eq x) (filter p xs)) (all_differ nat_eq (filter p xs)) n' d
    by false n' d = d

nothing_it : (presence : Presence) (ks : Known) (g : Grammar) → ((presence ≡ Always → ⊥) → NothingLeaves ks g) → NothingLeavesIt presence ks g
nothing_it Always ks g f = tt
nothing_it Bit ks g f = f (λ e. cc)
nothing_it (When ts) ks g f = f (λ e. cc)

-- What is known behind a node was known before it, or is at home round it.
module _ (root : Grammar) where
  says_open : (around : List ℕ) (ks : Known) (s : ℕ) (g : Grammar) → SaysSlot root around ks s g → holds around s ≡ true
  says_open around ks s (node align (num leaf)) h = h.0
  says_open around ks s (node align (octets sizing)) h = absurd h
  says_open around ks s (node align (bits sizing)) h = absurd h
  says_open around ks s (node align (text leaf)) h = absurd h
  says_open around ks s (node align (seq _ home)) h = absurd h
  says_open around ks s (node align (list sizing g)) h = absurd h
  says_open around ks s (node align (choice cases rule)) h = absurd h
  says_open around ks s (node align (contained sizing g)) h = absurd h

  pub own_open : (around : List ℕ) (before : Known) (own : Option ℕ) (presence : Presence) (g : Grammar) → OwnSound root around before own presence g → (ks : Known) (s : ℕ) → with_own own ks s ≡ true → (ks s ≡ true) ⊎ (holds around s ≡ true)
  own_open around before None presence g h ks s e = inl e
  own_open around before (Some t) presence g h ks s e = either {F = (ks s ≡ true) ⊎ (holds around s ≡ true)} (nat_eq t s) (ks s) e
      (λ q. inr (subst (λ n. holds around n ≡ true) (eqb-true t s q) (says_open around before t g h.1)))
      (λ q. inl q)

  mutual
    pub sound_after : (g : Grammar) (d : ℕ) (around : List ℕ) (ks : Known) → Sound root d around ks g → (s : ℕ) → after ks g s ≡ true → (ks s ≡ true) ⊎ (holds around s ≡ true)
    sound_after (node align (seq fields home)) d around ks h s e =
        let f = and_parts (fields_after ks fields s) (not (holds home s)) e in
        out {F = (ks s ≡ true) ⊎ (holds around s ≡ true)} (sound_fields_after fields (suc d) (home ++ around) ks (last_two (last_three h)) s f.0)
        (λ q. inl q)
        (λ q. holds_either {F = (ks s ≡ true) ⊎ (holds around s ≡ true)} home around s q (λ r. let no = not-true (holds home s) f.1 in cc) (λ r. inr r))
    sound_after (node align (num leaf)) d around ks h s e = inl e
    sound_after (node align (octets sizing)) d around ks h s e = inl e
    sound_after (node align (bits sizing)) d around ks h s e = inl e
    sound_after (node align (text leaf)) d around ks h s e = inl e
    sound_after (node align (list sizing g)) d around ks h s e = inl e
    sound_after (node align (choice cases rule)) d around ks h s e = inl e
    sound_after (node align (contained sizing g)) d around ks h s e = inl e

    pub sound_fields_after : (fs : Fields) (d : ℕ) (around : List ℕ) (ks : Known) → FieldsSound root d around ks fs → (s : ℕ) → fields_after ks fs s ≡ true → (ks s ≡ true) ⊎ (holds around s ≡ true)
    sound_fields_after no_fields d around ks h s e = inl e
    sound_fields_after (component name g Always default own fs) d around ks h s e =
        out {F = (ks s ≡ true) ⊎ (holds around s ≡ true)} (sound_fields_after fs d around (with_own own (after ks g)) (last_five h) s e)
        (λ q. out {F = (ks s ≡ true) ⊎ (holds around s ≡ true)} (own_open around ks own Always g (second_five h) (after ks g) s q) (λ r. sound_after g d around ks (fourth_five h) s r) (λ r. inr r))
        (λ q. inr q)
    sound_fields_after (component name g Bit default own fs) d around ks h s e = sound_fields_after fs d around ks (last_five h) s e
    sound_fields_after (component name g (When ts) default own fs) d around ks h s e = sound_fields_after fs d around ks (last_five h) s e
    sound_fields_after (inserted name g (Some t) fs) d around ks h s e =
        out {F = (ks s ≡ true) ⊎ (holds around s ≡ true)} (sound_fields_after fs d around (with_slot t ks) (last_four h) s e)
        (λ q. own_open around ks (Some t) Always g (refl, first_four h) ks s q)
        (λ q. inr q)
    sound_fields_after (inserted name g None fs) d around ks h s e = sound_fields_after fs d around ks (last_three h) s e

  -- the number that says a slot
  says : (around : List ℕ) (ks : Known) (s align : ℕ) (form : Form) → is_number form ≡ true → holds around s ≡ true → ks s ≡ false → slot_leaf root s ≡ number_leaf (node align form) → SaysSlot root around ks s (node align form)
  says around ks s align (num leaf) n o f e = (o, f, e)
  says around ks s align (octets sizing) n o f e = cc
  says around ks s align (bits sizing) n o f e = cc
  says around ks s align (text leaf) n o f e = cc
  says around ks s align (seq _ home) n o f e = cc
  says around ks s align (list sizing g) n o f e = cc
  says around ks s align (choice cases rule) n o f e = cc
  says around ks s align (contained sizing g) n o f e = cc

module _ (root : Grammar) (tree : IsTree root) (sound : (f : CheckFault) → Undecodable root f → ⊥) where
  abbrev all : List Stand
  all = nodes_of root

  few_nodes : length all ≤ 65536
  few_nodes = leb-true (length all) 65536 (and_parts (nat_le (length all) 65536) (same_numbers (slots_of all) (range_with_len 0 (length (slots_of all))) && list_all (λ at. all_true (stand_rules all at)) all) tree).0

  is_here : (pre : List Stand) (role : Role) (path around : List ℕ) (align : ℕ) (form : Form) (post : List Stand) → At root tree sound pre role path around (node align form) post → slice_get all (length pre) ≡ Some (here_at role path around align form)
  is_here pre role path around align form post p = ap (λ l. slice_get l (length pre)) p.whole ∙ get_here pre (here_at role path around align form) (form_nodes path around form ++ post)

  -- nothing leaves a node in which no open slot has its field
  nothing : (g : Grammar) (pre : List Stand) (role : Role) (path around : List ℕ) (post : List Stand) → At root tree sound pre role path around g post → (ks : Known) → Fresh ks pre → (d : ℕ) → Sound root d around ks g
      → ((s : ℕ) → holds around s ≡ true → has_field s (nodes role path around g) ≡ true → ⊥) → NothingLeaves ks g
  nothing g pre role path around post p ks fresh d h none s =
      truth {F = after ks g s ≡ ks s} (ks s)
      (λ k. keeps root tree sound g pre role path around post p ks fresh s k ∙ sym k)
      (λ k. truth {F = after ks g s ≡ ks s} (after ks g s)
      (λ a. out {F = after ks g s ≡ ks s} (sound_after root g d around ks h s a)
      (λ q. cc)
      (λ o. absurd (either {F = ⊥} (ks s) (has_field s (nodes role path around g)) (after_from g role path around ks s a) (λ q. cc) (λ q. none s o q))))
      (λ a. a ∙ sym k))

  -- a component has one condition
  one_condition : (pre : List Stand) (name : List ℕ) (presence : Presence) (default : Option (List ℕ)) (own : Option ℕ) (path around : List ℕ) (align : ℕ) (form : Form) (post : List Stand) → At root tree sound pre (component_role name presence default own) path around (node align form) post → (ks : Known) → Knows ks pre around (nodes (component_role name presence default own) path around (node align form)) → PresenceSound ks presence
  one_condition pre name Always default own path around align form post p ks knows = tt
  one_condition pre name Bit default own path around align form post p ks knows = tt
  one_condition pre name (When ts) default own path around align form post p ks knows =
      let fine = place_fine all (numbers root tree sound) (rules root tree sound) pre (component_role name (When ts) default own) path around align form post p in
      let some = ltb-true 0 (length ts) (and_parts (presence_fine (When ts)) (own_fine own (When ts) form) fine.role).0 in
      let few = at_most (length ts) 1 (λ h. sound (absent_unclear path) (record { node = length pre; use_here = 0; holds = record { at = here_at (component_role name (When ts) default own) path around align form; is_at = is_here pre (component_role name (When ts) default own) path around align form post p; path_is = refl; more = h } })) in
      ((omega arith), tests_in ks ts (own_known root tree sound pre (component_role name (When ts) default own) path around (node align form) post p ks knows))

  -- a slot whose field stands here isn't known yet
  not_known : (pre : List Stand) (role : Role) (path around : List ℕ) (g : Grammar) (post : List Stand) → At root tree sound pre role path around g post → (ks : Known) → Fresh ks pre → (s : ℕ) → is_slot s (slot_here role) ≡ true → ks s ≡ false
  not_known pre role path around g post p ks fresh s h =
      false_from_ne_true (ks s) (λ k. twice all (numbers root tree sound) (rules root tree sound) pre (nodes role path around g ++ post) p.whole s (fresh s k) (any_left (field_is s) (nodes role path around g) post (slot_in role path around g s h)))

  -- an inserted number that says no slot is a NULL
  null_here : (align : ℕ) (form : Form) → inserted_fine None form ≡ true → IsNull (node align form)
  null_here align (num leaf) h = only_null leaf.kind h
  null_here align (octets sizing) h = cc
  null_here align (bits sizing) h = cc
  null_here align (text leaf) h = cc
  null_here align (seq _ home) h = cc
  null_here align (list sizing g) h = cc
  null_here align (choice cases rule) h = cc
  null_here align (contained sizing g) h = cc

  -- a component whose number is a slot's
  own_sound : (pre : List Stand) (name : List ℕ) (presence : Presence) (default : Option (List ℕ)) (own : Option ℕ) (path around : List ℕ) (align : ℕ) (form : Form) (post : List Stand) → At root tree sound pre (component_role name presence default own) path around (node align form) post → (ks : Known) → Fresh ks pre → Homed root tree sound around (nodes (component_role name presence default own) path around (node align form))
      → ((s : ℕ) → is_slot s own ≡ true → slot_leaf root s ≡ number_leaf (node align form)) → OwnSound root around ks own presence (node align form)
  own_sound pre name presence default None path around align form post p ks fresh homed leaf = tt
  own_sound pre name presence default (Some s) path around align form post p ks fresh homed leaf =
      let fine = place_fine all (numbers root tree sound) (rules root tree sound) pre (component_role name presence default (Some s)) path around align form post p in
      let is = own_number (Some s) presence form s (and_parts (presence_fine presence) (own_fine (Some s) presence form) fine.role).1 (same_eq s) in
      (is.0, says root around ks s align form is.1 (slot_open root tree sound (component_role name presence default (Some s)) path around align form s is.1 (same_eq s) homed) (not_known pre (component_role name presence default (Some s)) path around (node align form) post p ks fresh s (same_eq s)) (leaf s (same_eq s)))

  -- the one width of an inserted field
  width : (pre : List Stand) (name path around : List ℕ) (s align : ℕ) (form : Form) (post : List Stand) → At root tree sound pre (an_inserted name (Some s)) path around (node align form) post → is_number form ≡ true → slot_leaf root s ≡ number_leaf (node align form) → OneWidth (node align form)
  width pre name path around s align (num leaf) post p n e = by (width_of leaf) refl
    where
      fine : num_fine leaf ≡ true
      fine = (place_fine all (numbers root tree sound) (rules root tree sound) pre (an_inserted name (Some s)) path around align (num leaf) post p).form

      bad : (HasOneWidth leaf → ⊥) → ⊥
      bad f = sound (det_width path) (record {
        node = length pre;
        use_here = 0;
        holds = record {
          at = here_at (an_inserted name (Some s)) path around align (num leaf);
          is_at = is_here pre (an_inserted name (Some s)) path around align (num leaf) post p;
          path_is = refl;
          slot = s;
          slot_is = refl;
          leaf = leaf;
          leaf_is = e;
          no_width = f;
        };
      })

      by : (o : Option ℕ) → width_of leaf ≡ o → HasOneWidth leaf
      by None k = absurd (bad (λ t. let is = width_is leaf t.width fine t.all_codes in cc))
      by (Some w) k = record {
        width = w;
        all_codes = width_holds leaf w fine k;
        narrow = at_most w 64 (λ h. bad (λ t. let is = width_is leaf t.width fine t.all_codes in let same : w ≡ t.width = cc in let low = t.narrow in absurd (omega (arith, low, same, h))));
      }
  width pre name path around s align (octets sizing) post p n e = cc
  width pre name path around s align (bits sizing) post p n e = cc
  width pre name path around s align (text leaf) post p n e = cc
  width pre name path around s align (seq _ home) post p n e = cc
  width pre name path around s align (list sizing g) post p n e = cc
  width pre name path around s align (choice cases rule) post p n e = cc
  width pre name path around s align (contained sizing g) post p n e = cc

  -- each alternative under a determinant has an item
  items : (pre : List Stand) (role : Role) (path around : List ℕ) (align : ℕ) (cases : Alternatives) (s : ℕ) (post : List Stand) → At root tree sound pre role path around (node align (choice cases (Item s))) post
      → (name : List ℕ) → Contains (map (λ c. c.0) (conditions_of cases)) name → Contains (map (λ e. e.0) (items_of root s)) name
  items pre role path around align cases s post p name c =
      truth {F = Contains (map (λ e. e.0) (items_of root s)) name} (list_any (same_name name) (map (λ e. e.0) (items_of root s)))
      (λ h. names_contain (map (λ e. e.0) (items_of root s)) name h)
      (λ h.
      let f = find_name (conditions_of cases) name c.0 c.1 c.2 in
      absurd (sound (no_item path c.0) (record {
        node = length pre;
        use_here = 0;
        holds = record {
          cases = cases;
          slot = s;
          choice_is = record { at = here_at role path around align (choice cases (Item s)); is_at = is_here pre role path around align (choice cases (Item s)) post p; path_is = refl; form_is = (refl, refl) };
          name = name;
          tests = f.0;
          is_alternative = f.1;
          no_item = λ d. let got = got_name (map (λ e. e.0) (items_of root s)) name d.0 d.1 d.2 in cc;
        };
      })))

  few_open : (pre : List Stand) (role : Role) (path around : List ℕ) (align : ℕ) (fields : Fields) (home : List ℕ) (post : List Stand) → At root tree sound pre role path around (node align (seq fields home)) post → length home + length around ≤ 256
  few_open pre role path around align fields home post p =
      at_most (length home + length around) 256 (λ h. sound (too_many_open path (length home + length around)) (record { node = length pre; use_here = 0; holds = record { at = here_at role path around align (seq fields home); is_at = is_here pre role path around align (seq fields home) post p; path_is = refl; count_is = refl; many = h } }))

  few_fields : (pre : List Stand) (role : Role) (path around : List ℕ) (align : ℕ) (fields : Fields) (home : List ℕ) (post : List Stand) → At root tree sound pre role path around (node align (seq fields home)) post → field_count fields ≤ 65536
  few_fields pre role path around align fields home post p =
      let inner = field_nodes path (home ++ around) 0 fields in
      let whole = ap length p.whole in
      let one = length-append pre ((here_at role path around align (seq fields home) ∷ field_nodes path (home ++ around) 0 fields) ++ post) in
      let two = length-append (field_nodes path (home ++ around) 0 fields) post in
      let few = few_nodes in
      let count = fields_count fields path (home ++ around) 0 in
      omega arith

  few_cases : (pre : List Stand) (role : Role) (path around : List ℕ) (align : ℕ) (cases : Alternatives) (rule : ChoiceRule) (post : List Stand) → At root tree sound pre role path around (node align (choice cases rule)) post → count_of cases ≤ 65536
  few_cases pre role path around align cases rule post p =
      let inner = alternative_nodes rule path around 0 cases in
      let whole = ap length p.whole in
      let one = length-append pre ((here_at role path around align (choice cases rule) ∷ alternative_nodes rule path around 0 cases) ++ post) in
      let two = length-append (alternative_nodes rule path around 0 cases) post in
      let few = few_nodes in
      let count = cases_count cases rule path around 0 in
      omega arith

  -- the slots at home are named once
  once : (home : List ℕ) (p : ℕ → Bool) → same_numbers home (filter p (slots_of all)) ≡ true → all_differ nat_eq home ≡ true
  once home p h = ap (all_differ nat_eq) (same_name-is home (filter p (slots_of all)) h) ∙ filter_differs p (slots_of all) 0 (length (slots_of all)) (numbers root tree sound)

  sequence : (pre : List Stand) (role : Role) (path around : List ℕ) (align : ℕ) (fields : Fields) (home : List ℕ) (post : List Stand) → At root tree sound pre role path around (node align (seq fields home)) post → (ks : Known) → Knows ks pre around (nodes role path around (node align (seq fields home)))
      → (d : ℕ) → FieldsSound root d (home ++ around) ks fields → SequenceSound root around ks fields home
  sequence pre role path around align fields home post p ks knows d inner =
      let here = here_at role path around align (seq fields home) in
      let fine = place_fine all (numbers root tree sound) (rules root tree sound) pre role path around align (seq fields home) post p in
      let more = fields_in root tree sound pre role path around align fields home post p ks knows in
      let read : (s : ℕ) → holds home s ≡ true → fields_after ks fields s ≡ true = λ s h. fields_near_after root tree sound fields (pre ++ here_at role path around align (seq fields home) ∷ []) path (home ++ around) 0 post (to_fields all (numbers root tree sound) (rules root tree sound) pre role path around align fields home post p) ks more.fresh s (holds_left home around s h) (home_near all (numbers root tree sound) (rules root tree sound) here fields home fine.home s h) in
      record {
        few_fields = few_fields pre role path around align fields home post p;
        names_differ = fine.form;
        few_open = few_open pre role path around align fields home post p;
        named_once = once home (λ s. is_home all s here) (and_parts (same_numbers home (filter (λ s. is_home all s here) (slots_of all))) (list_all (holds (near fields)) home) fine.home).0;
        unknown = λ s h. not_home root tree sound pre role path around align fields home post p s (knows.fresh s h);
        not_around = λ s o. outer_home root tree sound pre role path around align fields home post p s o;
        read_inside = read;
        permits = λ s h. some_behind root fields d (home ++ around) ks inner s (false_from_ne_true (ks s) (λ k. (let n = not_home root tree sound pre role path around align fields home post p s (knows.fresh s k) in cc))) (read s h);
      }

  chosen : (pre : List Stand) (role : Role) (path around : List ℕ) (align : ℕ) (cases : Alternatives) (rule : ChoiceRule) (post : List Stand) → At root tree sound pre role path around (node align (choice cases rule)) post → (ks : Known) → Knows ks pre around (nodes role path around (node align (choice cases rule))) → RuleSound root ks cases rule
  chosen pre role path around align cases (Index w) post p ks knows = tt
  chosen pre role path around align cases Tests post p ks knows =
      let here = here_at role path around align (choice cases Tests) in
      let inner = to_cases all (numbers root tree sound) (rules root tree sound) pre role path around align cases Tests post p in
      let more = step_in root tree sound pre role path around align (choice cases Tests) post p refl ks knows in
      let fine = (place_fine all (numbers root tree sound) (rules root tree sound) pre role path around align (choice cases Tests) post p).form in
      let f = and_parts (nat_lt 0 (length (conditions_of cases))) (all_differ same_name (map (λ c. c.0) (conditions_of cases)) && choice_rule_fine (conditions_of cases) Tests) fine in
      let g = and_parts (all_differ same_name (map (λ c. c.0) (conditions_of cases))) (list_any has_tests (conditions_of cases)) f.1 in
      (tests_known root tree sound cases (pre ++ here ∷ []) Tests path around 0 post inner ks more, no_overlap root sound (length pre) here cases (is_here pre role path around align (choice cases Tests) post p) (refl, refl) g.1)
  chosen pre role path around align cases (Item s) post p ks knows =
      (form_known root tree sound pre role path around align (choice cases (Item s)) post p ks knows s (or_left (nat_eq s s) false (same_eq s)), items pre role path around align cases s post p)

  -- what an element or a content holds is no field of an open slot
  none_in_one : (pre : List Stand) (role : Role) (path around : List ℕ) (align : ℕ) (form : Form) (post : List Stand) → near_form form ≡ [] → At root tree sound pre role path around (node align form) post → (s : ℕ) → holds around s ≡ true → has_field s (form_nodes path around form) ≡ true → ⊥
  none_in_one pre role path around align form post empty p s o h =
      let n = inside_near all (numbers root tree sound) (rules root tree sound) pre role path around align form post p s o h in
      let none : holds (near_form form) s ≡ false = ap (λ l. holds l s) empty in
      cc

  -- all that a walk keeps of a node
  record Kept (pre : List Stand) (role : Role) (path around : List ℕ) (g : Grammar) (ks : Known) : Type 0 where
    knows : Knows ks pre around (nodes role path around g)
    homed : Homed root tree sound around (nodes role path around g)
    leafed : Leafed root tree sound (below root tree sound path around g) (slot_leaf g)

  mutual
    sound_node : (g : Grammar) (pre : List Stand) (role : Role) (path around : List ℕ) (post : List Stand) → At root tree sound pre role path around g post → (ks : Known) → Kept pre role path around g ks → (d : ℕ) → length path ≡ d → Sound root d around ks g
    sound_node (node align form) pre role path around post p ks kept d e =
        let fine = place_fine all (numbers root tree sound) (rules root tree sound) pre role path around align form post p in
        let low = leb-true (length path) 64 fine.depth in
        (fine.align, (omega (arith, low, e)), sound_form form pre role path around align post p ks kept d e)

    sound_form : (form : Form) (pre : List Stand) (role : Role) (path around : List ℕ) (align : ℕ) (post : List Stand) → At root tree sound pre role path around (node align form) post → (ks : Known) → Kept pre role path around (node align form) ks → (d : ℕ) → length path ≡ d → FormSound root d around ks form
    sound_form (num leaf) pre role path around align post p ks kept d e = (place_fine all (numbers root tree sound) (rules root tree sound) pre role path around align (num leaf) post p).form
    sound_form (octets sizing) pre role path around align post p ks kept d e =
        ((place_fine all (numbers root tree sound) (rules root tree sound) pre role path around align (octets sizing) post p).form, rule_in ks sizing.rule (form_known root tree sound pre role path around align (octets sizing) post p ks kept.knows))
    sound_form (bits sizing) pre role path around align post p ks kept d e =
        ((place_fine all (numbers root tree sound) (rules root tree sound) pre role path around align (bits sizing) post p).form, rule_in ks sizing.rule (form_known root tree sound pre role path around align (bits sizing) post p ks kept.knows))
    sound_form (text leaf) pre role path around align post p ks kept d e =
        ((place_fine all (numbers root tree sound) (rules root tree sound) pre role path around align (text leaf) post p).form, rule_in ks leaf.sized.rule (form_known root tree sound pre role path around align (text leaf) post p ks kept.knows))
    sound_form (seq fields home) pre role path around align post p ks kept d e =
        let inner = sound_fields fields (pre ++ here_at role path around align (seq fields home) ∷ []) path (home ++ around) 0 post (to_fields all (numbers root tree sound) (rules root tree sound) pre role path around align fields home post p) ks (fields_in root tree sound pre role path around align fields home post p ks kept.knows)
        (in_fields root tree sound pre role path around align fields home post p kept.homed) kept.leafed (suc d) (ap suc e) in
        (sequence pre role path around align fields home post p ks kept.knows (suc d) inner, inner)
    sound_form (list sizing g) pre role path around align post p ks kept d e =
        let here = here_at role path around align (list sizing g) in
        let place = to_one all (numbers root tree sound) (rules root tree sound) pre role path around align (list sizing g) post an_element (path ++ 0 ∷ []) g refl refl p in
        let knows' = step_in root tree sound pre role path around align (list sizing g) post p refl ks kept.knows in
        let inner = sound_node g (pre ++ here_at role path around align (list sizing g) ∷ []) an_element (path ++ 0 ∷ []) around post place ks (record {
          knows = knows';
          homed = in_one root tree sound role path around align (list sizing g) refl kept.homed;
          leafed = leafed_one root tree sound an_element (path ++ 0 ∷ []) around g (slot_leaf g) kept.leafed;
        }) (suc d) (one_step path 0 (suc d) (ap suc e)) in (
          (place_fine all (numbers root tree sound) (rules root tree sound) pre role path around align (list sizing g) post p).form,
          rule_in ks sizing.rule (form_known root tree sound pre role path around align (list sizing g) post p ks kept.knows),
          end_told root tree sound pre role path around align sizing g post p (ending sizing.rule) refl,
          nothing g (pre ++ here ∷ []) an_element (path ++ 0 ∷ []) around post place ks knows'.fresh (suc d) inner (none_in_one pre role path around align (list sizing g) post refl p),
          inner,
        )
    sound_form (contained sizing g) pre role path around align post p ks kept d e =
        let here = here_at role path around align (contained sizing g) in
        let place = to_one all (numbers root tree sound) (rules root tree sound) pre role path around align (contained sizing g) post a_content (path ++ 0 ∷ []) g refl refl p in
        let knows' = step_in root tree sound pre role path around align (contained sizing g) post p refl ks kept.knows in
        let inner = sound_node g (pre ++ here_at role path around align (contained sizing g) ∷ []) a_content (path ++ 0 ∷ []) around post place ks (record {
          knows = knows';
          homed = in_one root tree sound role path around align (contained sizing g) refl kept.homed;
          leafed = leafed_one root tree sound a_content (path ++ 0 ∷ []) around g (slot_leaf g) kept.leafed;
        }) (suc d) (one_step path 0 (suc d) (ap suc e)) in (
          (place_fine all (numbers root tree sound) (rules root tree sound) pre role path around align (contained sizing g) post p).form,
          rule_in ks sizing.rule (form_known root tree sound pre role path around align (contained sizing g) post p ks kept.knows),
          nothing g (pre ++ here ∷ []) a_content (path ++ 0 ∷ []) around post place ks knows'.fresh (suc d) inner (none_in_one pre role path around align (contained sizing g) post refl p),
          inner,
        )
    sound_form (choice cases rule) pre role path around align post p ks kept d e = (
      (place_fine all (numbers root tree sound) (rules root tree sound) pre role path around align (choice cases rule) post p).form,
      few_cases pre role path around align cases rule post p,
      chosen pre role path around align cases rule post p ks kept.knows,
      sound_cases cases (pre ++ here_at role path around align (choice cases rule) ∷ []) rule path around 0 post (to_cases all (numbers root tree sound) (rules root tree sound) pre role path around align cases rule post p) ks (step_in root tree sound pre role path around align (choice cases rule) post p refl ks kept.knows)
          (in_one root tree sound role path around align (choice cases rule) refl kept.homed) kept.leafed (suc d) (ap suc e),
    )

    sound_fields : (fs : Fields) (pre : List Stand) (path around : List ℕ) (k : ℕ) (post : List Stand) → FieldsAt root tree sound pre path around k fs post → (ks : Known) → Knows ks pre around (field_nodes path around k fs) → Homed root tree sound around (field_nodes path around k fs) → Leafed root tree sound (field_nodes path around k fs) (fields_leaf fs)
        → (d : ℕ) → suc (length path) ≡ d → FieldsSound root d around ks fs
    sound_fields no_fields pre path around k post p ks knows homed leafed d e = tt
    sound_fields (component name (node align form) presence default own fs) pre path around k post p ks knows homed leafed d e =
        let g = node align form in
        let role = component_role name presence default own in
        let a = nodes (component_role name presence default own) (path ++ k ∷ []) around (node align form) in
        let b = field_nodes path around (suc k) fs in
        let first = first_component all (numbers root tree sound) (rules root tree sound) pre path around k name (node align form) presence default own fs post p in
        let knows' = knows_left root tree sound ks pre around a b knows in
        let homed' = in_left root tree sound around pre a b post p.whole (λ s. whole_fields all s fs path around (suc k)) homed in
        let one = sound_node (node align form) pre (component_role name presence default own) (path ++ k ∷ []) around (b ++ post) first ks (record {
          knows = knows';
          homed = homed';
          leafed = leafed_first root tree sound pre (component_role name presence default own) (path ++ k ∷ []) around (node align form) b post first (fields_leaf fs) (λ s h. no_fields_leaf fs path around (suc k) s h) leafed;
        }) d (one_step path k d e) in (
          one_condition pre name presence default own (path ++ k ∷ []) around align form (b ++ post) first ks knows',
          own_sound pre name presence default own (path ++ k ∷ []) around align form (b ++ post) first ks knows'.fresh homed' (λ s h. leafed_here root tree sound (component_role name presence default own) (path ++ k ∷ []) around (node align form) b (λ t. first_of_two (slot_leaf (node align form) t) (fields_leaf fs t)) s h leafed),
          nothing_it presence ks (node align form) (λ never. nothing (node align form) pre (component_role name presence default own) (path ++ k ∷ []) around (b ++ post) first ks knows'.fresh d one (optional_none root tree sound pre path around k name (node align form) presence default own fs post p never)),
          one,
          sound_fields fs (pre ++ a) path around (suc k) post (next_component all (numbers root tree sound) (rules root tree sound) pre path around k name (node align form) presence default own fs post p) (choose_known presence ks (with_own own (after ks (node align form))))
              (component_behind root tree sound pre path around k name (node align form) presence default own fs post p ks knows)
              (in_right root tree sound around pre a b post p.whole (λ s. whole_node all s (node align form) (component_role name presence default own) (path ++ k ∷ []) around) homed)
              (leafed_next root tree sound pre (component_role name presence default own) (path ++ k ∷ []) around (node align form) b post first (fields_leaf fs) leafed) d e,
        )
    sound_fields (inserted name (node align form) (Some t) fs) pre path around k post p ks knows homed leafed d e =
        let a = nodes (an_inserted name (Some t)) (path ++ k ∷ []) around (node align form) in
        let b = field_nodes path around (suc k) fs in
        let first = first_inserted all (numbers root tree sound) (rules root tree sound) pre path around k name (node align form) (Some t) fs post p in
        let homed' = in_left root tree sound around pre a b post p.whole (λ s. whole_fields all s fs path around (suc k)) homed in
        let fine = place_fine all (numbers root tree sound) (rules root tree sound) pre (an_inserted name (Some t)) (path ++ k ∷ []) around align form (b ++ post) first in
        let number = inserted_number (Some t) form fine.role in
        let leaf = leafed_here root tree sound (an_inserted name (Some t)) (path ++ k ∷ []) around (node align form) b (λ s. first_of_two (slot_leaf (node align form) s) (fields_leaf fs s)) t (same_eq t) leafed in (
          says root around ks t align form number (slot_open root tree sound (an_inserted name (Some t)) (path ++ k ∷ []) around align form t number (same_eq t) homed') (not_known pre (an_inserted name (Some t)) (path ++ k ∷ []) around (node align form) (b ++ post) first ks knows.fresh t (same_eq t)) leaf,
          width pre name (path ++ k ∷ []) around t align form (b ++ post) first number leaf,
          sound_node (node align form) pre (an_inserted name (Some t)) (path ++ k ∷ []) around (b ++ post) first ks (record {
            knows = knows_left root tree sound ks pre around a b knows;
            homed = homed';
            leafed = leafed_first root tree sound pre (an_inserted name (Some t)) (path ++ k ∷ []) around (node align form) b post first (fields_leaf fs) (λ s h. no_fields_leaf fs path around (suc k) s h) leafed;
          }) d (one_step path k d e),
          sound_fields fs (pre ++ a) path around (suc k) post (next_inserted all (numbers root tree sound) (rules root tree sound) pre path around k name (node align form) (Some t) fs post p) (with_slot t ks)
              (inserted_behind root tree sound pre path around k name (node align form) t fs post p ks knows)
              (in_right root tree sound around pre a b post p.whole (λ s. whole_node all s (node align form) (an_inserted name (Some t)) (path ++ k ∷ []) around) homed)
              (leafed_next root tree sound pre (an_inserted name (Some t)) (path ++ k ∷ []) around (node align form) b post first (fields_leaf fs) leafed) d e,
        )
    sound_fields (inserted name (node align form) None fs) pre path around k post p ks knows homed leafed d e =
        let a = nodes (an_inserted name None) (path ++ k ∷ []) around (node align form) in
        let b = field_nodes path around (suc k) fs in
        let first = first_inserted all (numbers root tree sound) (rules root tree sound) pre path around k name (node align form) None fs post p in
        let fine = place_fine all (numbers root tree sound) (rules root tree sound) pre (an_inserted name None) (path ++ k ∷ []) around align form (b ++ post) first in (
          null_here align form fine.role,
          sound_node (node align form) pre (an_inserted name None) (path ++ k ∷ []) around (b ++ post) first ks (record {
            knows = knows_left root tree sound ks pre around a b knows;
            homed = in_left root tree sound around pre a b post p.whole (λ s. whole_fields all s fs path around (suc k)) homed;
            leafed = leafed_first root tree sound pre (an_inserted name None) (path ++ k ∷ []) around (node align form) b post first (fields_leaf fs) (λ s h. no_fields_leaf fs path around (suc k) s h) leafed;
          }) d (one_step path k d e),
          sound_fields fs (pre ++ a) path around (suc k) post (next_inserted all (numbers root tree sound) (rules root tree sound) pre path around k name (node align form) None fs post p) ks
              (knows_right root tree sound ks pre around a b (λ s o h. let none = only_slot root tree sound (node align form) (inserted_is root tree sound pre path around k name (node align form) None fs post p) name (path ++ k ∷ []) around None s h in cc) knows)
              (in_right root tree sound around pre a b post p.whole (λ s. whole_node all s (node align form) (an_inserted name None) (path ++ k ∷ []) around) homed)
              (leafed_next root tree sound pre (an_inserted name None) (path ++ k ∷ []) around (node align form) b post first (fields_leaf fs) leafed) d e,
        )

    sound_cases : (cases : Alternatives) (pre : List Stand) (rule : ChoiceRule) (path around : List ℕ) (k : ℕ) (post : List Stand) → CasesAt root tree sound pre rule path around k cases post → (ks : Known) → Knows ks pre around (alternative_nodes rule path around k cases) → Homed root tree sound around (alternative_nodes rule path around k cases) → Leafed root tree sound (alternative_nodes rule path around k cases) (alternatives_leaf cases)
        → (d : ℕ) → suc (length path) ≡ d → AlternativesSound root d around ks cases
    sound_cases no_alternatives pre rule path around k post p ks knows homed leafed d e = tt
    sound_cases (alternative name g tests more) pre rule path around k post p ks knows homed leafed d e =
        let a = nodes (alternative_role name tests rule) (path ++ k ∷ []) around g in
        let b = alternative_nodes rule path around (suc k) more in
        let first = first_case all (numbers root tree sound) (rules root tree sound) pre rule path around k name g tests more post p in
        let knows' = knows_left root tree sound ks pre around a b knows in
        let one = sound_node g pre (alternative_role name tests rule) (path ++ k ∷ []) around (b ++ post) first ks (record {
          knows = knows';
          homed = in_left root tree sound around pre a b post p.whole (λ s. whole_cases all s more rule path around (suc k)) homed;
          leafed = leafed_case root tree sound pre (alternative_role name tests rule) (path ++ k ∷ []) around g b post first (alternatives_leaf more) (λ s h. no_cases_leaf more rule path around (suc k) s h) leafed;
        }) d (one_step path k d e) in (
          nothing g pre (alternative_role name tests rule) (path ++ k ∷ []) around (b ++ post) first ks knows'.fresh d one (λ s o h. p.none s o (any_left (field_is s) a b h)),
          one,
          sound_cases more (pre ++ a) rule path around (suc k) post (next_case all (numbers root tree sound) (rules root tree sound) pre rule path around k name g tests more post p) ks
              (knows_right root tree sound ks pre around a b (λ s o h. p.none s o (any_left (field_is s) a b h)) knows)
              (in_right root tree sound around pre a b post p.whole (λ s. whole_node all s g (alternative_role name tests rule) (path ++ k ∷ []) around) homed)
              (leafed_next_case root tree sound pre (alternative_role name tests rule) (path ++ k ∷ []) around g b post first (alternatives_leaf more) leafed) d e,
        )

  root_leafed : (g : Grammar) → g ≡ root → Leafed root tree sound (below root tree sound [] [] g) (slot_leaf g)
  root_leafed g e s h = ap (λ r. slot_leaf r s) (sym e)

  pub root_sound : Sound root 0 [] (λ s. false) root
  root_sound =
      sound_node root [] root_node [] [] [] (root_place root (numbers root tree sound) (rules root tree sound)) (λ s. false) (record {
        knows = record { known = λ s o h m. cc; fresh = λ s h. cc };
        homed = root_homed root tree sound;
        leafed = root_leafed root refl;
      }) 0 refl
