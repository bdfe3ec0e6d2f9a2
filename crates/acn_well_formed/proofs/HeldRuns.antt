-- What the walk with the homes that are open tests is enough: nothing outside a home is about its slots.
use Rattle.std.proofs.Common.{◌≡◌, ◌⊎◌, inl, inr, ℕ, zero, suc, ◌+◌, ◌-◌, ◌^◌, ◌<◌, ◌≤◌, min, Bool, true, false, not, List, [], ◌∷◌, ◌++◌, length, Option, Some, None, nat_eq, nat_lt, ◌&&◌, ◌||◌, cond, refl, sym, ap, ◌∙◌, subst, arith}
use Rattle.std.specs.Prelude.{count_by, map, if◌then◌else◌}
use Rattle.std.specs.List.{list_all, list_any, range_with_len, cons_option}
use Rattle.std.proofs.lemmas.Bool.{eqb-true, and_parts}
use Rattle.std.proofs.lemmas.Bool.Decides.{nat_tests}
use Rattle.std.proofs.lemmas.List.Sums.{count_by-le-length}
use Rattle.std.proofs.lemmas.List.Folds.{list_all-append, list_any-append}
use Rattle.acn_grammar.specs.Check.{test_slot}
use Rattle.acn_grammar.specs.Grammar.{Grammar, Form, Fields, Alternatives, node, num, octets, bits, text, seq, list, choice, contained, no_fields, component, inserted, no_alternatives, alternative}
use Rattle.acn_grammar.specs.Leaves.{implies, same_truth}
use Rattle.acn_grammar.specs.Tree.{is_tree, holds, is_seq, is_slot, is_about, near, near_node, near_form, near_if, slot_list, slots_of}
use Rattle.acn_grammar.specs.Walk.{Stand, Role, root_node, a_component, component_role, an_inserted, an_alternative, alternative_role, an_element, a_content, nodes, form_nodes, field_nodes, alternative_nodes, nodes_of, inside, uses, slot_of, slot_here, own_tests, form_uses, presence_tests}
use Rattle.acn_grammar.specs.declared.node.ChoiceRule.{ChoiceRule}
use Rattle.acn_grammar.specs.declared.node.Presence.{Presence}
use Rattle.acn_grammar.specs.declared.node.Presence.TheVariants.{Always, Bit, When}
use Rattle.acn_well_formed.specs.Held.{not_below, from_slot, stands_first, all_right, is_held, slot_held, tests_held, uses_held, right_inside, held, form_held, fields_held, alternatives_held}
use Rattle.acn_well_formed.specs.Kept.{kept}
use Rattle.acn_well_formed.specs.Seen.{form_seen, form_names, tests_name, slot_kept, weight}
use Rattle.acn_well_formed.specs.Tallies.{tally}
use Rattle.acn_well_formed.specs.declared.open_homes.TheConstants.{LEVELS}
use Rattle.acn_well_formed.specs.declared.tallies.Tally.{Tally}
use Rattle.acn_well_formed.proofs.Listed.{same_is}
use Rattle.acn_well_formed.proofs.SeenRuns.{slot_right, role_right, home_right, has_all, enough, uses_named, sees_form, count-append, count_first, holds-append}
use Rattle.acn_well_formed.proofs.TallyRuns.{ran}
use Rattle.acn_well_formed.proofs.WellFormed.{slot_kept_is, tree_from, next_is, all_range, as_run, begin}

-- Truth values.

or_of : (a b : Bool) → a ≡ false → b ≡ false → (a || b) ≡ false
or_of a b e f = rw (e, f) refl

and_no : (a : Bool) → (a && false) ≡ false
and_no true = refl
and_no false = refl

or_yes : (a : Bool) → (a || true) ≡ true
or_yes true = refl
or_yes false = refl

clash : (a : Bool) → a ≡ true → a ≡ false → ⊥
clash a e f = cc

not_yes : (a : Bool) → (a ≡ true → ⊥) → a ≡ false
not_yes true f = absurd (f refl)
not_yes false f = refl

same_self : (a : ℕ) → nat_eq a a ≡ true
same_self a = grind (arith, nat_tests)

zero_other : (c t : ℕ) → c ≡ 0 → 1 ≤ t → nat_eq (min c (2 ^ 32 - 1)) t ≡ false
zero_other c t e l = grind (arith, nat_tests)

weight_or : (a b : Bool) → weight (a || b) ≤ weight a + weight b
weight_or true true = omega arith
weight_or true false = omega arith
weight_or false true = omega arith
weight_or false false = omega arith

some_weight : (b : Bool) (n : ℕ) → b ≡ true → weight b ≤ n → 1 ≤ n
some_weight true n e h = h
some_weight false n e h = cc

module _ (s : ℕ) where
  -- how many nodes are the field of the slot
  abbrev pub fields_in : List Stand → ℕ
  fields_in [] = 0
  fields_in (at ∷ xs) = weight (is_slot s (slot_here at.role)) + fields_in xs

  fields_append : (xs ys : List Stand) → fields_in (xs ++ ys) ≡ fields_in xs + fields_in ys
  fields_append [] ys = omega arith
  fields_append (x ∷ xs) ys = (let h = fields_append xs ys in omega arith)

  abbrev pub about : List Stand → ℕ
  about xs = count_by (is_about s) xs

  fields_about : (xs : List Stand) → fields_in xs ≤ about xs
  fields_about [] = omega arith
  fields_about (x ∷ xs) = about_step (is_slot s (slot_here x.role)) (list_any (nat_eq s) (map slot_of (uses x))) (fields_in xs) (about xs) (about (x ∷ xs)) (count_first s 0 x xs) (fields_about xs)
    where
      about_step : (a b : Bool) (m n k : ℕ) → k ≡ cond (a || b) 1 0 + n → m ≤ n → weight a + m ≤ k
      about_step true b m n k e h = omega arith
      about_step false true m n k e h = omega arith
      about_step false false m n k e h = omega arith

  -- The slots are numbered, so one node is the field of each.

  abbrev pub occurs : List ℕ → ℕ
  occurs [] = 0
  occurs (t ∷ ts) = weight (nat_eq t s) + occurs ts

  fields_occur : (xs : List Stand) → fields_in xs ≡ occurs (slots_of xs)
  fields_occur [] = refl
  fields_occur (x ∷ xs) = occur_step (slot_here x.role) (slots_of xs) (fields_in xs) (fields_occur xs)
    where
      occur_step : (o : Option ℕ) (ss : List ℕ) (m : ℕ) → m ≡ occurs ss → weight (is_slot s o) + m ≡ occurs (cons_option o ss)
      occur_step None ss m e = omega arith
      occur_step (Some t) ss m e = omega arith

  never_below : (a k : ℕ) → s < a → occurs (range_with_len a k) ≡ 0
  never_below a zero l = refl
  never_below a (suc k) l = (let h = never_below (a + 1) k (omega arith) in let e : nat_eq a s ≡ false = other a s l in rw e (omega arith))
    where
      other : (a s : ℕ) → s < a → nat_eq a s ≡ false
      other a s l = grind (arith, nat_tests)

  once_in : (a k : ℕ) → a ≤ s → s < a + k → occurs (range_with_len a k) ≡ 1
  once_in a zero low high = absurd (omega arith)
  once_in a (suc k) low high = once_case (nat_eq a s) refl (λ l. once_in (a + 1) k l (omega arith)) (λ l. never_below (a + 1) k l)
    where
      further : (a s : ℕ) → a ≤ s → nat_eq a s ≡ false → a + 1 ≤ s
      further a s low e = grind (arith, nat_tests)

      reached : (a s : ℕ) → nat_eq a s ≡ true → s < a + 1
      reached a s e = grind (arith, nat_tests)

      once_case : (b : Bool) → nat_eq a s ≡ b → (a + 1 ≤ s → occurs (range_with_len (a + 1) k) ≡ 1) → (s < a + 1 → occurs (range_with_len (a + 1) k) ≡ 0) → weight b + occurs (range_with_len (a + 1) k) ≡ 1
      once_case true e f g = (let h = g (reached a s e) in omega arith)
      once_case false e f g = (let h = f (further a s low e) in omega arith)

  pub one_field : (xs : List Stand) (n : ℕ) → slots_of xs ≡ range_with_len 0 n → s < n → fields_in xs ≡ 1
  one_field xs n e l = fields_occur xs ∙ (ap occurs e ∙ once_in 0 n (omega arith) (omega arith))

  -- What is near stands inside.

  own_weight : (own : Option ℕ) → weight (holds (slot_list own) s) ≤ weight (is_slot s own)
  own_weight None = omega arith
  own_weight (Some t) = (let o = weight_or (nat_eq t s) false in omega arith)

  through_weight : (presence : Presence) (ns : List ℕ) → weight (holds (near_if presence ns) s) ≤ weight (holds ns s)
  through_weight Always ns = omega arith
  through_weight Bit ns = omega arith
  through_weight (When ts) ns = omega arith

  component_step : (own : Option ℕ) (presence : Presence) (ns ms : List ℕ) (m n k : ℕ) → k ≡ m + n → weight (is_slot s own) + weight (holds ns s) ≤ m → weight (holds ms s) ≤ n → weight (holds (slot_list own ++ (near_if presence ns ++ ms)) s) ≤ k
  component_step own presence ns ms m n k e f g =
      let a = ap weight (holds-append (slot_list own) (near_if presence ns ++ ms) s) in
      let b = ap weight (holds-append (near_if presence ns) ms s) in
      let c = weight_or (holds (slot_list own) s) (holds (near_if presence ns ++ ms) s) in
      let d = weight_or (holds (near_if presence ns) s) (holds ms s) in
      let p = own_weight own in
      let q = through_weight presence ns in
      omega arith

  mutual
    near_grammar : (g : Grammar) (role : Role) (path around : List ℕ) → weight (is_slot s (slot_here role)) + weight (holds (near_node g) s) ≤ fields_in (nodes role path around g)
    near_grammar (node align form) role path around = (let h = near_inside form path around in omega arith)

    near_inside : (form : Form) (path around : List ℕ) → weight (holds (near_form form) s) ≤ fields_in (form_nodes path around form)
    near_inside (seq fs home) path around = near_fields fs path (home ++ around) 0
    near_inside (num leaf) path around = omega arith
    near_inside (octets sizing) path around = omega arith
    near_inside (bits sizing) path around = omega arith
    near_inside (text leaf) path around = omega arith
    near_inside (list sizing g) path around = omega arith
    near_inside (choice cases rule) path around = omega arith
    near_inside (contained sizing g) path around = omega arith

    near_fields : (fs : Fields) (path around : List ℕ) (k : ℕ) → weight (holds (near fs) s) ≤ fields_in (field_nodes path around k fs)
    near_fields no_fields path around k = omega arith
    near_fields (component name g presence default own fs) path around k =
        component_step own presence (near_node g) (near fs) (fields_in (nodes (component_role name presence default own) (path ++ k ∷ []) around g)) (fields_in (field_nodes path around (suc k) fs)) (fields_in (nodes (component_role name presence default own) (path ++ k ∷ []) around g ++ field_nodes path around (suc k) fs))
        (fields_append (nodes (component_role name presence default own) (path ++ k ∷ []) around g) (field_nodes path around (suc k) fs))
        (near_grammar g (component_role name presence default own) (path ++ k ∷ []) around) (near_fields fs path around (suc k))
    near_fields (inserted name g None fs) path around k =
        let e = fields_append (nodes (an_inserted name None) (path ++ k ∷ []) around g) (field_nodes path around (suc k) fs) in
        let h = near_fields fs path around (suc k) in
        omega arith
    near_fields (inserted name g (Some t) fs) path around k =
        let e = fields_append (nodes (an_inserted name (Some t)) (path ++ k ∷ []) around g) (field_nodes path around (suc k) fs) in
        let h = near_fields fs path around (suc k) in
        let f = near_grammar g (an_inserted name (Some t)) (path ++ k ∷ []) around in
        let o = weight_or (nat_eq t s) (holds (near fs) s) in
        omega arith

  -- A part of the tree outside the homes of the slot.

  abbrev pub all_of : List Stand → ℕ
  all_of xs = min (about xs) (2 ^ 32 - 1)

  record Nothing (xs : List Stand) : Type 0 where
    count : about xs ≡ 0
    right : (total : ℕ) → 1 ≤ total → list_all (slot_right s total) xs ≡ true
    apart : (total : ℕ) → 1 ≤ total → list_any (has_all s total) xs ≡ false

  record Whole (xs : List Stand) : Type 0 where
    fields : 1 ≤ fields_in xs
    right : list_all (slot_right s (all_of xs)) xs ≡ true
    encloses : list_any (has_all s (all_of xs)) xs ≡ true

  -- nothing is about the slot, or one home holds all that is, or two nodes are its field
  data Found (xs : List Stand) : Type 0 where
    nothing_here : Nothing xs → Found xs
    whole_here : Whole xs → Found xs
    fields_here : 2 ≤ fields_in xs → Found xs

  both : (a b : Bool) → a ≡ true → b ≡ true → (a && b) ≡ true
  both a b e f = rw (e, f) refl

  whole_front : (xs ys : List Stand) → Whole xs → Nothing ys → Whole (xs ++ ys)
  whole_front xs ys p q =
      let c = count-append s 0 xs ys in
      let z = q.count in
      let same : all_of (xs ++ ys) ≡ all_of xs = ap (λ (n : ℕ). min n (2 ^ 32 - 1)) (omega arith) in
      let some : 1 ≤ all_of xs = (let f = p.fields in let g = fields_about xs in omega arith) in
      record {
        fields = (let e = fields_append xs ys in let f = p.fields in omega arith);
        right = rw same (list_all-append (slot_right s (all_of xs)) xs ys ∙ both (list_all (slot_right s (all_of xs)) xs) (list_all (slot_right s (all_of xs)) ys) p.right (q.right (all_of xs) some));
        encloses = rw same (list_any-append (has_all s (all_of xs)) xs ys ∙ rw p.encloses refl);
      }

  whole_behind : (xs ys : List Stand) → Nothing xs → Whole ys → Whole (xs ++ ys)
  whole_behind xs ys p q =
      let c = count-append s 0 xs ys in
      let z = p.count in
      let same : all_of (xs ++ ys) ≡ all_of ys = ap (λ (n : ℕ). min n (2 ^ 32 - 1)) (omega arith) in
      let some : 1 ≤ all_of ys = (let f = q.fields in let g = fields_about ys in omega arith) in
      record {
        fields = (let e = fields_append xs ys in let f = q.fields in omega arith);
        right = rw same (list_all-append (slot_right s (all_of ys)) xs ys ∙ both (list_all (slot_right s (all_of ys)) xs) (list_all (slot_right s (all_of ys)) ys) (p.right (all_of ys) some) q.right);
        encloses = rw same (list_any-append (has_all s (all_of ys)) xs ys ∙ rw q.encloses (or_yes (list_any (has_all s (all_of ys)) xs)));
      }

  nothing_both : (xs ys : List Stand) → Nothing xs → Nothing ys → Nothing (xs ++ ys)
  nothing_both xs ys p q = record {
    count = (let c = count-append s 0 xs ys in let z = p.count in let w = q.count in omega arith);
    right = λ total l. list_all-append (slot_right s total) xs ys ∙ both (list_all (slot_right s total) xs) (list_all (slot_right s total) ys) (p.right total l) (q.right total l);
    apart = λ total l. list_any-append (has_all s total) xs ys ∙ or_of (list_any (has_all s total) xs) (list_any (has_all s total) ys) (p.apart total l) (q.apart total l);
  }

  join : (xs ys : List Stand) → Found xs → Found ys → Found (xs ++ ys)
  join xs ys (nothing_here p) (nothing_here q) = nothing_here (nothing_both xs ys p q)
  join xs ys (nothing_here p) (whole_here q) = whole_here (whole_behind xs ys p q)
  join xs ys (nothing_here p) (fields_here q) = fields_here (let e = fields_append xs ys in omega arith)
  join xs ys (whole_here p) (nothing_here q) = whole_here (whole_front xs ys p q)
  join xs ys (whole_here p) (whole_here q) = fields_here (let e = fields_append xs ys in let f = p.fields in let g = q.fields in omega arith)
  join xs ys (whole_here p) (fields_here q) = fields_here (let e = fields_append xs ys in omega arith)
  join xs ys (fields_here p) found = fields_here (let e = fields_append xs ys in omega arith)

  found_none : Found []
  found_none = nothing_here (record { count = refl; right = λ total l. refl; apart = λ total l. refl })

  -- One node, outside the homes of the slot.

  -- the node's own place and form are not about the slot
  record Aside (role : Role) (form : Form) : Type 0 where
    own : is_slot s (slot_here role) ≡ false
    tests : tests_name s (own_tests role) ≡ false
    uses : form_names s form ≡ false

  aside_about : (at : Stand) → Aside at.role at.form → is_about s at ≡ false
  aside_about at p = or_of (is_slot s (slot_here at.role)) (list_any (nat_eq s) (map slot_of (uses at))) p.own (uses_named s 0 (own_tests at.role) (form_uses at.form) ∙ or_of (tests_name s (own_tests at.role)) (form_names s at.form) p.tests p.uses)

  aside_count : (at : Stand) (xs : List Stand) → Aside at.role at.form → about (at ∷ xs) ≡ about xs
  aside_count at xs p = count_first s 0 at xs ∙ (ap (λ (b : Bool). cond b 1 0 + about xs) (aside_about at p) ∙ none_more (about xs))
    where
      none_more : (n : ℕ) → 0 + n ≡ n
      none_more n = omega arith

  aside_role : (total : ℕ) (role : Role) → is_slot s (slot_here role) ≡ false → role_right s total role ≡ true
  aside_role total (a_component one) h = rw h refl
  aside_role total (an_inserted name slot) h = refl
  aside_role total root_node h = refl
  aside_role total (an_alternative one) h = refl
  aside_role total an_element h = refl
  aside_role total a_content h = refl

  aside_right : (total : ℕ) (at : Stand) → Aside at.role at.form → home_right s total at.form (inside at) ≡ true → slot_right s total at ≡ true
  aside_right total at p h =
      let n = or_of (tests_name s (own_tests at.role)) (form_names s at.form) p.tests p.uses in
      rw (n, aside_role total at.role p.own, h) refl

  aside_fields : (at : Stand) (xs : List Stand) → Aside at.role at.form → fields_in (at ∷ xs) ≡ fields_in xs
  aside_fields at xs p = (let e : weight (is_slot s (slot_here at.role)) ≡ 0 = ap weight p.own in omega arith)

  -- a form that isn't the slot's home
  abbrev Quiet : Form → Type 0
  Quiet form = (total : ℕ) (xs : List Stand) → (enough s total xs && not (list_any (has_all s total) xs)) ≡ false → home_right s total form xs ≡ true

  quiet_seq : (fs : Fields) (home : List ℕ) → holds home s ≡ false → Quiet (seq fs home)
  quiet_seq fs home h total xs e = rw (h, e) refl

  -- the slot's home
  record Homes (form : Form) (xs : List Stand) : Type 0 where
    is : is_seq form ≡ true
    near : holds (near_form form) s ≡ true
    fields : 1 ≤ fields_in xs
    right : list_all (slot_right s (all_of xs)) xs ≡ true
    home : home_right s (all_of xs) form xs ≡ true

  data Inner (form : Form) (xs : List Stand) : Type 0 where
    home_here : Homes form xs → Inner form xs
    other_here : Quiet form → Found xs → Inner form xs
    more_here : 2 ≤ fields_in xs → Inner form xs

  node_nothing : (at : Stand) → Aside at.role at.form → Quiet at.form → Nothing (inside at) → Nothing (at ∷ inside at)
  node_nothing at p quiet q = record {
    count = aside_count at (inside at) p ∙ q.count;
    right = λ total l. both (slot_right s total at) (list_all (slot_right s total) (inside at)) (aside_right total at p (quiet total (inside at) (rw (zero_other (about (inside at)) total q.count l) refl))) (q.right total l);
    apart = λ total l. or_of (has_all s total at) (list_any (has_all s total) (inside at)) (rw (zero_other (about (inside at)) total q.count l) (and_no (is_seq at.form))) (q.apart total l);
  }

  node_whole : (at : Stand) → Aside at.role at.form → Quiet at.form → Whole (inside at) → Whole (at ∷ inside at)
  node_whole at p quiet q =
      let total = all_of (inside at) in
      let same : all_of (at ∷ inside at) ≡ total = ap (λ (n : ℕ). min n (2 ^ 32 - 1)) (aside_count at (inside at) p) in
      record {
        fields = (let e = aside_fields at (inside at) p in let f = q.fields in omega arith);
        right = subst (λ (n : ℕ). list_all (slot_right s n) (at ∷ inside at) ≡ true) (sym same) (both (slot_right s total at) (list_all (slot_right s total) (inside at)) (aside_right total at p (quiet total (inside at) (rw q.encloses (and_no (enough s total (inside at)))))) q.right);
        encloses = subst (λ (n : ℕ). list_any (has_all s n) (at ∷ inside at) ≡ true) (sym same) (rw q.encloses (or_yes (has_all s total at)));
      }

  node_home : (at : Stand) → Aside at.role at.form → Homes at.form (inside at) → Whole (at ∷ inside at)
  node_home at p q =
      let total = all_of (inside at) in
      let same : all_of (at ∷ inside at) ≡ total = ap (λ (n : ℕ). min n (2 ^ 32 - 1)) (aside_count at (inside at) p) in
      record {
        fields = (let e = aside_fields at (inside at) p in let f = q.fields in omega arith);
        right = subst (λ (n : ℕ). list_all (slot_right s n) (at ∷ inside at) ≡ true) (sym same) (both (slot_right s total at) (list_all (slot_right s total) (inside at)) (aside_right total at p q.home) q.right);
        encloses = subst (λ (n : ℕ). list_any (has_all s n) (at ∷ inside at) ≡ true) (sym same) (rw (q.is, same_self total) refl);
      }

  found_node : (at : Stand) → Aside at.role at.form → Inner at.form (inside at) → Found (at ∷ inside at)
  found_node at p (home_here q) = whole_here (node_home at p q)
  found_node at p (other_here quiet (nothing_here q)) = nothing_here (node_nothing at p quiet q)
  found_node at p (other_here quiet (whole_here q)) = whole_here (node_whole at p quiet q)
  found_node at p (other_here quiet (fields_here q)) = fields_here (let e = aside_fields at (inside at) p in omega arith)
  found_node at p (more_here q) = fields_here (let e = aside_fields at (inside at) p in omega arith)

  -- What isn't held isn't named.

  not_named : {A : Type 0} (slot : A → ℕ) (homes : List (List ℕ)) (ts : List A) → is_held homes s ≡ false → list_all (λ t. is_held homes (slot t)) ts ≡ true → list_any (λ t. nat_eq s (slot t)) ts ≡ false
  not_named slot homes [] e h = refl
  not_named slot homes (t ∷ ts) e h =
      let p = and_parts (is_held homes (slot t)) (list_all (λ u. is_held homes (slot u)) ts) h in
      or_of (nat_eq s (slot t)) (list_any (λ u. nat_eq s (slot u)) ts)
      (not_yes (nat_eq s (slot t)) (λ k. clash (is_held homes s) (ap (is_held homes) (eqb-true s (slot t) k) ∙ p.0) e))
      (not_named slot homes ts e p.1)

  not_own : (homes : List (List ℕ)) (own : Option ℕ) → is_held homes s ≡ false → slot_held homes own ≡ true → is_slot s own ≡ false
  not_own homes None e h = refl
  not_own homes (Some t) e h = not_yes (nat_eq t s) (λ k. clash (is_held homes s) (ap (is_held homes) (sym (eqb-true t s k)) ∙ h) e)

  -- A slot whose inserted field stands in its home itself.

  abbrev inserts : Fields → Bool
  inserts no_fields = false
  inserts (component name g presence default own fs) = inserts fs
  inserts (inserted name g slot fs) = is_slot s slot || inserts fs

  first_inserts : (fs : Fields) → stands_first s fs ≡ true → inserts fs ≡ true
  first_inserts no_fields h = cc
  first_inserts (component name g presence default own fs) h = cc
  first_inserts (inserted name g slot fs) h = rw h refl

  from_inserts : (t : ℕ) (fs : Fields) → inserts (from_slot t fs) ≡ true → inserts fs ≡ true
  from_inserts t no_fields h = h
  from_inserts t (component name g presence default own fs) h = from_inserts t fs h
  from_inserts t (inserted name g slot fs) h = from_case (not_below t slot) h (λ k. from_inserts t fs k)
    where
      from_case : (b : Bool) → inserts (if b then inserted name g slot fs else from_slot t fs) ≡ true → (inserts (from_slot t fs) ≡ true → inserts fs ≡ true) → (is_slot s slot || inserts fs) ≡ true
      from_case true k f = k
      from_case false k f = rw (f k) (or_yes (is_slot s slot))

  all_gives : (form : Form) (fs : Fields) (home : List ℕ) → all_right form fs home ≡ true → holds home s ≡ true → (inserts fs ≡ true) ⊎ (right_inside form s ≡ true)
  all_gives form fs [] h g = cc
  all_gives form fs (t ∷ home) h g =
      let p = and_parts (stands_first t (from_slot t fs) || right_inside form t) (all_right form (from_slot t fs) home) h in
      given_case (nat_eq t s) refl p.0 g (λ k. all_gives form (from_slot t fs) home p.1 k)
    where
      either : (a : Bool) → stands_first s (from_slot t fs) ≡ a → (a || right_inside form s) ≡ true → (inserts fs ≡ true) ⊎ (right_inside form s ≡ true)
      either true e k = inl (from_inserts t fs (first_inserts (from_slot t fs) e))
      either false e k = inr k

      further : (inserts (from_slot t fs) ≡ true) ⊎ (right_inside form s ≡ true) → (inserts fs ≡ true) ⊎ (right_inside form s ≡ true)
      further (inl k) = inl (from_inserts t fs k)
      further (inr k) = inr k

      given_case : (b : Bool) → nat_eq t s ≡ b → (stands_first t (from_slot t fs) || right_inside form t) ≡ true → (b || holds home s) ≡ true
          → (holds home s ≡ true → (inserts (from_slot t fs) ≡ true) ⊎ (right_inside form s ≡ true)) → (inserts fs ≡ true) ⊎ (right_inside form s ≡ true)
      given_case true e k m ih = either (stands_first s (from_slot t fs)) refl (subst (λ (u : ℕ). (stands_first u (from_slot t fs) || right_inside form u) ≡ true) (eqb-true t s e) k)
      given_case false e k m ih = further (ih m)

  inserts_near : (fs : Fields) → inserts fs ≡ true → holds (near fs) s ≡ true
  inserts_near no_fields h = cc
  inserts_near (component name g presence default own fs) h =
      holds-append (slot_list own) (near_if presence (near_node g) ++ near fs) s
      ∙ rw (holds-append (near_if presence (near_node g)) (near fs) s, inserts_near fs h, or_yes (holds (near_if presence (near_node g)) s)) (or_yes (holds (slot_list own) s))
  inserts_near (inserted name g None fs) h = inserts_near fs h
  inserts_near (inserted name g (Some t) fs) h = near_case (nat_eq t s) h (λ k. inserts_near fs k)
    where
      near_case : (b : Bool) → (b || inserts fs) ≡ true → (inserts fs ≡ true → holds (near fs) s ≡ true) → (b || holds (near fs) s) ≡ true
      near_case true k f = refl
      near_case false k f = f k

  near_some : (fs : Fields) (path around : List ℕ) (k : ℕ) → holds (near fs) s ≡ true → 1 ≤ fields_in (field_nodes path around k fs)
  near_some fs path around k h = some_weight (holds (near fs) s) (fields_in (field_nodes path around k fs)) h (near_fields fs path around k)

  implied : (a b : Bool) → a ≡ true → implies a b ≡ true → b ≡ true
  implied true b e h = h
  implied false b e h = cc

  -- inside its home the slot is right
  homes_from : (fs : Fields) (home path around : List ℕ) → holds around s ≡ false → holds home s ≡ true → right_inside (seq fs home) s ≡ true → Homes (seq fs home) (field_nodes path (home ++ around) 0 fs)
  unfolding right_inside
  homes_from fs home path around e h r =
      let xs = field_nodes path (home ++ around) 0 fs in
      let form = seq fs home in
      let first = sees_form s 0 form path around false (sym e) in
      let seen = (form_seen s 0 false form).about in
      let second = sees_form s seen form path around false (sym e) in
      let k : (list_all (slot_right s seen) xs && home_right s seen form xs) ≡ true = sym second.fine ∙ r in
      let k' : (list_all (slot_right s (all_of xs)) xs && home_right s (all_of xs) form xs) ≡ true = subst (λ (n : ℕ). (list_all (slot_right s n) xs && home_right s n form xs) ≡ true) first.about k in
      let p = and_parts (list_all (slot_right s (all_of xs)) xs) (home_right s (all_of xs) form xs) k' in
      let q = and_parts (same_truth (holds home s) (enough s (all_of xs) xs && not (list_any (has_all s (all_of xs)) xs))) (implies (holds home s) (holds (near fs) s)) p.1 in
      let n : holds (near fs) s ≡ true = implied (holds home s) (holds (near fs) s) h q.1 in
      record { is = refl; near = n; fields = near_some fs path (home ++ around) 0 n; right = p.0; home = p.1 }

  -- a slot at home here has a field here
  held_near : (fs : Fields) (home : List ℕ) → all_right (seq fs home) fs home ≡ true → holds home s ≡ true → holds (near fs) s ≡ true
  held_near fs home h k = by (all_gives (seq fs home) fs home h k)
    where
      by : (inserts fs ≡ true) ⊎ (right_inside (seq fs home) s ≡ true) → holds (near fs) s ≡ true
      by (inl i) = inserts_near fs i
      by (inr r) = near_of (homes_from fs home [] [] refl k r)
        where
          near_of : Homes (seq fs home) (field_nodes [] (home ++ []) 0 fs) → holds (near fs) s ≡ true
          near_of q = q.near

  -- Inside its home, where no field of the slot is and some node about it is elsewhere.

  record Calm (total : ℕ) (xs : List Stand) : Type 0 where
    right : list_all (slot_right s total) xs ≡ true
    apart : list_any (has_all s total) xs ≡ false

  calm_join : (total : ℕ) (xs ys : List Stand) → Calm total xs → Calm total ys → Calm total (xs ++ ys)
  calm_join total xs ys p q = record {
    right = list_all-append (slot_right s total) xs ys ∙ both (list_all (slot_right s total) xs) (list_all (slot_right s total) ys) p.right q.right;
    apart = list_any-append (has_all s total) xs ys ∙ or_of (list_any (has_all s total) xs) (list_any (has_all s total) ys) p.apart q.apart;
  }

  calm_none : (total : ℕ) → Calm total []
  calm_none total = record { right = refl; apart = refl }

  three : (n a r h : Bool) → a ≡ true → r ≡ true → h ≡ true → ((implies n a && r) && h) ≡ true
  three true a r h e f g = rw (e, f, g) refl
  three false a r h e f g = rw (f, g) refl

  short : (c total : ℕ) → c < total → total ≤ 2 ^ 32 - 1 → nat_eq (min c (2 ^ 32 - 1)) total ≡ false
  short c total l m = grind (arith, nat_tests)

  calm_node : (total : ℕ) (at : Stand) → total ≤ 2 ^ 32 - 1 → holds at.around s ≡ true → role_right s total at.role ≡ true → Quiet at.form → about (inside at) < total → Calm total (inside at) → Calm total (at ∷ inside at)
  calm_node total at m a r quiet l p =
      let e : enough s total (inside at) ≡ false = short (about (inside at)) total l m in
      record {
        right = both (slot_right s total at) (list_all (slot_right s total) (inside at))
            (three (tests_name s (own_tests at.role) || form_names s at.form) (holds at.around s) (role_right s total at.role) (home_right s total at.form (inside at)) a r (quiet total (inside at) (rw e refl))) p.right;
        apart = or_of (has_all s total at) (list_any (has_all s total) (inside at)) (rw e (and_no (is_seq at.form))) p.apart;
      }

  abbrev inner : Grammar → List ℕ → List ℕ → List Stand
  inner (node align form) path around = form_nodes path around form

  inner_fields : (g : Grammar) (role : Role) (path around : List ℕ) → fields_in (nodes role path around g) ≡ weight (is_slot s (slot_here role)) + fields_in (inner g path around)
  inner_fields (node align form) role path around = refl

  inner_about : (g : Grammar) (role : Role) (path around : List ℕ) → about (inner g path around) ≤ about (nodes role path around g)
  inner_about (node align form) role path around =
      let at : Stand = record { path = path; around = around; role = role; align = align; form = form } in
      let e = count_first s 0 at (form_nodes path around form) in
      more (cond (is_about s at) 1 0) (about (form_nodes path around form)) (about (at ∷ form_nodes path around form)) e
    where
      more : (a n m : ℕ) → m ≡ a + n → n ≤ m
      more a n m e = omega arith

  -- the node of the slot's field is about it
  own_about : (g : Grammar) (role : Role) (path around : List ℕ) → is_slot s (slot_here role) ≡ true → suc (about (inner g path around)) ≤ about (nodes role path around g)
  own_about (node align form) role path around h =
      let at : Stand = record { path = path; around = around; role = role; align = align; form = form } in
      let e = count_first s 0 at (form_nodes path around form) in
      let f : is_about s at ≡ true = rw h refl in
      let c : cond (is_about s at) 1 0 ≡ 1 = ap (λ (b : Bool). cond b 1 0) f in
      one_more (cond (is_about s at) 1 0) (about (form_nodes path around form)) (about (at ∷ form_nodes path around form)) e c
    where
      one_more : (a n m : ℕ) → m ≡ a + n → a ≡ 1 → suc n ≤ m
      one_more a n m e c = omega arith

  no_slot : (b : Bool) (m n : ℕ) → n ≡ weight b + m → n ≡ 0 → b ≡ false
  no_slot true m n e z = absurd (omega arith)
  no_slot false m n e z = refl

  quiet_held : (form : Form) (path around : List ℕ) (homes : List (List ℕ)) → form_held homes form ≡ true → fields_in (form_nodes path around form) ≡ 0 → Quiet form
  quiet_held (seq fs home) path around homes h z =
      let p = and_parts (nat_lt (length homes) LEVELS) (all_right (seq fs home) fs home && fields_held (homes ++ (home ∷ [])) fs) h in
      let q = and_parts (all_right (seq fs home) fs home) (fields_held (homes ++ (home ∷ [])) fs) p.1 in
      quiet_seq fs home (not_yes (holds home s) (λ k. (let n = near_some fs path (home ++ around) 0 (held_near fs home q.0 k) in absurd (omega arith))))
  quiet_held (num leaf) path around homes h z = λ total xs k. refl
  quiet_held (octets sizing) path around homes h z = λ total xs k. refl
  quiet_held (bits sizing) path around homes h z = λ total xs k. refl
  quiet_held (text leaf) path around homes h z = λ total xs k. refl
  quiet_held (list sizing g) path around homes h z = λ total xs k. refl
  quiet_held (choice cases rule) path around homes h z = λ total xs k. refl
  quiet_held (contained sizing g) path around homes h z = λ total xs k. refl

  holds_more : (home around : List ℕ) → holds around s ≡ true → holds (home ++ around) s ≡ true
  holds_more home around a = holds-append home around s ∙ rw a (or_yes (holds home s))

  module _ (total : ℕ) (most : total ≤ 2 ^ 32 - 1) where
    mutual
      calm_grammar : (g : Grammar) (role : Role) (path around : List ℕ) (homes : List (List ℕ)) → holds around s ≡ true → role_right s total role ≡ true → held homes g ≡ true
          → fields_in (inner g path around) ≡ 0 → about (inner g path around) < total → Calm total (nodes role path around g)
      calm_grammar (node align form) role path around homes a r h z l =
          let p = and_parts (uses_held homes form) (form_held homes form) h in
          let at : Stand = record { path = path; around = around; role = role; align = align; form = form } in
          calm_node total at most a r (quiet_held form path around homes p.1 z) l (calm_form form path around homes a p.1 z l)

      calm_form : (form : Form) (path around : List ℕ) (homes : List (List ℕ)) → holds around s ≡ true → form_held homes form ≡ true
          → fields_in (form_nodes path around form) ≡ 0 → about (form_nodes path around form) < total → Calm total (form_nodes path around form)
      calm_form (seq fs home) path around homes a h z l =
          let p = and_parts (nat_lt (length homes) LEVELS) (all_right (seq fs home) fs home && fields_held (homes ++ (home ∷ [])) fs) h in
          let q = and_parts (all_right (seq fs home) fs home) (fields_held (homes ++ (home ∷ [])) fs) p.1 in
          calm_fields fs path (home ++ around) 0 (homes ++ (home ∷ [])) (holds_more home around a) q.1 z l
      calm_form (num leaf) path around homes a h z l = calm_none total
      calm_form (octets sizing) path around homes a h z l = calm_none total
      calm_form (bits sizing) path around homes a h z l = calm_none total
      calm_form (text leaf) path around homes a h z l = calm_none total
      calm_form (list sizing g) path around homes a h z l =
          let e = inner_fields g an_element (path ++ 0 ∷ []) around in
          let f = inner_about g an_element (path ++ 0 ∷ []) around in
          calm_grammar g an_element (path ++ 0 ∷ []) around homes a refl h (omega arith) (omega arith)
      calm_form (choice cases rule) path around homes a h z l = calm_alternatives cases rule path around 0 homes a h z l
      calm_form (contained sizing g) path around homes a h z l =
          let e = inner_fields g a_content (path ++ 0 ∷ []) around in
          let f = inner_about g a_content (path ++ 0 ∷ []) around in
          calm_grammar g a_content (path ++ 0 ∷ []) around homes a refl h (omega arith) (omega arith)

      calm_fields : (fs : Fields) (path around : List ℕ) (k : ℕ) (homes : List (List ℕ)) → holds around s ≡ true → fields_held homes fs ≡ true
          → fields_in (field_nodes path around k fs) ≡ 0 → about (field_nodes path around k fs) < total → Calm total (field_nodes path around k fs)
      calm_fields no_fields path around k homes a h z l = calm_none total
      calm_fields (component name g presence default own fs) path around k homes a h z l =
          let p = and_parts (slot_held homes own && (tests_held homes (presence_tests presence) && held homes g)) (fields_held homes fs) h in
          let q = and_parts (slot_held homes own) (tests_held homes (presence_tests presence) && held homes g) p.0 in
          let r = and_parts (tests_held homes (presence_tests presence)) (held homes g) q.1 in
          let role = component_role name presence default own in
          let xs = nodes role (path ++ k ∷ []) around g in
          let ys = field_nodes path around (suc k) fs in
          let b = fields_append xs ys in
          let c = count-append s 0 xs ys in
          let e = inner_fields g role (path ++ k ∷ []) around in
          let f = inner_about g role (path ++ k ∷ []) around in
          let n : is_slot s own ≡ false = no_slot (is_slot s own) (fields_in (inner g (path ++ k ∷ []) around)) (fields_in xs) e (omega arith) in
          calm_join total xs ys
          (calm_grammar g role (path ++ k ∷ []) around homes a (aside_role total role n) r.1 (omega arith) (omega arith))
          (calm_fields fs path around (suc k) homes a p.1 (omega arith) (omega arith))
      calm_fields (inserted name g slot fs) path around k homes a h z l =
          let p = and_parts (slot_held homes slot && held homes g) (fields_held homes fs) h in
          let q = and_parts (slot_held homes slot) (held homes g) p.0 in
          let role = an_inserted name slot in
          let xs = nodes role (path ++ k ∷ []) around g in
          let ys = field_nodes path around (suc k) fs in
          let b = fields_append xs ys in
          let c = count-append s 0 xs ys in
          let e = inner_fields g role (path ++ k ∷ []) around in
          let f = inner_about g role (path ++ k ∷ []) around in
          calm_join total xs ys
          (calm_grammar g role (path ++ k ∷ []) around homes a refl q.1 (omega arith) (omega arith))
          (calm_fields fs path around (suc k) homes a p.1 (omega arith) (omega arith))

      calm_alternatives : (as' : Alternatives) (rule : ChoiceRule) (path around : List ℕ) (k : ℕ) (homes : List (List ℕ)) → holds around s ≡ true → alternatives_held homes as' ≡ true
          → fields_in (alternative_nodes rule path around k as') ≡ 0 → about (alternative_nodes rule path around k as') < total → Calm total (alternative_nodes rule path around k as')
      calm_alternatives no_alternatives rule path around k homes a h z l = calm_none total
      calm_alternatives (alternative name g tests more) rule path around k homes a h z l =
          let p = and_parts (tests_held homes tests && held homes g) (alternatives_held homes more) h in
          let q = and_parts (tests_held homes tests) (held homes g) p.0 in
          let role = alternative_role name tests rule in
          let xs = nodes role (path ++ k ∷ []) around g in
          let ys = alternative_nodes rule path around (suc k) more in
          let b = fields_append xs ys in
          let c = count-append s 0 xs ys in
          let e = inner_fields g role (path ++ k ∷ []) around in
          let f = inner_about g role (path ++ k ∷ []) around in
          calm_join total xs ys
          (calm_grammar g role (path ++ k ∷ []) around homes a refl q.1 (omega arith) (omega arith))
          (calm_alternatives more rule path around (suc k) homes a p.1 (omega arith) (omega arith))

    -- where one field is the slot's, and stands here
    direct_fields : (fs : Fields) (path around : List ℕ) (k : ℕ) (homes : List (List ℕ)) → holds around s ≡ true → fields_held homes fs ≡ true → inserts fs ≡ true
        → fields_in (field_nodes path around k fs) ≤ 1 → about (field_nodes path around k fs) ≤ total → Calm total (field_nodes path around k fs)
    direct_fields no_fields path around k homes a h i z l = calm_none total
    direct_fields (component name g presence default own fs) path around k homes a h i z l =
        let p = and_parts (slot_held homes own && (tests_held homes (presence_tests presence) && held homes g)) (fields_held homes fs) h in
        let q = and_parts (slot_held homes own) (tests_held homes (presence_tests presence) && held homes g) p.0 in
        let r = and_parts (tests_held homes (presence_tests presence)) (held homes g) q.1 in
        let role = component_role name presence default own in
        let xs = nodes role (path ++ k ∷ []) around g in
        let ys = field_nodes path around (suc k) fs in
        let b = fields_append xs ys in
        let c = count-append s 0 xs ys in
        let e = inner_fields g role (path ++ k ∷ []) around in
        let f = inner_about g role (path ++ k ∷ []) around in
        let some = near_some fs path around (suc k) (inserts_near fs i) in
        let seen = fields_about ys in
        let n : is_slot s own ≡ false = no_slot (is_slot s own) (fields_in (inner g (path ++ k ∷ []) around)) (fields_in xs) e (omega arith) in
        calm_join total xs ys
        (calm_grammar g role (path ++ k ∷ []) around homes a (aside_role total role n) r.1 (omega arith) (omega arith))
        (direct_fields fs path around (suc k) homes a p.1 i (omega arith) (omega arith))
    direct_fields (inserted name g slot fs) path around k homes a h i z l =
        let p = and_parts (slot_held homes slot && held homes g) (fields_held homes fs) h in
        let q = and_parts (slot_held homes slot) (held homes g) p.0 in
        let role = an_inserted name slot in
        let xs = nodes role (path ++ k ∷ []) around g in
        let ys = field_nodes path around (suc k) fs in
        let b = fields_append xs ys in
        let c = count-append s 0 xs ys in
        let e = inner_fields g role (path ++ k ∷ []) around in
        let f = inner_about g role (path ++ k ∷ []) around in
        direct_case (is_slot s slot) refl i
        (λ d.
        let w : weight (is_slot s slot) ≡ 1 = ap weight d in
        let o = own_about g role (path ++ k ∷ []) around d in
        calm_join total xs ys
        (calm_grammar g role (path ++ k ∷ []) around homes a refl q.1 (omega arith) (omega arith))
        (calm_fields fs path around (suc k) homes a p.1 (omega arith) (omega arith)))
        (λ j.
        let some = near_some fs path around (suc k) (inserts_near fs j) in
        let seen = fields_about ys in
        calm_join total xs ys
        (calm_grammar g role (path ++ k ∷ []) around homes a refl q.1 (omega arith) (omega arith))
        (direct_fields fs path around (suc k) homes a p.1 j (omega arith) (omega arith)))
      where
        direct_case : {C : Type 0} (b : Bool) → is_slot s slot ≡ b → (b || inserts fs) ≡ true → (is_slot s slot ≡ true → C) → (inserts fs ≡ true → C) → C
        direct_case true d j f g' = f d
        direct_case false d j f g' = g' j

  direct_homes : (fs : Fields) (home path around : List ℕ) (homes : List (List ℕ)) → holds home s ≡ true → inserts fs ≡ true → fields_held homes fs ≡ true
      → fields_in (field_nodes path (home ++ around) 0 fs) ≤ 1 → about (field_nodes path (home ++ around) 0 fs) ≤ 2 ^ 32 - 1 → Homes (seq fs home) (field_nodes path (home ++ around) 0 fs)
  direct_homes fs home path around homes k i h z l =
      let xs = field_nodes path (home ++ around) 0 fs in
      let total = all_of xs in
      let a : holds (home ++ around) s ≡ true = holds-append home around s ∙ rw k refl in
      let calm = direct_fields total (omega arith) fs path (home ++ around) 0 homes a h i z (omega arith) in
      let n = inserts_near fs i in
      record { is = refl; near = n; fields = near_some fs path (home ++ around) 0 n; right = calm.right; home = rw (k, same_self total, calm.apart, n) refl }

  seq_case : (fs : Fields) (home path around : List ℕ) (homes : List (List ℕ)) → holds around s ≡ false → all_right (seq fs home) fs home ≡ true → fields_held homes fs ≡ true
      → about (field_nodes path (home ++ around) 0 fs) ≤ 2 ^ 32 - 1 → (b : Bool) → holds home s ≡ b
      → (holds home s ≡ false → Found (field_nodes path (home ++ around) 0 fs)) → Inner (seq fs home) (field_nodes path (home ++ around) 0 fs)
  seq_case fs home path around homes a r h l true k f = by (all_gives (seq fs home) fs home r k)
    where
      few : (b : Bool) → nat_lt 1 (fields_in (field_nodes path (home ++ around) 0 fs)) ≡ b → inserts fs ≡ true → Inner (seq fs home) (field_nodes path (home ++ around) 0 fs)
      few true e i = more_here (two (fields_in (field_nodes path (home ++ around) 0 fs)) e)
        where
          two : (n : ℕ) → nat_lt 1 n ≡ true → 2 ≤ n
          two n e = grind (arith, nat_tests)
      few false e i = home_here (direct_homes fs home path around homes k i h (one (fields_in (field_nodes path (home ++ around) 0 fs)) e) l)
        where
          one : (n : ℕ) → nat_lt 1 n ≡ false → n ≤ 1
          one n e = grind (arith, nat_tests)

      by : (inserts fs ≡ true) ⊎ (right_inside (seq fs home) s ≡ true) → Inner (seq fs home) (field_nodes path (home ++ around) 0 fs)
      by (inl i) = few (nat_lt 1 (fields_in (field_nodes path (home ++ around) 0 fs))) refl i
      by (inr q) = home_here (homes_from fs home path around a k q)
  seq_case fs home path around homes a r h l false k f = other_here (quiet_seq fs home k) (f k)

  mutual
    found_grammar : (g : Grammar) (role : Role) (path around : List ℕ) (homes : List (List ℕ)) → holds around s ≡ false → is_held homes s ≡ false → is_slot s (slot_here role) ≡ false → tests_name s (own_tests role) ≡ false
        → held homes g ≡ true → about (nodes role path around g) ≤ 2 ^ 32 - 1 → Found (nodes role path around g)
    found_grammar (node align form) role path around homes a e f t h l =
        let p = and_parts (uses_held homes form) (form_held homes form) h in
        let at : Stand = record { path = path; around = around; role = role; align = align; form = form } in
        found_node at (record { own = f; tests = t; uses = not_named slot_of homes (form_uses form) e p.0 }) (found_form form path around homes a e p.1 (let b = inner_about (node align form) role path around in omega arith))

    found_form : (form : Form) (path around : List ℕ) (homes : List (List ℕ)) → holds around s ≡ false → is_held homes s ≡ false → form_held homes form ≡ true → about (form_nodes path around form) ≤ 2 ^ 32 - 1 → Inner form (form_nodes path around form)
    found_form (seq fs home) path around homes a e h l =
        let p = and_parts (nat_lt (length homes) LEVELS) (all_right (seq fs home) fs home && fields_held (homes ++ (home ∷ [])) fs) h in
        let q = and_parts (all_right (seq fs home) fs home) (fields_held (homes ++ (home ∷ [])) fs) p.1 in
        seq_case fs home path around (homes ++ (home ∷ [])) a q.0 q.1 l (holds home s) refl
        (λ k. found_fields fs path (home ++ around) 0 (homes ++ (home ∷ [])) (holds-append home around s ∙ or_of (holds home s) (holds around s) k a)
        (list_any-append (λ ss. holds ss s) homes (home ∷ []) ∙ or_of (is_held homes s) (holds home s || false) e (rw k refl)) q.1 l)
    found_form (num leaf) path around homes a e h l = other_here (λ total xs k. refl) found_none
    found_form (octets sizing) path around homes a e h l = other_here (λ total xs k. refl) found_none
    found_form (bits sizing) path around homes a e h l = other_here (λ total xs k. refl) found_none
    found_form (text leaf) path around homes a e h l = other_here (λ total xs k. refl) found_none
    found_form (list sizing g) path around homes a e h l = other_here (λ total xs k. refl) (found_grammar g an_element (path ++ 0 ∷ []) around homes a e refl refl h l)
    found_form (choice cases rule) path around homes a e h l = other_here (λ total xs k. refl) (found_alternatives cases rule path around 0 homes a e h l)
    found_form (contained sizing g) path around homes a e h l = other_here (λ total xs k. refl) (found_grammar g a_content (path ++ 0 ∷ []) around homes a e refl refl h l)

    found_fields : (fs : Fields) (path around : List ℕ) (k : ℕ) (homes : List (List ℕ)) → holds around s ≡ false → is_held homes s ≡ false → fields_held homes fs ≡ true → about (field_nodes path around k fs) ≤ 2 ^ 32 - 1 → Found (field_nodes path around k fs)
    found_fields no_fields path around k homes a e h l = found_none
    found_fields (component name g presence default own fs) path around k homes a e h l =
        let p = and_parts (slot_held homes own && (tests_held homes (presence_tests presence) && held homes g)) (fields_held homes fs) h in
        let q = and_parts (slot_held homes own) (tests_held homes (presence_tests presence) && held homes g) p.0 in
        let r = and_parts (tests_held homes (presence_tests presence)) (held homes g) q.1 in
        let c = count-append s 0 (nodes (component_role name presence default own) (path ++ k ∷ []) around g) (field_nodes path around (suc k) fs) in
        join (nodes (component_role name presence default own) (path ++ k ∷ []) around g) (field_nodes path around (suc k) fs)
        (found_grammar g (component_role name presence default own) (path ++ k ∷ []) around homes a e (not_own homes own e q.0) (not_named test_slot homes (presence_tests presence) e r.0) r.1 (omega arith))
        (found_fields fs path around (suc k) homes a e p.1 (omega arith))
    found_fields (inserted name g slot fs) path around k homes a e h l =
        let p = and_parts (slot_held homes slot && held homes g) (fields_held homes fs) h in
        let q = and_parts (slot_held homes slot) (held homes g) p.0 in
        let c = count-append s 0 (nodes (an_inserted name slot) (path ++ k ∷ []) around g) (field_nodes path around (suc k) fs) in
        join (nodes (an_inserted name slot) (path ++ k ∷ []) around g) (field_nodes path around (suc k) fs)
        (found_grammar g (an_inserted name slot) (path ++ k ∷ []) around homes a e (not_own homes slot e q.0) refl q.1 (omega arith))
        (found_fields fs path around (suc k) homes a e p.1 (omega arith))

    found_alternatives : (as' : Alternatives) (rule : ChoiceRule) (path around : List ℕ) (k : ℕ) (homes : List (List ℕ)) → holds around s ≡ false → is_held homes s ≡ false → alternatives_held homes as' ≡ true → about (alternative_nodes rule path around k as') ≤ 2 ^ 32 - 1 → Found (alternative_nodes rule path around k as')
    found_alternatives no_alternatives rule path around k homes a e h l = found_none
    found_alternatives (alternative name g tests more) rule path around k homes a e h l =
        let p = and_parts (tests_held homes tests && held homes g) (alternatives_held homes more) h in
        let q = and_parts (tests_held homes tests) (held homes g) p.0 in
        let c = count-append s 0 (nodes (alternative_role name tests rule) (path ++ k ∷ []) around g) (alternative_nodes rule path around (suc k) more) in
        join (nodes (alternative_role name tests rule) (path ++ k ∷ []) around g) (alternative_nodes rule path around (suc k) more)
        (found_grammar g (alternative_role name tests rule) (path ++ k ∷ []) around homes a e refl (not_named test_slot homes tests e q.0) q.1 (omega arith))
        (found_alternatives more rule path around (suc k) homes a e p.1 (omega arith))

  pub held_right : (root : Grammar) (n : ℕ) → about (nodes_of root) ≤ 2 ^ 32 - 1 → slots_of (nodes_of root) ≡ range_with_len 0 n → s < n → held [] root ≡ true → slot_kept root s ≡ true
  held_right root n m e l h = from_found (found_grammar root root_node [] [] [] refl refl refl refl h m)
    where
      from_found : Found (nodes_of root) → slot_kept root s ≡ true
      from_found (nothing_here p) = (let c = p.count in let f = one_field (nodes_of root) n e l in let g = fields_about (nodes_of root) in absurd (omega arith))
      from_found (whole_here p) = slot_kept_is root s ∙ p.right
      from_found (fields_here p) = (let f = one_field (nodes_of root) n e l in absurd (omega arith))

pub held_tree : (root : Grammar) (u : Tally) (r : Bool) → tally 0 root begin ≡ Some u → kept u.next root ≡ true → r ≡ held [] root → r ≡ true → true ≡ is_tree root
held_tree root u r e k h t =
    let facts = ran (nodes_of root) begin u (as_run root ∙ e) in
    let n = length (slots_of (nodes_of root)) in
    let numbered = same_is (slots_of (nodes_of root)) (range_with_len 0 n) facts.slots in
    let nx : u.next ≡ n = next_is root u e in
    sym (tree_from root u e k (all_range (slot_kept root) 0 u.next (λ s l. held_right s root n (let b = count_by-le-length (is_about s) (nodes_of root) in let f = facts.fits in omega arith) numbered (omega arith) (sym h ∙ t))))
