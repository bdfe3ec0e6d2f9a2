-- What the tests of the walks say is what the definition of a tree says.
use Rattle.std.proofs.Common.{◌≡◌, ℕ, zero, suc, ◌+◌, ◌-◌, ◌^◌, ◌<◌, ◌≤◌, min, Bool, true, false, not, List, [], ◌∷◌, ◌++◌, length, Option, Some, None, nat_eq, nat_lt, nat_le, ◌&&◌, ◌||◌, refl, sym, ap, ◌∙◌, subst, arith}
use Rattle.std.specs.Prelude.{count_by, map, filter}
use Rattle.std.specs.List.{list_all, list_any, range_with_len, cons_option}
use Rattle.std.proofs.lemmas.Bool.Decides.{nat_tests}
use Rattle.acn_grammar.specs.Check.{test_slot}
use Rattle.acn_grammar.specs.Grammar.{Grammar, Form, Fields, Alternatives, node, num, octets, bits, text, seq, list, choice, contained, no_fields, component, inserted, no_alternatives, alternative}
use Rattle.acn_well_formed.specs.Kept.{tests_below, uses_below, all_below, rises_from, kept}
use Rattle.acn_grammar.specs.Leaves.{implies, same_truth}
use Rattle.acn_well_formed.specs.Seen.{seen, slot_kept, own_right, tests_name, form_names}
use Rattle.acn_grammar.specs.Tree.{is_tree, is_align, form_fine, role_fine, slot_used, own_used, all_true, stand_rules, holds, is_seq, is_about, near, encloses, is_home, home_fine, names_open, slots_of, same_numbers}
use Rattle.acn_grammar.specs.Walk.{Stand, Role, root_node, component_role, a_component, an_inserted, alternative_role, an_alternative, an_element, a_content, nodes, form_nodes, field_nodes, alternative_nodes, nodes_of, inside, uses, slot_of, slot_here, own_tests, form_uses, Use, condition}
use Rattle.acn_grammar.specs.declared.node.ChoiceRule.{ChoiceRule}
use Rattle.acn_grammar.specs.declared.node.Test.{Test}
use Rattle.acn_grammar.specs.declared.node.Test.TheVariants.{Flag, Equals}
use Rattle.acn_well_formed.proofs.TallyRuns.{run, runs_node, runs_some, ran, Ended, deep}
use Rattle.std.proofs.lemmas.List.Sums.{count_by-le-length}
use Rattle.acn_well_formed.specs.Tallies.{tally}
use Rattle.acn_well_formed.specs.declared.tallies.Tally.{Tally}
use Rattle.acn_well_formed.proofs.KeptRuns.{home_low, kept_of, kept_node}
use Rattle.acn_grammar.proofs.TreeRules.{StandFine, stand_fine, list_all-append}
use Rattle.acn_well_formed.proofs.Listed.{same_is, same_refl, chosen_holds, chosen_rise, chosen_below, listed}
use Rattle.acn_well_formed.proofs.SeenRuns.{sees_grammar, slot_right, role_right, home_right, has_all, enough, uses_named}
use Rattle.std.proofs.lemmas.Bool.{eqb-true, ltb-true, lt-ltb, or_right, and_parts}

pub not_true : (b : Bool) → (b ≡ true → ⊥) → false ≡ b
not_true true h = absurd (h refl)
not_true false h = refl

abbrev pub most : ℕ
most = 2 ^ 32 - 1

-- the test of a slot, over the nodes in preorder
pub slot_kept_is : (root : Grammar) (s : ℕ) → slot_kept root s ≡ list_all (slot_right s (min (count_by (is_about s) (nodes_of root)) (2 ^ 32 - 1))) (nodes_of root)
unfolding slot_kept
slot_kept_is root s =
    let first = sees_grammar s 0 root root_node [] [] false refl in
    let total = (seen s 0 false false false true root).about in
    let second = sees_grammar s total root root_node [] [] false refl in
    second.fine ∙ ap (λ (n : ℕ). list_all (slot_right s n) (nodes_of root)) first.about

any_same : {A : Type 0} (p q : A → Bool) → ((x : A) → p x ≡ q x) → (xs : List A) → list_any p xs ≡ list_any q xs
any_same p q e [] = refl
any_same p q e (x ∷ xs) = rw (e x, any_same p q e xs) refl

same_count : (c d : ℕ) → d ≤ 65536 → nat_eq (min c (2 ^ 32 - 1)) (min d (2 ^ 32 - 1)) ≡ nat_eq c d
same_count c d h = grind (arith, nat_tests)

module _ (all : List Stand) (s : ℕ) (few : count_by (is_about s) all ≤ 65536) where
  abbrev total : ℕ
  total = min (count_by (is_about s) all) (2 ^ 32 - 1)

  pub enough_is : (xs : List Stand) → enough s total xs ≡ nat_eq (count_by (is_about s) xs) (count_by (is_about s) all)
  enough_is xs = same_count (count_by (is_about s) xs) (count_by (is_about s) all) few

  has_all_is : (at : Stand) → has_all s total at ≡ encloses all s at
  has_all_is at = ap (λ (b : Bool). is_seq at.form && b) (enough_is (inside at))

  -- a home is right exactly where it has the slot where the definition says so, and near
  pub home_right_is : (at : Stand) (fs : Fields) (home : List ℕ) → is_seq at.form ≡ true
      → home_right s total (seq fs home) (inside at) ≡ (same_truth (holds home s) (is_home all s at) && implies (holds home s) (holds (near fs) s))
  home_right_is at fs home e =
      let k : (enough s total (inside at) && not (list_any (has_all s total) (inside at))) ≡ is_home all s at =
      rw (enough_is (inside at), any_same (has_all s total) (encloses all s) has_all_is (inside at), e) refl in
      ap (λ (b : Bool). same_truth (holds home s) b && implies (holds home s) (holds (near fs) s)) k

same_truth_is : (a b : Bool) → same_truth a b ≡ true → a ≡ b
same_truth_is true true h = refl
same_truth_is true false h = cc
same_truth_is false true h = cc
same_truth_is false false h = refl

same_truth_refl : (a b : Bool) → a ≡ b → same_truth a b ≡ true
same_truth_refl true true h = refl
same_truth_refl true false h = cc
same_truth_refl false true h = cc
same_truth_refl false false h = refl

-- Uses and the homes round them.

open_step : (b : Bool) (around ss : List ℕ) (s t : ℕ) → nat_eq s t ≡ b → holds around t ≡ true → (b || list_any (nat_eq s) ss) ≡ true → (list_any (nat_eq s) ss ≡ true → holds around s ≡ true) → holds around s ≡ true
open_step true around ss s t e h g ih = rw (eqb-true s t e) h
open_step false around ss s t e h g ih = ih g

-- where all of these are at home around, one of them is
pub open_here : (around ss : List ℕ) (s : ℕ) → list_all (holds around) ss ≡ true → list_any (nat_eq s) ss ≡ true → holds around s ≡ true
open_here around [] s h g = cc
open_here around (t ∷ ss) s h g =
    let p = and_parts (holds around t) (list_all (holds around) ss) h in
    open_step (nat_eq s t) around ss s t refl p.0 g (λ k. open_here around ss s p.1 k)

implies_true : (a b : Bool) → (a ≡ true → b ≡ true) → implies a b ≡ true
implies_true true b f = f refl
implies_true false b f = refl

implies_gives : (a b : Bool) → implies a b ≡ true → a ≡ true → b ≡ true
implies_gives true b h k = h
implies_gives false b h k = cc

member_step : (b : Bool) (ns home : List ℕ) (s t : ℕ) → nat_eq t s ≡ b → holds ns t ≡ true → (b || holds home s) ≡ true → (holds home s ≡ true → holds ns s ≡ true) → holds ns s ≡ true
member_step true ns home s t e h g ih = rw (← eqb-true t s e) h
member_step false ns home s t e h g ih = ih g

pub near_member : (ns home : List ℕ) (s : ℕ) → list_all (holds ns) home ≡ true → holds home s ≡ true → holds ns s ≡ true
near_member ns [] s h g = cc
near_member ns (t ∷ home) s h g =
    let p = and_parts (holds ns t) (list_all (holds ns) home) h in
    member_step (nat_eq t s) ns home s t refl p.0 g (λ k. near_member ns home s p.1 k)

-- From the definition to the test of a slot.

module _ (all : List Stand) (n : ℕ) (numbered : slots_of all ≡ range_with_len 0 n) where
  home_part : (s : ℕ) → count_by (is_about s) all ≤ 65536 → s < n → (at : Stand) (form : Form) → is_seq at.form ≡ is_seq form → home_fine all at form ≡ true
      → home_right s (min (count_by (is_about s) all) (2 ^ 32 - 1)) form (inside at) ≡ true
  home_part s few l at (seq fs home) e h =
      let p = and_parts (same_numbers home (filter (λ t. is_home all t at) (slots_of all))) (list_all (holds (near fs)) home) h in
      let q : home ≡ filter (λ (t : ℕ). is_home all t at) (range_with_len 0 n) = same_is home (filter (λ (t : ℕ). is_home all t at) (slots_of all)) p.0 ∙ ap (λ (ss : List ℕ). filter (λ (t : ℕ). is_home all t at) ss) numbered in
      let r : holds home s ≡ is_home all s at = ap (λ (ss : List ℕ). holds ss s) q ∙ chosen_holds (λ (t : ℕ). is_home all t at) 0 n s (omega arith) (omega arith) in
      home_right_is all s few at fs home e
      ∙ rw (same_truth_refl (holds home s) (is_home all s at) r, implies_true (holds home s) (holds (near fs) s) (λ k. near_member (near fs) home s p.1 k)) refl
  home_part s few l at (num leaf) e h = refl
  home_part s few l at (octets sizing) e h = refl
  home_part s few l at (bits sizing) e h = refl
  home_part s few l at (text leaf) e h = refl
  home_part s few l at (list sizing g) e h = refl
  home_part s few l at (choice cases rule) e h = refl
  home_part s few l at (contained sizing g) e h = refl

  own_slot_part : (s : ℕ) (slot : Option ℕ) → slot_used all slot ≡ true → own_right s (min (count_by (is_about s) all) (2 ^ 32 - 1)) slot ≡ true
  own_slot_part s None h = refl
  own_slot_part s (Some t) h = own_case (nat_eq t s) refl
    where
      two : (c : ℕ) → nat_lt 1 c ≡ true → nat_lt 1 (min c (2 ^ 32 - 1)) ≡ true
      two c k = grind (arith, nat_tests)

      own_case : (b : Bool) → nat_eq t s ≡ b → implies b (nat_lt 1 (min (count_by (is_about s) all) (2 ^ 32 - 1))) ≡ true
      own_case true e = two (count_by (is_about s) all) (subst (λ (r : ℕ). nat_lt 1 (count_by (is_about r) all) ≡ true) (eqb-true t s e) h)
      own_case false e = refl

  own_part : (s : ℕ) (role : Role) → own_used all role ≡ true → role_right s (min (count_by (is_about s) all) (2 ^ 32 - 1)) role ≡ true
  own_part s (a_component one) h = own_slot_part s one.slot h
  own_part s root_node h = refl
  own_part s (an_inserted name slot) h = refl
  own_part s (an_alternative one) h = refl
  own_part s an_element h = refl
  own_part s a_content h = refl

  pub right_from : (s : ℕ) → count_by (is_about s) all ≤ 65536 → s < n → (at : Stand) → names_open at ≡ true → own_used all at.role ≡ true → home_fine all at at.form ≡ true
      → slot_right s (min (count_by (is_about s) all) (2 ^ 32 - 1)) at ≡ true
  right_from s few l at h o g =
      let named : (tests_name s (own_tests at.role) || form_names s at.form) ≡ true → holds at.around s ≡ true =
      λ k. open_here at.around (map slot_of (uses at)) s h (uses_named s 0 (own_tests at.role) (form_uses at.form) ∙ k) in
      rw (implies_true (tests_name s (own_tests at.role) || form_names s at.form) (holds at.around s) named, own_part s at.role o, home_part s few l at at.form refl g) refl

-- Numbers below another.

equal_test : (a : ℕ) → nat_eq a a ≡ true
equal_test a = grind (arith, nat_tests)

head_holds : (t : ℕ) (home : List ℕ) → holds (t ∷ home) t ≡ true
head_holds t home = rw (equal_test t) refl

head_any : (t : ℕ) (ss : List ℕ) → list_any (nat_eq t) (t ∷ ss) ≡ true
head_any t ss = rw (equal_test t) refl

test_is : (t : Test) → slot_of (condition t) ≡ test_slot t
test_is (Flag s) = refl
test_is (Equals s k) = refl

below_forms : (n : ℕ) (us : List Use) → list_all (λ u. nat_lt (slot_of u) n) us ≡ true → list_all (λ t. nat_lt t n) (map slot_of us) ≡ true
below_forms n [] h = refl
below_forms n (u ∷ us) h = (let p = and_parts (nat_lt (slot_of u) n) (list_all (λ v. nat_lt (slot_of v) n) us) h in rw p.0 (below_forms n us p.1))

below_mapped : (n : ℕ) (ts : List Test) (us : List Use) → tests_below n ts ≡ true → list_all (λ u. nat_lt (slot_of u) n) us ≡ true → list_all (λ t. nat_lt t n) (map slot_of (map condition ts ++ us)) ≡ true
below_mapped n [] us a b = below_forms n us b
below_mapped n (t ∷ ts) us a b = (let p = and_parts (nat_lt (test_slot t) n) (tests_below n ts) a in rw (test_is t, p.0) (below_mapped n ts us p.1 b))

-- the same back, where each is at home around and these are below n
below_held : (n : ℕ) (around : List ℕ) (s : ℕ) → all_below n around ≡ true → holds around s ≡ true → nat_lt s n ≡ true
below_held n [] s h g = cc
below_held n (t ∷ around) s h g = (let p = and_parts (nat_lt t n) (all_below n around) h in held_step (nat_eq t s) n around s t refl p.0 g (λ k. below_held n around s p.1 k))
  where
    held_step : (b : Bool) (n : ℕ) (around : List ℕ) (s t : ℕ) → nat_eq t s ≡ b → nat_lt t n ≡ true → (b || holds around s) ≡ true → (holds around s ≡ true → nat_lt s n ≡ true) → nat_lt s n ≡ true
    held_step true n around s t e h g ih = rw (← eqb-true t s e) h
    held_step false n around s t e h g ih = ih g

uses_back : (n : ℕ) (around : List ℕ) (us : List Use) → all_below n around ≡ true → list_all (holds around) (map slot_of us) ≡ true → list_all (λ u. nat_lt (slot_of u) n) us ≡ true
uses_back n around [] b h = refl
uses_back n around (u ∷ us) b h = (let p = and_parts (holds around (slot_of u)) (list_all (holds around) (map slot_of us)) h in rw (below_held n around (slot_of u) b p.0) (uses_back n around us b p.1))

all_back : (n : ℕ) (around : List ℕ) (ts : List Test) (us : List Use) → all_below n around ≡ true → list_all (holds around) (map slot_of (map condition ts ++ us)) ≡ true
    → (tests_below n ts ≡ true) × (list_all (λ u. nat_lt (slot_of u) n) us ≡ true)
all_back n around [] us b h = (refl, uses_back n around us b h)
all_back n around (t ∷ ts) us b h =
    let p = and_parts (holds around (slot_of (condition t))) (list_all (holds around) (map slot_of (map condition ts ++ us))) h in
    let q = all_back n around ts us b p.1 in
    let r : nat_lt (test_slot t) n ≡ true = below_held n around (test_slot t) b (rw (test_is t) at p.0) in
    (rw r q.0, q.1)

-- From the tests of slots to the definition.

module _ (all : List Stand) (n : ℕ) (numbered : slots_of all ≡ range_with_len 0 n) (few : (s : ℕ) → count_by (is_about s) all ≤ 65536) where
  abbrev Right : Stand → Type 0
  Right at = (s : ℕ) → s < n → slot_right s (min (count_by (is_about s) all) (2 ^ 32 - 1)) at ≡ true

  truth_of : (s : ℕ) (at : Stand) (fs : Fields) (home : List ℕ) → is_seq at.form ≡ true → home_right s (min (count_by (is_about s) all) (2 ^ 32 - 1)) (seq fs home) (inside at) ≡ true
      → (holds home s ≡ is_home all s at) × (holds home s ≡ true → holds (near fs) s ≡ true)
  truth_of s at fs home e h =
      let p = and_parts (same_truth (holds home s) (is_home all s at)) (implies (holds home s) (holds (near fs) s)) (sym (home_right_is all s (few s) at fs home e) ∙ h) in
      (same_truth_is (holds home s) (is_home all s at) p.0, λ k. implies_gives (holds home s) (holds (near fs) s) p.1 k)

  near_all : (ns home : List ℕ) → all_below n home ≡ true → ((s : ℕ) → s < n → holds home s ≡ true → holds ns s ≡ true) → list_all (holds ns) home ≡ true
  near_all ns [] b f = refl
  near_all ns (t ∷ home) b f =
      let p = and_parts (nat_lt t n) (all_below n home) b in
      rw (f t (ltb-true t n p.0) (head_holds t home), near_all ns home p.1 (λ s l k. f s l (or_right (nat_eq t s) (holds home s) k))) refl

  pub home_from : (at : Stand) (form : Form) → is_seq at.form ≡ is_seq form → home_low n form ≡ true → ((s : ℕ) → s < n → home_right s (min (count_by (is_about s) all) (2 ^ 32 - 1)) form (inside at) ≡ true) → home_fine all at form ≡ true
  home_from at (seq fs home) e low f =
      let p = and_parts (rises_from 0 home) (all_below n home) low in
      let test : ℕ → Bool = λ t. is_home all t at in
      let q : home ≡ filter test (range_with_len 0 n) = listed test 0 n home p.0 (let z : 0 + n ≡ n = omega arith in rw z p.1) (λ s a b. (let l : s < n = omega arith in (truth_of s at fs home e (f s l)).0)) in
      let r : filter test (slots_of all) ≡ home = ap (λ (ss : List ℕ). filter test ss) numbered ∙ sym q in
      rw (r, same_refl home) (near_all (near fs) home p.1 (λ s l k. (truth_of s at fs home e (f s l)).1 k))
  home_from at (num leaf) e low f = refl
  home_from at (octets sizing) e low f = refl
  home_from at (bits sizing) e low f = refl
  home_from at (text leaf) e low f = refl
  home_from at (list sizing g) e low f = refl
  home_from at (choice cases rule) e low f = refl
  home_from at (contained sizing g) e low f = refl

  all_open : (around ss : List ℕ) → list_all (λ t. nat_lt t n) ss ≡ true → ((s : ℕ) → s < n → list_any (nat_eq s) ss ≡ true → holds around s ≡ true) → list_all (holds around) ss ≡ true
  all_open around [] b f = refl
  all_open around (t ∷ ss) b f =
      let p = and_parts (nat_lt t n) (list_all (λ u. nat_lt u n) ss) b in
      rw (f t (ltb-true t n p.0) (head_any t ss), all_open around ss p.1 (λ s l k. f s l (or_right (nat_eq s t) (list_any (nat_eq s) ss) k))) refl

  -- the parts of what is right at a node
  pub right_parts : (s : ℕ) (at : Stand) → slot_right s (min (count_by (is_about s) all) (2 ^ 32 - 1)) at ≡ true
      → (implies (tests_name s (own_tests at.role) || form_names s at.form) (holds at.around s) ≡ true) × (role_right s (min (count_by (is_about s) all) (2 ^ 32 - 1)) at.role ≡ true) × (home_right s (min (count_by (is_about s) all) (2 ^ 32 - 1)) at.form (inside at) ≡ true)
  right_parts s at h =
      let total = min (count_by (is_about s) all) (2 ^ 32 - 1) in
      let p = and_parts (implies (tests_name s (own_tests at.role) || form_names s at.form) (holds at.around s) && role_right s total at.role) (home_right s total at.form (inside at)) h in
      let q = and_parts (implies (tests_name s (own_tests at.role) || form_names s at.form) (holds at.around s)) (role_right s total at.role) p.0 in
      (q.0, q.1, p.1)

  -- a component's slot is below n, and so it is tested
  slot_used_from : (slot : Option ℕ) → ((t : ℕ) → slot ≡ Some t → t < n) → ((s : ℕ) → s < n → own_right s (min (count_by (is_about s) all) (2 ^ 32 - 1)) slot ≡ true) → slot_used all slot ≡ true
  slot_used_from None low f = refl
  slot_used_from (Some t) low f = two (count_by (is_about t) all) (implies_gives (nat_eq t t) (nat_lt 1 (min (count_by (is_about t) all) (2 ^ 32 - 1))) (f t (low t refl)) (equal_self t))
    where
      equal_self : (a : ℕ) → nat_eq a a ≡ true
      equal_self a = grind (arith, nat_tests)

      two : (c : ℕ) → nat_lt 1 (min c (2 ^ 32 - 1)) ≡ true → nat_lt 1 c ≡ true
      two c k = grind (arith, nat_tests)

  pub used_from : (role : Role) → ((t : ℕ) → slot_here role ≡ Some t → t < n) → ((s : ℕ) → s < n → role_right s (min (count_by (is_about s) all) (2 ^ 32 - 1)) role ≡ true) → own_used all role ≡ true
  used_from (a_component one) low f = slot_used_from one.slot low f
  used_from root_node low f = refl
  used_from (an_inserted name slot) low f = refl
  used_from (an_alternative one) low f = refl
  used_from an_element low f = refl
  used_from a_content low f = refl

  pub open_from : (at : Stand) → tests_below n (own_tests at.role) ≡ true → uses_below n at.form ≡ true → Right at → names_open at ≡ true
  open_from at a b f =
      all_open at.around (map slot_of (uses at)) (below_mapped n (own_tests at.role) (form_uses at.form) a b)
      (λ s l k. implies_gives (tests_name s (own_tests at.role) || form_names s at.form) (holds at.around s)
      (right_parts s at (f s l)).0
      (sym (uses_named s 0 (own_tests at.role) (form_uses at.form)) ∙ k))

-- From the definition to the rules of nodes.

below-append : (n : ℕ) (xs ys : List ℕ) → all_below n xs ≡ true → all_below n ys ≡ true → all_below n (xs ++ ys) ≡ true
below-append n [] ys a b = b
below-append n (x ∷ xs) ys a b = (let p = and_parts (nat_lt x n) (all_below n xs) a in rw p.0 (below-append n xs ys p.1 b))

module _ (all : List Stand) (n : ℕ) (numbered : slots_of all ≡ range_with_len 0 n) where
  abbrev passes : Stand → Bool
  passes at = all_true (stand_rules all at)

  low_from : (at : Stand) (form : Form) → home_fine all at form ≡ true → home_low n form ≡ true
  low_from at (seq fs home) h =
      let p = and_parts (same_numbers home (filter (λ t. is_home all t at) (slots_of all))) (list_all (holds (near fs)) home) h in
      let test : ℕ → Bool = λ t. is_home all t at in
      let q : home ≡ filter test (range_with_len 0 n) = same_is home (filter test (slots_of all)) p.0 ∙ ap (λ (ss : List ℕ). filter test ss) numbered in
      rw q (rw (chosen_rise test 0 n, chosen_below test 0 n n (omega arith)) refl)
  low_from at (num leaf) h = refl
  low_from at (octets sizing) h = refl
  low_from at (bits sizing) h = refl
  low_from at (text leaf) h = refl
  low_from at (list sizing g) h = refl
  low_from at (choice cases rule) h = refl
  low_from at (contained sizing g) h = refl

  kept_here : (at : Stand) → all_below n at.around ≡ true → StandFine all at → kept_of n at ≡ true
  kept_here at b f =
      let p = all_back n at.around (own_tests at.role) (form_uses at.form) b f.uses in
      let low = low_from at at.form f.home in
      rw (f.role, p.0, f.align, f.form, p.1, low) refl

  both_lists : (xs ys : List Stand) → list_all (kept_of n) xs ≡ true → list_all (kept_of n) ys ≡ true → list_all (kept_of n) (xs ++ ys) ≡ true
  both_lists [] ys a b = b
  both_lists (x ∷ xs) ys a b = (let p = and_parts (kept_of n x) (list_all (kept_of n) xs) a in rw p.0 (both_lists xs ys p.1 b))

  mutual
    pub from_node : (g : Grammar) (role : Role) (path around : List ℕ) → all_below n around ≡ true → list_all passes (nodes role path around g) ≡ true → list_all (kept_of n) (nodes role path around g) ≡ true
    from_node (node align form) role path around b h =
        let here : Stand = record { path = path; around = around; role = role; align = align; form = form } in
        let p = and_parts (passes here) (list_all passes (form_nodes path around form)) h in
        let f = stand_fine all here p.0 in
        let k = kept_here here b f in
        rw k (from_form form path around b (low_from here form f.home) p.1)

    from_form : (form : Form) (path around : List ℕ) → all_below n around ≡ true → home_low n form ≡ true → list_all passes (form_nodes path around form) ≡ true → list_all (kept_of n) (form_nodes path around form) ≡ true
    from_form (num leaf) path around b l h = refl
    from_form (octets sizing) path around b l h = refl
    from_form (bits sizing) path around b l h = refl
    from_form (text leaf) path around b l h = refl
    from_form (seq fs home) path around b l h = from_fields fs path (home ++ around) 0 (below-append n home around (and_parts (rises_from 0 home) (all_below n home) l).1 b) h
    from_form (list sizing g) path around b l h = from_node g an_element (path ++ 0 ∷ []) around b h
    from_form (choice cases rule) path around b l h = from_alternatives cases rule path around 0 b h
    from_form (contained sizing g) path around b l h = from_node g a_content (path ++ 0 ∷ []) around b h

    from_fields : (fs : Fields) (path around : List ℕ) (k : ℕ) → all_below n around ≡ true → list_all passes (field_nodes path around k fs) ≡ true → list_all (kept_of n) (field_nodes path around k fs) ≡ true
    from_fields no_fields path around k b h = refl
    from_fields (component name g presence default own fs) path around k b h =
        let p = list_all-append passes (nodes (component_role name presence default own) (path ++ k ∷ []) around g) (field_nodes path around (suc k) fs) h in
        both_lists (nodes (component_role name presence default own) (path ++ k ∷ []) around g) (field_nodes path around (suc k) fs) (from_node g (component_role name presence default own) (path ++ k ∷ []) around b p.0) (from_fields fs path around (suc k) b p.1)
    from_fields (inserted name g slot fs) path around k b h =
        let p = list_all-append passes (nodes (an_inserted name slot) (path ++ k ∷ []) around g) (field_nodes path around (suc k) fs) h in
        both_lists (nodes (an_inserted name slot) (path ++ k ∷ []) around g) (field_nodes path around (suc k) fs) (from_node g (an_inserted name slot) (path ++ k ∷ []) around b p.0) (from_fields fs path around (suc k) b p.1)

    from_alternatives : (as' : Alternatives) (rule : ChoiceRule) (path around : List ℕ) (k : ℕ) → all_below n around ≡ true → list_all passes (alternative_nodes rule path around k as') ≡ true → list_all (kept_of n) (alternative_nodes rule path around k as') ≡ true
    from_alternatives no_alternatives rule path around k b h = refl
    from_alternatives (alternative name g tests more) rule path around k b h =
        let p = list_all-append passes (nodes (alternative_role name tests rule) (path ++ k ∷ []) around g) (alternative_nodes rule path around (suc k) more) h in
        both_lists (nodes (alternative_role name tests rule) (path ++ k ∷ []) around g) (alternative_nodes rule path around (suc k) more) (from_node g (alternative_role name tests rule) (path ++ k ∷ []) around b p.0) (from_alternatives more rule path around (suc k) b p.1)

-- The whole.

all_as : {A : Type 0} (p q : A → Bool) → ((x : A) → p x ≡ true → q x ≡ true) → (xs : List A) → list_all p xs ≡ true → list_all q xs ≡ true
all_as p q f [] h = refl
all_as p q f (x ∷ xs) h = (let r = and_parts (p x) (list_all p xs) h in rw (f x r.0, all_as p q f xs r.1) refl)

pub all_range : (p : ℕ → Bool) (a k : ℕ) → ((s : ℕ) → s < a + k → p s ≡ true) → list_all p (range_with_len a k) ≡ true
all_range p a zero f = refl
all_range p a (suc k) f = (let r = f a (omega arith) in rw r (all_range p (a + 1) k (λ s l. f s (omega arith))))

range_gives : (p : ℕ → Bool) (a k s : ℕ) → list_all p (range_with_len a k) ≡ true → a ≤ s → s < a + k → p s ≡ true
range_gives p a zero s h low high = absurd (omega arith)
range_gives p a (suc k) s h low high = range_case (nat_eq a s) refl
    (and_parts (p a) (list_all p (range_with_len (a + 1) k)) h).0 (λ l. range_gives p (a + 1) k s (and_parts (p a) (list_all p (range_with_len (a + 1) k)) h).1 l (omega arith))
  where
    range_case : (b : Bool) → nat_eq a s ≡ b → p a ≡ true → (a + 1 ≤ s → p s ≡ true) → p s ≡ true
    range_case true e r f = rw (← eqb-true a s e) r
    range_case false e r f = f (further a s low e)
      where
        further : (a s : ℕ) → a ≤ s → nat_eq a s ≡ false → a + 1 ≤ s
        further a s low e = grind (arith, nat_tests)

same_bool : (a b : Bool) → (a ≡ true → b ≡ true) → (b ≡ true → a ≡ true) → a ≡ b
same_bool true b f g = sym (f refl)
same_bool false true f g = g refl
same_bool false false f g = refl

slots_few : (xs : List Stand) → length (slots_of xs) ≤ length xs
slots_few [] = omega arith
slots_few (x ∷ xs) = few_step (slot_here x.role) (slots_of xs) (length xs) (slots_few xs)
  where
    few_step : (o : Option ℕ) (ss : List ℕ) (n : ℕ) → length ss ≤ n → length (cons_option o ss) ≤ suc n
    few_step None ss n h = omega arith
    few_step (Some s) ss n h = omega arith

abbrev pub begin : Tally
begin = record { left = 65536; next = 0 }

module _ (root : Grammar) where
  abbrev all : List Stand
  all = nodes_of root

  abbrev slots : ℕ
  slots = length (slots_of (nodes_of root))

  pub as_run : run (nodes_of root) begin ≡ tally 0 root begin
  as_run = runs_node root root_node [] [] begin

  record Parts : Type 0 where
    size : length (nodes_of root) ≤ 65536
    order : same_numbers (slots_of (nodes_of root)) (range_with_len 0 (length (slots_of (nodes_of root)))) ≡ true
    each : list_all (λ at. all_true (stand_rules (nodes_of root) at)) (nodes_of root) ≡ true

  parts : is_tree root ≡ true → Parts
  parts h =
      let a = and_parts (nat_le (length (nodes_of root)) 65536) (same_numbers (slots_of (nodes_of root)) (range_with_len 0 (length (slots_of (nodes_of root)))) && list_all (λ at. all_true (stand_rules (nodes_of root) at)) (nodes_of root)) h in
      let b = and_parts (same_numbers (slots_of (nodes_of root)) (range_with_len 0 (length (slots_of (nodes_of root))))) (list_all (λ at. all_true (stand_rules (nodes_of root) at)) (nodes_of root)) a.1 in
      record { size = at_most (length (nodes_of root)) a.0; order = b.0; each = b.1 }
    where
      at_most : (n : ℕ) → nat_le n 65536 ≡ true → n ≤ 65536
      at_most n h = grind (arith, nat_tests)

  pub counted : is_tree root ≡ true → Ended (nodes_of root) begin
  counted h =
      let p = parts h in
      runs_some (nodes_of root) begin p.size p.order (all_as (λ (at : Stand). all_true (stand_rules (nodes_of root) at)) deep (λ at k. (stand_fine (nodes_of root) at k).depth) (nodes_of root) p.each)

  pub none_case : tally 0 root begin ≡ None → false ≡ is_tree root
  none_case e = not_true (is_tree root) (λ h. (let r = counted h in clash (tally 0 root begin) r.end' e (sym as_run ∙ r.is_end)))
    where
      clash : (o : Option Tally) (u : Tally) → o ≡ None → o ≡ Some u → ⊥
      clash o u a b = cc

  pub is_kept : is_tree root ≡ true → kept (length (slots_of (nodes_of root))) root ≡ true
  is_kept h =
      let p = parts h in
      let n = length (slots_of (nodes_of root)) in
      let f = from_node (nodes_of root) n (same_is (slots_of (nodes_of root)) (range_with_len 0 n) p.order) root root_node [] [] refl p.each in
      sym (kept_node n root root_node [] []) ∙ f

  few_about : (s : ℕ) → length (nodes_of root) ≤ 65536 → count_by (is_about s) (nodes_of root) ≤ 65536
  few_about s h = (let k = count_by-le-length (is_about s) (nodes_of root) in omega arith)

  pub slots_right : is_tree root ≡ true → list_all (slot_kept root) (range_with_len 0 (length (slots_of (nodes_of root)))) ≡ true
  slots_right h =
      let p = parts h in
      let n = length (slots_of (nodes_of root)) in
      let numbered = same_is (slots_of (nodes_of root)) (range_with_len 0 n) p.order in
      all_range (slot_kept root) 0 n (λ s l.
      slot_kept_is root s ∙ all_as (λ (at : Stand). all_true (stand_rules (nodes_of root) at)) (slot_right s (min (count_by (is_about s) (nodes_of root)) (2 ^ 32 - 1)))
      (λ at k. (let f = stand_fine (nodes_of root) at k in right_from (nodes_of root) n numbered s (few_about s p.size) (omega arith) at f.uses f.own f.home)) (nodes_of root) p.each)

  seven_true : (a b c d e f g : Bool) → a ≡ true → b ≡ true → c ≡ true → d ≡ true → e ≡ true → f ≡ true → g ≡ true → list_all (λ x. x) (a ∷ b ∷ c ∷ d ∷ e ∷ f ∷ g ∷ []) ≡ true
  seven_true a b c d e f g p q r s t u v = rw (p, q, r, s, t, u, v) refl

  -- the slots of a list of nodes are below n
  abbrev low_slots : ℕ → List Stand → Bool
  low_slots n xs = list_all (λ t. nat_lt t n) (slots_of xs)

  low_step : (n : ℕ) (o : Option ℕ) (ss : List ℕ) → list_all (λ t. nat_lt t n) (cons_option o ss) ≡ true → ((t : ℕ) → o ≡ Some t → t < n) × (list_all (λ t. nat_lt t n) ss ≡ true)
  low_step n None ss h = ((λ t e. cc), h)
  low_step n (Some u) ss h =
      let p = and_parts (nat_lt u n) (list_all (λ t. nat_lt t n) ss) h in
      ((λ t e. (let is : u ≡ t = cc in rw (← is) (ltb-true u n p.0))), p.1)

  all_low : (n : ℕ) → list_all (λ t. nat_lt t n) (range_with_len 0 n) ≡ true
  all_low n = all_range (λ t. nat_lt t n) 0 n (λ s l. lt-ltb s n (omega arith))

  fine_here : (n : ℕ) → slots_of (nodes_of root) ≡ range_with_len 0 n → (few : (s : ℕ) → count_by (is_about s) (nodes_of root) ≤ 65536) → (at : Stand) → deep at ≡ true → kept_of n at ≡ true → ((t : ℕ) → slot_here at.role ≡ Some t → t < n)
      → ((s : ℕ) → s < n → slot_right s (min (count_by (is_about s) (nodes_of root)) (2 ^ 32 - 1)) at ≡ true) → all_true (stand_rules (nodes_of root) at) ≡ true
  fine_here n numbered few at d k low f =
      let a = and_parts (role_fine at.role at.form) (tests_below n (own_tests at.role) && (is_align at.align && (form_fine at.form && (uses_below n at.form && home_low n at.form)))) k in
      let b = and_parts (tests_below n (own_tests at.role)) (is_align at.align && (form_fine at.form && (uses_below n at.form && home_low n at.form))) a.1 in
      let c = and_parts (is_align at.align) (form_fine at.form && (uses_below n at.form && home_low n at.form)) b.1 in
      let e = and_parts (form_fine at.form) (uses_below n at.form && home_low n at.form) c.1 in
      let g = and_parts (uses_below n at.form) (home_low n at.form) e.1 in
      let opened = open_from (nodes_of root) n numbered few at b.0 g.0 f in
      let home = home_from (nodes_of root) n numbered few at at.form refl g.1
      (λ s l. (right_parts (nodes_of root) n numbered few s at (f s l)).2) in
      let used = used_from (nodes_of root) n numbered few at.role low (λ s l. (right_parts (nodes_of root) n numbered few s at (f s l)).1) in
      seven_true (deep at) (is_align at.align) (form_fine at.form) (role_fine at.role at.form) (own_used (nodes_of root) at.role) (names_open at) (home_fine (nodes_of root) at at.form) d c.0 e.0 a.0 used opened home

  each_fine : (n : ℕ) → slots_of (nodes_of root) ≡ range_with_len 0 n → (few : (s : ℕ) → count_by (is_about s) (nodes_of root) ≤ 65536) → (xs : List Stand) → list_all deep xs ≡ true → list_all (kept_of n) xs ≡ true → low_slots n xs ≡ true
      → ((s : ℕ) → s < n → list_all (slot_right s (min (count_by (is_about s) (nodes_of root)) (2 ^ 32 - 1))) xs ≡ true) → list_all (λ at. all_true (stand_rules (nodes_of root) at)) xs ≡ true
  each_fine n numbered few [] d k low f = refl
  each_fine n numbered few (x ∷ xs) d k low f =
      let p = and_parts (deep x) (list_all deep xs) d in
      let q = and_parts (kept_of n x) (list_all (kept_of n) xs) k in
      let r : (s : ℕ) → s < n → slot_right s (min (count_by (is_about s) (nodes_of root)) (2 ^ 32 - 1)) x ≡ true = λ s l. (and_parts (slot_right s (min (count_by (is_about s) (nodes_of root)) (2 ^ 32 - 1)) x) (list_all (slot_right s (min (count_by (is_about s) (nodes_of root)) (2 ^ 32 - 1))) xs) (f s l)).0 in
      let o = low_step n (slot_here x.role) (slots_of xs) low in
      let head = fine_here n numbered few x p.0 q.0 o.0 r in
      rw head (each_fine n numbered few xs p.1 q.1 o.1 (λ s l. (and_parts (slot_right s (min (count_by (is_about s) (nodes_of root)) (2 ^ 32 - 1)) x) (list_all (slot_right s (min (count_by (is_about s) (nodes_of root)) (2 ^ 32 - 1))) xs) (f s l)).1))

  pub tree_from : (u : Tally) → tally 0 root begin ≡ Some u → kept u.next root ≡ true → list_all (slot_kept root) (range_with_len 0 u.next) ≡ true → is_tree root ≡ true
  tree_from u e k l =
      let facts = ran (nodes_of root) begin u (as_run ∙ e) in
      let fits = facts.fits in
      let n = length (slots_of (nodes_of root)) in
      let nx : u.next ≡ n = (let m = facts.next in omega arith) in
      let numbered = same_is (slots_of (nodes_of root)) (range_with_len 0 n) facts.slots in
      let k' : kept n root ≡ true = rw nx at k in
      let l' : list_all (slot_kept root) (range_with_len 0 n) ≡ true = rw nx at l in
      let each = each_fine n numbered (λ s. few_about s fits) (nodes_of root) facts.all_deep (kept_node n root root_node [] [] ∙ k') (ap (λ (ss : List ℕ). list_all (λ t. nat_lt t n) ss) numbered ∙ all_low n)
      (λ s b. sym (slot_kept_is root s) ∙ range_gives (slot_kept root) 0 n s l' (omega arith) (omega arith)) in
      let size : nat_le (length (nodes_of root)) 65536 ≡ true = size_test (length (nodes_of root)) fits in
      rw (size, facts.slots, each) refl
    where
      size_test : (n : ℕ) → n ≤ 65536 → nat_le n 65536 ≡ true
      size_test n h = grind (arith, nat_tests)

  pub next_is : (u : Tally) → tally 0 root begin ≡ Some u → u.next ≡ length (slots_of (nodes_of root))
  next_is u e = (let m = (ran (nodes_of root) begin u (as_run ∙ e)).next in omega arith)

  pub few_slots : (u : Tally) → tally 0 root begin ≡ Some u → u.next ≤ 2 ^ 32
  few_slots u e =
      let f = (ran (nodes_of root) begin u (as_run ∙ e)).fits in
      let m = next_is u e in
      let l = slots_few (nodes_of root) in
      omega arith

  pub not_kept : (u : Tally) (r : Bool) → tally 0 root begin ≡ Some u → r ≡ kept u.next root → r ≡ false → r ≡ is_tree root
  not_kept u r e k h = h ∙ not_true (is_tree root) (λ t. clash r (kept u.next root) k h (rw (next_is u e) (is_kept t)))
    where
      clash : (r k : Bool) → r ≡ k → r ≡ false → k ≡ true → ⊥
      clash r k a b c = cc

  pub decided : (u : Tally) (r : Bool) → tally 0 root begin ≡ Some u → kept u.next root ≡ true → r ≡ list_all (slot_kept root) (range_with_len 0 u.next) → r ≡ is_tree root
  decided u r e k h = same_bool r (is_tree root) (λ t. tree_from u e k (sym h ∙ t)) (λ t. h ∙ rw (next_is u e) (slots_right t))
