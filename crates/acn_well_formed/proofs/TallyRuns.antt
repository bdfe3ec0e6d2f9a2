-- The count of steps, nodes and slots by recursion is the one over the nodes in preorder.
use Rattle.std.proofs.Common.{◌≡◌, ℕ, suc, ◌+◌, ◌-◌, ◌<◌, ◌≤◌, Bool, true, false, List, [], ◌∷◌, ◌++◌, length, Option, Some, None, nat_le, nat_eq, nat_lt, ◌&&◌, refl, ap, ◌∙◌, arith}
use Rattle.std.specs.Prelude.{if◌then◌else◌}
use Rattle.std.specs.List.{list_all, range_with_len, cons_option}
use Rattle.std.proofs.lemmas.Bool.Decides.{nat_tests}
use Rattle.acn_grammar.specs.Grammar.{Grammar, Form, Fields, Alternatives, node, num, octets, bits, text, seq, list, choice, contained, no_fields, component, inserted, no_alternatives, alternative}
use Rattle.acn_well_formed.specs.Tallies.{spent, numbered, then_tally, tally, form_tally, fields_tally, alternatives_tally}
use Rattle.acn_grammar.specs.Tree.{same_numbers, slots_of}
use Rattle.acn_grammar.specs.Walk.{Stand, Role, component_role, an_inserted, alternative_role, an_element, a_content, nodes, form_nodes, field_nodes, alternative_nodes, slot_here}
use Rattle.acn_grammar.specs.declared.node.ChoiceRule.{ChoiceRule}
use Rattle.acn_well_formed.specs.declared.tallies.Tally.{Tally}
use Rattle.std.proofs.lemmas.Bool.{and_parts}

abbrev pub deep : Stand → Bool
deep at = nat_le (length at.path) 64

abbrev pub run_one : Stand → Tally → Option Tally
run_one at t = then_tally (numbered (slot_here at.role) t) (λ u. if deep at then spent u else None)

abbrev pub run : List Stand → Tally → Option Tally
run [] t = Some t
run (at ∷ more) t = then_tally (run_one at t) (run more)

append_at : (o : Option Tally) (xs ys : List Stand) → ((t : Tally) → run (xs ++ ys) t ≡ then_tally (run xs t) (run ys)) → then_tally o (run (xs ++ ys)) ≡ then_tally (then_tally o (run xs)) (run ys)
append_at None xs ys ih = refl
append_at (Some t) xs ys ih = ih t

run-append : (xs ys : List Stand) (t : Tally) → run (xs ++ ys) t ≡ then_tally (run xs t) (run ys)
run-append [] ys t = refl
run-append (x ∷ xs) ys t = append_at (run_one x t) xs ys (λ u. run-append xs ys u)

spent_step : (o : Option Tally) (r f : Tally → Option Tally) → ((t : Tally) → r t ≡ f t) → then_tally o r ≡ then_tally o f
spent_step None r f ih = refl
spent_step (Some t) r f ih = ih t

node_step : (o : Option Tally) (d : Bool) (r f : Tally → Option Tally) → ((t : Tally) → r t ≡ f t) → then_tally (then_tally o (λ u. if d then spent u else None)) r ≡ then_tally o (λ u. if d then then_tally (spent u) f else None)
node_step None d r f ih = refl
node_step (Some t) false r f ih = refl
node_step (Some t) true r f ih = spent_step (spent t) r f ih

joined_step : (o p : Option Tally) (r f : Tally → Option Tally) → o ≡ p → ((t : Tally) → r t ≡ f t) → then_tally o r ≡ then_tally p f
joined_step o p r f e ih = rw e (spent_step p r f ih)

pub longer : (path : List ℕ) (k : ℕ) → length (path ++ k ∷ []) ≡ length path + 1
longer [] k = refl
longer (x ∷ path) k = (let e = longer path k in omega arith)

mutual
  pub runs_node : (g : Grammar) (role : Role) (path around : List ℕ) (t : Tally) → run (nodes role path around g) t ≡ then_tally (numbered (slot_here role) t) (tally (length path) g)
  runs_node (node align form) role path around t =
      node_step (numbered (slot_here role) t) (nat_le (length path) 64) (run (form_nodes path around form)) (form_tally (length path + 1) form) (λ u. runs_form form path around u)

  -- at one step further, where the role gives no slot
  runs_form : (form : Form) (path around : List ℕ) (t : Tally) → run (form_nodes path around form) t ≡ form_tally (length path + 1) form t
  runs_form (num leaf) path around t = refl
  runs_form (octets sizing) path around t = refl
  runs_form (bits sizing) path around t = refl
  runs_form (text leaf) path around t = refl
  runs_form (seq fields home) path around t = runs_fields fields path (home ++ around) 0 t
  runs_form (list sizing g) path around t = runs_node g an_element (path ++ 0 ∷ []) around t ∙ ap (λ (n : ℕ). tally n g t) (longer path 0)
  runs_form (choice cases rule) path around t = runs_alternatives cases rule path around 0 t
  runs_form (contained sizing g) path around t = runs_node g a_content (path ++ 0 ∷ []) around t ∙ ap (λ (n : ℕ). tally n g t) (longer path 0)

  runs_fields : (fs : Fields) (path around : List ℕ) (k : ℕ) (t : Tally) → run (field_nodes path around k fs) t ≡ fields_tally (length path + 1) fs t
  runs_fields no_fields path around k t = refl
  runs_fields (component name g presence default own fs) path around k t =
      run-append (nodes (component_role name presence default own) (path ++ k ∷ []) around g) (field_nodes path around (suc k) fs) t
      ∙ joined_step (run (nodes (component_role name presence default own) (path ++ k ∷ []) around g) t) (then_tally (numbered own t) (tally (length path + 1) g)) (run (field_nodes path around (suc k) fs)) (fields_tally (length path + 1) fs)
      (runs_node g (component_role name presence default own) (path ++ k ∷ []) around t ∙ ap (λ (n : ℕ). then_tally (numbered own t) (tally n g)) (longer path k)) (λ u. runs_fields fs path around (suc k) u)
  runs_fields (inserted name g slot fs) path around k t =
      run-append (nodes (an_inserted name slot) (path ++ k ∷ []) around g) (field_nodes path around (suc k) fs) t
      ∙ joined_step (run (nodes (an_inserted name slot) (path ++ k ∷ []) around g) t) (then_tally (numbered slot t) (tally (length path + 1) g)) (run (field_nodes path around (suc k) fs)) (fields_tally (length path + 1) fs)
      (runs_node g (an_inserted name slot) (path ++ k ∷ []) around t ∙ ap (λ (n : ℕ). then_tally (numbered slot t) (tally n g)) (longer path k)) (λ u. runs_fields fs path around (suc k) u)

  runs_alternatives : (as' : Alternatives) (rule : ChoiceRule) (path around : List ℕ) (k : ℕ) (t : Tally) → run (alternative_nodes rule path around k as') t ≡ alternatives_tally (length path + 1) as' t
  runs_alternatives no_alternatives rule path around k t = refl
  runs_alternatives (alternative name g tests more) rule path around k t =
      run-append (nodes (alternative_role name tests rule) (path ++ k ∷ []) around g) (alternative_nodes rule path around (suc k) more) t
      ∙ joined_step (run (nodes (alternative_role name tests rule) (path ++ k ∷ []) around g) t) (tally (length path + 1) g t) (run (alternative_nodes rule path around (suc k) more)) (alternatives_tally (length path + 1) more)
      (runs_node g (alternative_role name tests rule) (path ++ k ∷ []) around t ∙ ap (λ (n : ℕ). tally n g t) (longer path k)) (λ u. runs_alternatives more rule path around (suc k) u)

-- What a run says of the list.

abbrev pub good : List Stand → Tally → Bool
good xs t = nat_le (length xs) t.left && (same_numbers (slots_of xs) (range_with_len t.next (length (slots_of xs))) && list_all deep xs)

abbrev pub end : List Stand → Tally → Tally
end xs t = record { left = t.left - length xs; next = t.next + length (slots_of xs) }

abbrev pub ended : Bool → List Stand → Tally → Option Tally
ended true xs t = Some (end xs t)
ended false xs t = None

-- what has come, and whether it was right
pub record Facts (n : ℕ) (ss : List ℕ) (ds : Bool) (t u : Tally) : Type 0 where
  pub fits : n ≤ t.left
  pub slots : same_numbers ss (range_with_len t.next (length ss)) ≡ true
  pub next : u.next ≡ t.next + length ss
  pub all_deep : ds ≡ true

abbrev pub fewer : Tally → Tally
fewer t = record { left = t.left - 1; next = t.next }

abbrev pub one_on : Tally → Tally
one_on t = record { left = t.left; next = suc t.next }

spent_some : (t u : Tally) → spent t ≡ Some u → (0 < t.left) × (u ≡ fewer t)
spent_some t u h = spent_case (nat_lt 0 t.left) refl h
  where
    spent_case : (b : Bool) → nat_lt 0 t.left ≡ b → (if b then Some (fewer t) else None) ≡ Some u → (0 < t.left) × (u ≡ fewer t)
    spent_case true e k = (grind (arith, nat_tests), cc)
    spent_case false e k = cc

numbered_some : (s : ℕ) (t u : Tally) → numbered (Some s) t ≡ Some u → (nat_eq s t.next ≡ true) × (s ≡ t.next) × (u ≡ one_on t)
numbered_some s t u h = numbered_case (nat_eq s t.next) refl h
  where
    numbered_case : (b : Bool) → nat_eq s t.next ≡ b → (if b then Some (one_on t) else None) ≡ Some u → (nat_eq s t.next ≡ true) × (s ≡ t.next) × (u ≡ one_on t)
    numbered_case true e k = (e, grind (arith, nat_tests), cc)
    numbered_case false e k = cc

pub record Then (o : Option Tally) (f : Tally → Option Tally) (u : Tally) : Type 0 where
  pub between : Tally
  pub first : o ≡ Some between
  pub second : f between ≡ Some u

then_some : (o : Option Tally) (f : Tally → Option Tally) (u : Tally) → then_tally o f ≡ Some u → Then o f u
then_some None f u h = cc
then_some (Some v) f u h = record { between = v; first = refl; second = h }

deep_some : (d : Bool) (o : Option Tally) (v : Tally) → (if d then o else None) ≡ Some v → (d ≡ true) × (o ≡ Some v)
deep_some true o v h = (refl, h)
deep_some false o v h = cc

-- one node more, behind its slot
node_facts : (d : Bool) (ss : List ℕ) (n : ℕ) (ds : Bool) (w v u : Tally) → (if d then spent w else None) ≡ Some v → Facts n ss ds v u → Facts (suc n) ss (d && ds) w u
node_facts d ss n ds w v u h f =
    let p = deep_some d (spent w) v h in
    let q = spent_some w v p.1 in
    let some = q.0 in
    let e : v.left ≡ w.left - 1 = ap (λ (t : Tally). t.left) q.1 in
    let g : v.next ≡ w.next = ap (λ (t : Tally). t.next) q.1 in
    let le = f.fits in
    record { fits = omega arith; slots = rw g at f.slots; next = f.next ∙ ap (λ (k : ℕ). k + length ss) g; all_deep = rw p.0 f.all_deep }

ran_step : (o : Option ℕ) (d : Bool) (ss : List ℕ) (n : ℕ) (ds : Bool) (t w v u : Tally) → numbered o t ≡ Some w → (if d then spent w else None) ≡ Some v → Facts n ss ds v u → Facts (suc n) (cons_option o ss) (d && ds) t u
ran_step None d ss n ds t w v u e h f = (let k : t ≡ w = cc in rw k (node_facts d ss n ds w v u h f))
ran_step (Some s) d ss n ds t w v u e h f =
    let p = numbered_some s t w e in
    let g = node_facts d ss n ds w v u h f in
    let l : w.left ≡ t.left = ap (λ (a : Tally). a.left) p.2 in
    let m : w.next ≡ t.next + 1 = ap (λ (a : Tally). a.next) p.2 ∙ suc_one t.next in
    let le = g.fits in
    let ne = g.next in
    record { fits = omega arith; slots = rw p.0 (rw m at g.slots); next = omega arith; all_deep = g.all_deep }
  where
    suc_one : (k : ℕ) → suc k ≡ k + 1
    suc_one k = omega arith

pub ran : (xs : List Stand) (t u : Tally) → run xs t ≡ Some u → Facts (length xs) (slots_of xs) (list_all deep xs) t u
ran [] t u h = (let e : t ≡ u = cc in rw (← e) (record { fits = omega arith; slots = refl; next = omega arith; all_deep = refl }))
ran (x ∷ xs) t u h =
    let p = then_some (run_one x t) (run xs) u h in
    let q = then_some (numbered (slot_here x.role) t) (λ w. if deep x then spent w else None) p.between p.first in
    ran_step (slot_here x.role) (deep x) (slots_of xs) (length xs) (list_all deep xs) t q.between p.between u q.first q.second (ran xs p.between u p.second)

pub record Begun (o : Option ℕ) (d : Bool) (ss : List ℕ) (n : ℕ) (t : Tally) : Type 0 where
  pub slotted : Tally
  pub behind : Tally
  pub is_slotted : numbered o t ≡ Some slotted
  pub is_behind : (if d then spent slotted else None) ≡ Some behind
  pub fits : n ≤ behind.left
  pub slots : same_numbers ss (range_with_len behind.next (length ss)) ≡ true

some_left : (t : Tally) → 0 < t.left → spent t ≡ Some (fewer t)
some_left t h = (let e : nat_lt 0 t.left ≡ true = grind (arith, nat_tests) in rw e refl)

begin : (o : Option ℕ) (d : Bool) (ss : List ℕ) (n : ℕ) (t : Tally) → suc n ≤ t.left → same_numbers (cons_option o ss) (range_with_len t.next (length (cons_option o ss))) ≡ true → d ≡ true → Begun o d ss n t
begin None d ss n t a b c = record { slotted = t; behind = fewer t; is_slotted = refl; is_behind = rw c (some_left t (omega arith)); fits = omega arith; slots = b }
begin (Some s) d ss n t a b c =
    let p = and_parts (nat_eq s t.next) (same_numbers ss (range_with_len (t.next + 1) (length ss))) b in
    let e : suc t.next ≡ t.next + 1 = omega arith in
    record { slotted = one_on t; behind = fewer (one_on t); is_slotted = rw p.0 refl; is_behind = rw c (some_left (one_on t) (omega arith)); fits = omega arith; slots = rw e p.1 }

pub record Ended (xs : List Stand) (t : Tally) : Type 0 where
  pub end' : Tally
  pub is_end : run xs t ≡ Some end'

pub runs_some : (xs : List Stand) (t : Tally) → length xs ≤ t.left → same_numbers (slots_of xs) (range_with_len t.next (length (slots_of xs))) ≡ true → list_all deep xs ≡ true → Ended xs t
runs_some [] t a b c = record { end' = t; is_end = refl }
runs_some (x ∷ xs) t a b c =
    let p = and_parts (deep x) (list_all deep xs) c in
    let q = begin (slot_here x.role) (deep x) (slots_of xs) (length xs) t a b p.0 in
    let r = runs_some xs q.behind q.fits q.slots p.1 in
    record { end' = r.end'; is_end = rw (q.is_slotted, q.is_behind) r.is_end }
