-- The facts of a well-formed tree fit the types of the program.
use Rattle.std.proofs.Common.{◌≡◌, ℕ, suc, ◌+◌, ◌*◌, ◌<◌, ◌≤◌, ◌^◌, Bool, true, false, List, [], ◌∷◌, ◌++◌, length, map, Option, Some, None, refl, sym, ap, subst, arith, nat_le, nat_lt, ◌&&◌, cond, length-append}
use Rattle.std.specs.Prelude.{filter}
use Rattle.std.specs.List.{list_all, range_with_len}
use Rattle.std.proofs.lemmas.Bool.Decides.{nat_tests}
use Rattle.acn_grammar.specs.Check.{home_size}
use Rattle.acn_grammar.specs.Grammar.{Grammar, Form, Fields, Alternatives, node, num, octets, bits, text, seq, list, choice, contained, no_fields, component, inserted, no_alternatives, alternative}
use Rattle.acn_grammar.specs.Leaves.{num_fine}
use Rattle.acn_grammar.specs.Tree.{IsTree, form_fine, is_home, home_fine, holds, near, same_numbers, slots_of, stand_rules, all_true}
use Rattle.acn_grammar.specs.Walk.{Stand, nodes_of, presence_tests, slot_here, conditions_of}
use Rattle.acn_packet_laws.proofs.Placed.{tree_rules}
use Rattle.acn_grammar.proofs.TreeRules.{stand_fine}
use Rattle.std.specs.List.{cons_option}
use Rattle.acn_check.specs.Facts.{Facts, Tag, Fit, fits, seen, plain, facts, form_facts, field_facts, alternative_facts}
use Rattle.acn_check.specs.First.{dets, det_here, det_with}
use Rattle.acn_check.specs.Order.{lines_of}
use Rattle.acn_check.specs.Program.{few_in, FewCases}
use Rattle.acn_check.proofs.Flat.{length-map, lines_are}
use Rattle.acn_grammar.proofs.Characters.{same_name-is}
use Rattle.std.proofs.lemmas.Bool.{and_parts}

-- what holds of each of a list
abbrev pub Each : {A : Type 0} → (A → Type 0) → List A → Type 0
Each P [] = Unit {0}
Each P (x ∷ xs) = P x × Each P xs

pub each_left : {A : Type 0} (P : A → Type 0) (a b : List A) → Each P (a ++ b) → Each P a
each_left P [] b e = tt
each_left P (x ∷ a) b e = (e.0, each_left P a b e.1)

pub each_right : {A : Type 0} (P : A → Type 0) (a b : List A) → Each P (a ++ b) → Each P b
each_right P [] b e = e
each_right P (x ∷ a) b e = each_right P a b e.1

pub each_both : {A : Type 0} (P : A → Type 0) (a b : List A) → Each P a → Each P b → Each P (a ++ b)
each_both P [] b e f = f
each_both P (x ∷ a) b e f = (e.0, each_both P a b e.1 f)

each_from : {A B : Type 0} (p : A → Bool) (f : A → B) (P : B → Type 0) (l : List A) → ((x : A) → p x ≡ true → P (f x)) → list_all p l ≡ true → Each P (map f l)
each_from p f P [] h e = tt
each_from p f P (x ∷ l) h e = (let q = and_parts (p x) (list_all p l) e in (h x q.0, each_from p f P l h q.1))

-- Homes.

length-filter : (p : ℕ → Bool) (xs : List ℕ) → length (filter p xs) ≤ length xs
length-filter p [] = omega arith
length-filter p (x ∷ xs) = by (p x) (length-filter p xs)
  where
    by : (b : Bool) → length (filter p xs) ≤ length xs → length (cond b (x ∷ filter p xs) (filter p xs)) ≤ length (x ∷ xs)
    by true h = omega (arith, h)
    by false h = omega (arith, h)

length-slots : (l : List Stand) → length (slots_of l) ≤ length l
length-slots [] = omega arith
length-slots (at ∷ l) = by (slot_here at.role) (length-slots l)
  where
    by : (o : Option ℕ) → length (slots_of l) ≤ length l → length (cons_option o (slots_of l)) ≤ length (at ∷ l)
    by None h = omega (arith, h)
    by (Some s) h = omega (arith, h)

home_small : (all : List Stand) (at : Stand) (form : Form) → home_fine all at form ≡ true → length all ≤ 65536 → home_size form ≤ 65536
home_small all at (num leaf) h l = omega arith
home_small all at (octets sizing) h l = omega arith
home_small all at (bits sizing) h l = omega arith
home_small all at (text leaf) h l = omega arith
home_small all at (list sizing g) h l = omega arith
home_small all at (choice cases rule) h l = omega arith
home_small all at (contained sizing g) h l = omega arith
home_small all at (seq fields home) h l =
    let f = and_parts (same_numbers home (filter (λ s. is_home all s at) (slots_of all))) (list_all (holds (near fields)) home) h in
    let e = ap length (same_name-is home (filter (λ s. is_home all s at) (slots_of all)) f.0) in
    let a = length-filter (λ s. is_home all s at) (slots_of all) in
    let b = length-slots all in
    omega (arith, e, a, b)

-- Counts of open slots and of alternatives.

abbrev Small : Facts → Type 0
Small f = home_size f.form ≤ 65536

record Roomy (f : Facts) : Type 0 where
  home : f.at_home ≤ 65536 * (length f.path + 1)
  few : few_in f.form

some_facts : (tag : Tag) (path : List ℕ) (around : ℕ) (g : Grammar) → 1 ≤ length (facts tag path around g)
some_facts tag path around (node align form) = omega arith

each_case : (cases : Alternatives) (path : List ℕ) (around k : ℕ) → length (conditions_of cases) ≤ length (alternative_facts path around k cases)
each_case no_alternatives path around k = omega arith
each_case (alternative name g tests more) path around k =
    let tag : Tag = record { tests = tests; component = false; slot = None } in
    let a = some_facts tag (path ++ k ∷ []) around g in
    let b = each_case more path around (suc k) in
    let n = length-append (facts tag (path ++ k ∷ []) around g) (alternative_facts path around (suc k) more) in
    omega (arith, a, b, n)

few_here : (form : Form) (path : List ℕ) (around : ℕ) → length (form_facts path around form) ≤ 65536 → few_in form
few_here (num leaf) path around l = tt
few_here (octets sizing) path around l = tt
few_here (bits sizing) path around l = tt
few_here (text leaf) path around l = tt
few_here (seq _ home) path around l = tt
few_here (list sizing g) path around l = tt
few_here (contained sizing g) path around l = tt
few_here (choice cases rule) path around l = (let e = each_case cases path around 0 in omega (arith, e, l))

longer : (path : List ℕ) (k around : ℕ) → around ≤ 65536 * (length path + 1) → around ≤ 65536 * length (path ++ k ∷ [])
longer path k around h = (let n = length-append path (k ∷ []) in omega (arith, n, h))

mutual
  roomy : (g : Grammar) (tag : Tag) (path : List ℕ) (around : ℕ) → around ≤ 65536 * length path → length (facts tag path around g) ≤ 65536 → Each Small (facts tag path around g) → Each Roomy (facts tag path around g)
  roomy (node align form) tag path around a l s = (
    record { home = (let h = s.0 in omega (arith, h)); few = few_here form path (home_size form + around) (omega (arith, l)) },
    form_roomy form path (home_size form + around) (let h = s.0 in omega (arith, h)) (omega (arith, l)) s.1,
  )

  form_roomy : (form : Form) (path : List ℕ) (around : ℕ) → around ≤ 65536 * (length path + 1) → length (form_facts path around form) ≤ 65536 → Each Small (form_facts path around form) → Each Roomy (form_facts path around form)
  form_roomy (num leaf) path around a l s = tt
  form_roomy (octets sizing) path around a l s = tt
  form_roomy (bits sizing) path around a l s = tt
  form_roomy (text leaf) path around a l s = tt
  form_roomy (seq fields home) path around a l s = fields_roomy fields path around 0 a l s
  form_roomy (list sizing g) path around a l s = roomy g plain (path ++ 0 ∷ []) around (longer path 0 around a) l s
  form_roomy (choice cases rule) path around a l s = cases_roomy cases path around 0 a l s
  form_roomy (contained sizing g) path around a l s = roomy g plain (path ++ 0 ∷ []) around (longer path 0 around a) l s

  fields_roomy : (fs : Fields) (path : List ℕ) (around k : ℕ) → around ≤ 65536 * (length path + 1) → length (field_facts path around k fs) ≤ 65536 → Each Small (field_facts path around k fs) → Each Roomy (field_facts path around k fs)
  fields_roomy no_fields path around k a l s = tt
  fields_roomy (component name g presence default own fs) path around k a l s =
      let tag : Tag = record { tests = presence_tests presence; component = true; slot = own } in
      let x = facts tag (path ++ k ∷ []) around g in
      let y = field_facts path around (suc k) fs in
      let n = length-append x y in
      each_both Roomy x y (roomy g tag (path ++ k ∷ []) around (longer path k around a) (omega (arith, n, l)) (each_left Small x y s)) (fields_roomy fs path around (suc k) a (omega (arith, n, l)) (each_right Small x y s))
  fields_roomy (inserted name g slot fs) path around k a l s =
      let tag : Tag = record { tests = []; component = false; slot = slot } in
      let x = facts tag (path ++ k ∷ []) around g in
      let y = field_facts path around (suc k) fs in
      let n = length-append x y in
      each_both Roomy x y (roomy g tag (path ++ k ∷ []) around (longer path k around a) (omega (arith, n, l)) (each_left Small x y s)) (fields_roomy fs path around (suc k) a (omega (arith, n, l)) (each_right Small x y s))

  cases_roomy : (cases : Alternatives) (path : List ℕ) (around k : ℕ) → around ≤ 65536 * (length path + 1) → length (alternative_facts path around k cases) ≤ 65536 → Each Small (alternative_facts path around k cases) → Each Roomy (alternative_facts path around k cases)
  cases_roomy no_alternatives path around k a l s = tt
  cases_roomy (alternative name g tests more) path around k a l s =
      let tag : Tag = record { tests = tests; component = false; slot = None } in
      let x = facts tag (path ++ k ∷ []) around g in
      let y = alternative_facts path around (suc k) more in
      let n = length-append x y in
      each_both Roomy x y (roomy g tag (path ++ k ∷ []) around (longer path k around a) (omega (arith, n, l)) (each_left Small x y s)) (cases_roomy more path around (suc k) a (omega (arith, n, l)) (each_right Small x y s))

-- The whole tree.

record Kept (f : Facts) : Type 0 where
  depth : nat_le (length f.path) 64 ≡ true
  small : home_size f.form ≤ 65536
  fine : form_fine f.form ≡ true

module _ (root : Grammar) (tree : IsTree root) where
  few_nodes : length (nodes_of root) ≤ 65536
  few_nodes =
      let all = nodes_of root in
      le (length all) (and_parts (nat_le (length all) 65536) (same_numbers (slots_of all) (range_with_len 0 (length (slots_of all))) && list_all (λ at. all_true (stand_rules all at)) all) tree).0
    where
      le : (n : ℕ) → nat_le n 65536 ≡ true → n ≤ 65536
      le n h = grind (arith, nat_tests)

  kept : Each Kept (lines_of root)
  kept = each_from (λ at. all_true (stand_rules (nodes_of root) at)) seen Kept (nodes_of root) (λ at h.
      let f = stand_fine (nodes_of root) at h in record { depth = f.depth; small = home_small (nodes_of root) at at.form f.home few_nodes; fine = f.form }) (tree_rules root tree)

  few_lines : length (lines_of root) ≤ 65536
  few_lines = (let n = length-map seen (nodes_of root) in let m = few_nodes in omega (arith, n, m))

  weaker : {A : Type 0} (P Q : A → Type 0) → ((x : A) → P x → Q x) → (l : List A) → Each P l → Each Q l
  weaker P Q h [] e = tt
  weaker P Q h (x ∷ l) e = (h x e.0, weaker P Q h l e.1)

  roomy_lines : Each Roomy (lines_of root)
  roomy_lines =
      subst (Each Roomy) (sym (lines_are root)) (roomy root plain [] 0 (omega arith) (subst (λ (l : List Facts). length l ≤ 65536) (lines_are root) few_lines) (subst (Each Small) (lines_are root) (weaker Kept Small (λ x k. k.small) (lines_of root) kept)))

  each_fits : (l : List Facts) → Each Kept l → Each Roomy l → list_all fits l ≡ true
  each_fits [] k r = refl
  each_fits (f ∷ l) k r = both (nat_le (length f.path) 64) (nat_lt f.at_home (2 ^ 32)) (list_all fits l) (k.0).depth (at_most (length f.path) f.at_home (k.0).depth (r.0).home) (each_fits l k.1 r.1)
    where
      at_most : (n m : ℕ) → nat_le n 64 ≡ true → m ≤ 65536 * (n + 1) → nat_lt m (2 ^ 32) ≡ true
      at_most n m h l' = (let e : n ≤ 64 = le n h in let k' : m < 2 ^ 32 = omega (arith, e, l') in lt m k')
        where
          le : (n : ℕ) → nat_le n 64 ≡ true → n ≤ 64
          le n h = grind (arith, nat_tests)

          lt : (m : ℕ) → m < 2 ^ 32 → nat_lt m (2 ^ 32) ≡ true
          lt m h = grind (arith, nat_tests)

      both : (a b c : Bool) → a ≡ true → b ≡ true → c ≡ true → ((a && b) && c) ≡ true
      both a b c h g e = rw (h, g, e) refl

  pub lines_fit : Fit (lines_of root)
  lines_fit = record { each = each_fits (lines_of root) kept roomy_lines; few = few_lines }

  few_each : (l : List Facts) → Each Roomy l → FewCases l
  few_each [] r = tt
  few_each (f ∷ l) r = ((r.0).few, few_each l r.1)

  pub few_cases : FewCases (lines_of root)
  few_cases = few_each (lines_of root) roomy_lines

  leaf_fine : (k : ℕ) (f : Facts) (l : List Facts) → form_fine f.form ≡ true → list_all (λ d. num_fine d.leaf) (dets (suc k) l) ≡ true → list_all (λ d. num_fine d.leaf) (cons_option (det_here k f) (dets (suc k) l)) ≡ true
  leaf_fine k f l h e = by f.tag.slot f.form h
    where
      by : (o : Option ℕ) (form : Form) → form_fine form ≡ true → list_all (λ d. num_fine d.leaf) (cons_option (det_with k f.path o form) (dets (suc k) l)) ≡ true
      by None form g = e
      by (Some s) (num leaf) g = rw (g, e) refl
      by (Some s) (octets sizing) g = e
      by (Some s) (bits sizing) g = e
      by (Some s) (text leaf) g = e
      by (Some s) (seq _ home) g = e
      by (Some s) (list sizing g') g = e
      by (Some s) (choice cases rule) g = e
      by (Some s) (contained sizing g') g = e

  leaves_each : (k : ℕ) (l : List Facts) → Each Kept l → list_all (λ d. num_fine d.leaf) (dets k l) ≡ true
  leaves_each k [] e = refl
  leaves_each k (f ∷ l) e = leaf_fine k f l (e.0).fine (leaves_each (suc k) l e.1)

  pub leaves_fine : list_all (λ d. num_fine d.leaf) (dets 0 (lines_of root)) ≡ true
  leaves_fine = leaves_each 0 (lines_of root) kept
