-- Alternatives whose conditions can hold together.
use Rattle.std.proofs.Common.{◌≡◌, ◌⊎◌, inl, inr, ℕ, ℤ, ◌<◌, Bool, true, false, List, [], ◌∷◌, ◌++◌, length, map, Option, Some, None, refl, sym, ap, ◌∙◌, subst, arith, nat_eq, ◌&&◌, ◌||◌}
use Rattle.std.specs.Prelude.{option_map, slice_get, unwrap_or, if◌then◌else◌}
use Rattle.std.specs.List.{AllByRecursion, list_all}
use Rattle.acn_num.specs.Ranges.{In, has}
use Rattle.acn_grammar.specs.Check.{CheckFault, overlap, Evidence, Before, NodeAt, Overlaps, test_slot, number_of_fault}
use Rattle.acn_grammar.specs.Env.{Env, at_slot}
use Rattle.acn_grammar.specs.Grammar.{Grammar, Form, Alternatives, num, octets, bits, text, seq, list, choice, contained}
use Rattle.acn_grammar.specs.Slots.{domain_of}
use Rattle.acn_grammar.specs.Tree.{IsTree, holds}
use Rattle.acn_grammar.specs.Walk.{Stand, conditions_of}
use Rattle.acn_grammar.specs.declared.node.ChoiceRule.{ChoiceRule}
use Rattle.acn_grammar.specs.declared.node.ChoiceRule.TheVariants.{Index, Tests, Item}
use Rattle.acn_grammar.specs.declared.node.NumLeaf.{NumLeaf}
use Rattle.acn_grammar.specs.declared.node.Test.{Test}
use Rattle.acn_check.specs.First.{Det, dets, given, only_if, gathered, domain_in, permits, common, has_some, both_hold, overlapping, overlap_in, overlap_at}
use Rattle.acn_check.specs.Order.{lines_of}
use Rattle.acn_check.proofs.Assembly.{tail, NodeLaw, FirstHere}
use Rattle.acn_check.proofs.DetLaw.{leaf_entry}
use Rattle.acn_check.proofs.Gathered.{gathering, gather_sub, Sub, strictly}
use Rattle.acn_check.proofs.KindLaws.{same_node}
use Rattle.acn_check.proofs.KindPlaces.{choice_is, is_choice}
use Rattle.acn_check.proofs.KindUses.{only_true}
use Rattle.acn_check.proofs.Numbers.{only_overlap}
use Rattle.acn_check.proofs.PairsOf.{Case, FoundPair, pairs_some, pairs_none}
use Rattle.std.proofs.lemmas.Bool.{ltb-true, lt-ltb, and_from, and_parts, eqb-true}
use Rattle.acn_grammar.proofs.SlotLists.{contains_holds, holds_contains}

domain_is : (o : Option Det) → unwrap_or (option_map (λ (leaf : NumLeaf). leaf.set) (option_map (λ d. d.leaf) o)) [] ≡ domain_in o
domain_is None = refl
domain_is (Some d) = refl

mapped_overlap : (path : List ℕ) (i j : ℕ) (o : Option Env) (f : CheckFault) → option_map (overlap path i j) o ≡ Some f → (vs : Env) × (o ≡ Some vs) × (overlap path i j vs ≡ f)
mapped_overlap path i j None f e = cc
mapped_overlap path i j (Some vs) f e = (vs, refl, cc)

some_given : {A B : Type 0} (o : Option A) (f : A → Option B) (x : B) → given o f ≡ Some x → (y : A) × (o ≡ Some y) × (f y ≡ Some x)
some_given None f x e = cc
some_given (Some y) f x e = (y, refl, e)

-- a CHOICE by conditions
record ByTests (form : Form) : Type 0 where
  cases : Alternatives
  form_is : form ≡ choice cases Tests

by_tests_of : (ds : List Det) (path : List ℕ) (form : Form) (f : CheckFault) → overlap_in ds path form ≡ Some f → ByTests form
by_tests_of ds path (choice cases Tests) f e = record { cases = cases; form_is = refl }
by_tests_of ds path (choice cases (Item s)) f e = cc
by_tests_of ds path (choice cases (Index w)) f e = cc
by_tests_of ds path (num leaf) f e = cc
by_tests_of ds path (octets sizing) f e = cc
by_tests_of ds path (bits sizing) f e = cc
by_tests_of ds path (text leaf) f e = cc
by_tests_of ds path (seq _ home) f e = cc
by_tests_of ds path (list sizing g) f e = cc
by_tests_of ds path (contained sizing g) f e = cc

same_cases : (cases cases' : Alternatives) (r r' : ChoiceRule) → choice cases r ≡ choice cases' r' → cases ≡ cases'
same_cases cases cases' r r' e = cc

module _ (root : Grammar) (tree : IsTree root) where
  abbrev table : List Det
  table = dets 0 (lines_of root)

  domain_are : (s : ℕ) → domain_of root s ≡ domain_in (slice_get table s)
  domain_are s = ap (λ o. unwrap_or (option_map (λ (leaf : NumLeaf). leaf.set) o) []) (leaf_entry root tree s) ∙ domain_is (slice_get table s)

  -- the numbers are permitted exactly where the table permits them

  all_permitted : (es : Env) → list_all (permits table) es ≡ true → AllByRecursion (λ e. In (domain_of root e.0) e.1) es
  all_permitted [] h = tt
  all_permitted (e ∷ es) h =
      let p = and_parts (permits table e) (list_all (permits table) es) h in
      (ap (λ d. has d e.1) (domain_are e.0) ∙ p.0, all_permitted es p.1)

  permitted_at : (env : Env) (s : ℕ) (x : ℤ) → AllByRecursion (λ e. In (domain_of root e.0) e.1) env → at_slot env s ≡ Some x → In (domain_of root s) x
  permitted_at [] s x p e = cc
  permitted_at (e' ∷ env) s x p e = by (nat_eq e'.0 s) (eqb-true e'.0 s) e (λ q. permitted_at env s x p.1 q)
    where
      by : (t : Bool) → (t ≡ true → e'.0 ≡ s) → (if t then Some e'.1 else at_slot env s) ≡ Some x → (at_slot env s ≡ Some x → In (domain_of root s) x) → In (domain_of root s) x
      by true f e rest = let same = f refl in let value : e'.1 ≡ x = cc in rw (← same, ← value) p.0
      by false f e rest = rest e

  sub_permitted : (env es : Env) → AllByRecursion (λ e. In (domain_of root e.0) e.1) env → Sub env es → list_all (permits table) es ≡ true
  sub_permitted env [] p u = refl
  sub_permitted env (e ∷ es) p u = and_from (permits table e) (list_all (permits table) es) (ap (λ d. has d e.1) (sym (domain_are e.0)) ∙ permitted_at env e.0 e.1 p u.0) (sub_permitted env es p u.1)

  -- From the numbers of two alternatives to the evidence.

  record Both (ts us : List Test) (vs : Env) : Type 0 where
    one : 0 < length ts
    other : 0 < length us
    numbers : gathered (ts ++ us) [] ≡ Some vs
    permitted : list_all (permits table) vs ≡ true

  both_are_held : (ts us : List Test) (vs : Env) → both_hold table ts us ≡ Some vs → Both ts us vs
  both_are_held ts us vs e = by (has_some ts && has_some us) refl e
    where
      by : (b : Bool) → (has_some ts && has_some us) ≡ b → (if b then common table (ts ++ us) else None) ≡ Some vs → Both ts us vs
      by false h g = cc
      by true h g =
          let s = and_parts (has_some ts) (has_some us) h in
          let c = some_given (gathered (ts ++ us) []) (λ es. only_if (list_all (permits table) es) es) vs g in
          let o = only_true (list_all (permits table) c.0) c.0 vs c.2 in
          record {
            one = ltb-true 0 (length ts) s.0;
            other = ltb-true 0 (length us) s.1;
            numbers = c.1 ∙ ap Some o.1;
            permitted = ap (list_all (permits table)) (sym o.1) ∙ o.0;
          }

  or_nothing : (b : Bool) → (b || false) ≡ b
  or_nothing true = refl
  or_nothing false = refl

  overlap_of : (cases : Alternatives) (i j : ℕ) (c d : Case) (vs : Env) → i < j → slice_get (conditions_of cases) i ≡ Some c → slice_get (conditions_of cases) j ≡ Some d → Both c.1 d.1 vs → Overlaps root cases i j vs
  overlap_of cases i j c d vs l e f b =
      let ts = c.1 ++ d.1 in
      let g = gathering ts [] vs tt b.numbers in
      let same : (s : ℕ) → holds (map (λ x. x.0) vs) s ≡ holds (map test_slot ts) s = λ s. g.slots s ∙ or_nothing (holds (map test_slot ts) s) in
      record {
        in_order = l;
        one = c;
        other = d;
        is_one = e;
        is_other = f;
        some_one = b.one;
        some_other = b.other;
        slots = λ s q. holds_contains (map test_slot ts) s (sym (same s) ∙ contains_holds (map (λ x. x.0) vs) s q);
        all_slots = λ s q. holds_contains (map (λ x. x.0) vs) s (same s ∙ contains_holds (map test_slot ts) s q);
        ascending = strictly vs g.rises;
        permitted = all_permitted vs b.permitted;
        holds = g.all;
      }

  -- From the evidence to the numbers.

  is_held : (cases : Alternatives) (i j : ℕ) (values : Env) (v : Overlaps root cases i j values) → both_hold table v.one.1 v.other.1 ≡ None → ⊥
  is_held cases i j values v none =
      let ts = v.one.1 ++ v.other.1 in
      let g = gather_sub values ts [] v.holds tt in
      let p = sub_permitted values g.0 v.permitted g.2 in
      let s = and_from (has_some v.one.1) (has_some v.other.1) (lt-ltb 0 (length v.one.1) v.some_one) (lt-ltb 0 (length v.other.1) v.some_other) in
      let is : both_hold table v.one.1 v.other.1 ≡ Some g.0 =
      ap (λ b. if b then common table (v.one.1 ++ v.other.1) else None) s ∙ (ap (λ o. given o (λ es. only_if (list_all (permits table) es) es)) g.1 ∙ ap (λ b. only_if b g.0) p) in
      let clash : Some g.0 ≡ None = sym is ∙ none in
      cc

  none_mapped : (path : List ℕ) (i j : ℕ) (o : Option Env) → option_map (overlap path i j) o ≡ None → o ≡ None
  none_mapped path i j None e = refl
  none_mapped path i j (Some vs) e = cc

  -- an overlap that has evidence is found
  missing : (k u i j : ℕ) (values : Env) (at : Stand) (cases : Alternatives) (path : List ℕ) → NodeAt root k at → at.form ≡ choice cases Tests → Evidence root (overlap path i j values) k u
      → ((c d : Case) → slice_get (conditions_of cases) i ≡ Some c → slice_get (conditions_of cases) j ≡ Some d → i < j → overlapping table at.path i c.1 j d.1 ≡ None) → ⊥
  missing k u i j values at cases path is form e all =
      let at' = e.choice_is.at in
      let v = e.overlaps in
      let same = same_node root k at' at e.choice_is.is_at is in
      let both : e.cases ≡ cases = same_cases e.cases cases Tests Tests (sym (choice_is root at'.form e.cases Tests e.choice_is.form_is) ∙ (ap (λ (x : Stand). x.form) same ∙ form)) in
      let one = ap (λ cs. slice_get (conditions_of cs) i) (sym both) ∙ v.is_one in
      let other = ap (λ cs. slice_get (conditions_of cs) j) (sym both) ∙ v.is_other in
      is_held e.cases i j values v (none_mapped at.path i j (both_hold table v.one.1 v.other.1) (all v.one v.other one other v.in_order))

  lower : (a b i j : ℕ) → Before root (0 ∷ a ∷ b ∷ []) (0 ∷ i ∷ j ∷ []) → (a < i) ⊎ ((a ≡ i) × (b < j))
  lower a b i j (inl h) = absurd (omega arith)
  lower a b i j (inr (e, inl h)) = inl h
  lower a b i j (inr (e, inr (e', inl h))) = inr (e', h)
  lower a b i j (inr (e, inr (e', inr h))) = absurd h.1

  found_pair : (k : ℕ) (at : Stand) (f : CheckFault) (b : ByTests at.form) → NodeAt root k at → FoundPair table at.path 0 (conditions_of b.cases) f → FirstHere root 4 f k
  found_pair k at f b is r =
      let m : r.m ≡ r.one = (let q = r.m_is in omega (arith, q)) in
      let n : r.n ≡ r.other = (let q = r.n_is in omega (arith, q)) in
      let g : overlapping table at.path r.one r.c.1 r.other r.d.1 ≡ Some f = ap (λ x. overlapping table at.path x r.c.1 r.other r.d.1) (sym m) ∙ (ap (λ x. overlapping table at.path r.m r.c.1 x r.d.1) (sym n) ∙ r.gives) in
      let o = mapped_overlap at.path r.one r.other (both_hold table r.c.1 r.d.1) f g in
      record {
        use_here = 0;
        kind = ap number_of_fault (sym o.2);
        holds = subst (λ x. Evidence root x k 0) o.2 (record {
          cases = b.cases;
          choice_is = record { at = at; is_at = is; path_is = refl; form_is = is_choice root at.form b.cases Tests b.form_is };
          overlaps = overlap_of b.cases r.one r.other r.c r.d o.0 r.in_order r.is_one r.is_other (both_are_held r.c.1 r.d.1 o.0 o.1);
        });
        first = λ h u is' e before.
            let w = only_overlap h is' in
            let less = lower w.1 w.2 r.one r.other (subst (λ x. Before root (tail x u) (0 ∷ r.one ∷ r.other ∷ [])) w.4 (subst (λ x. Before root (tail h u) (tail x 0)) (sym o.2) before)) in
            missing k u w.1 w.2 w.3 at b.cases w.0 is b.form_is (subst (λ x. Evidence root x k u) w.4 e) (λ c d p q l. r.before w.1 w.2 w.1 w.2 c d (omega arith) (omega arith) p q l less);
      }

  pub pair_law : NodeLaw root 4 (overlap_at table)
  pair_law = record {
    stands = λ f k u is e. (let w = only_overlap f is in let e' : Evidence root (overlap w.0 w.1 w.2 w.3) k u = subst (λ x. Evidence root x k u) w.4 e in (e'.choice_is.at, e'.choice_is.is_at));
    found = λ k at f is e.
        let b = by_tests_of table at.path at.form f e in
        found_pair k at f b is (pairs_some table at.path 0 (conditions_of b.cases) f (ap (overlap_in table at.path) (sym b.form_is) ∙ e));
    none = λ k at is e f u is' evidence.
        let w = only_overlap f is' in
        let e' : Evidence root (overlap w.0 w.1 w.2 w.3) k u = subst (λ x. Evidence root x k u) w.4 evidence in
        let at' = e'.choice_is.at in
        let same = same_node root k at' at e'.choice_is.is_at is in
        let form : at.form ≡ choice e'.cases Tests = sym (ap (λ (x : Stand). x.form) same) ∙ choice_is root at'.form e'.cases Tests e'.choice_is.form_is in
        missing k u w.1 w.2 w.3 at e'.cases w.0 is form e' (λ c d p q l. pairs_none table at.path 0 (conditions_of e'.cases) (ap (overlap_in table at.path) (sym form) ∙ e) w.1 w.2 w.1 w.2 c d (omega arith) (omega arith) p q l);
  }
