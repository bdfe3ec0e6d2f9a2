-- Alternatives without an item.
use Rattle.std.proofs.Common.{◌≡◌, inl, inr, ℕ, ℤ, zero, suc, ◌<◌, Bool, true, false, not, List, [], ◌∷◌, length, map, get_or, Option, Some, None, refl, sym, ap, ◌∙◌, subst, arith}
use Rattle.std.specs.Prelude.{option_map, slice_get, Contains, unwrap_or}
use Rattle.std.specs.List.{list_any}
use Rattle.acn_grammar.specs.Asks.{same_name}
use Rattle.acn_grammar.specs.Check.{CheckFault, no_item, Evidence, Before, NodeAt, number_of_fault}
use Rattle.acn_grammar.specs.Grammar.{Grammar, Form, Alternatives, num, octets, bits, text, seq, list, choice, contained}
use Rattle.acn_grammar.specs.Slots.{items_of}
use Rattle.acn_grammar.specs.Tree.{IsTree}
use Rattle.acn_grammar.specs.Walk.{Stand, conditions_of}
use Rattle.acn_grammar.specs.declared.node.ChoiceRule.TheVariants.{Index, Tests, Item}
use Rattle.acn_grammar.specs.declared.node.NumLeaf.{NumLeaf}
use Rattle.acn_grammar.specs.declared.node.Test.{Test}
use Rattle.acn_well_formed.proofs.Listed.{same_refl}
use Rattle.std.proofs.lemmas.Bool.{or_left, or_right}
use Rattle.acn_check.specs.First.{Det, dets, only_if, items_in, is_item, without_item, no_item_at}
use Rattle.acn_check.specs.Order.{lines_of}
use Rattle.acn_check.proofs.Assembly.{tail, NodeLaw, FirstHere}
use Rattle.acn_check.proofs.DetLaw.{leaf_entry}
use Rattle.acn_check.proofs.FirstOf.{Found, first_some, first_none}
use Rattle.acn_check.proofs.KindLaws.{same_node}
use Rattle.acn_check.proofs.KindPlaces.{choice_is, is_choice}
use Rattle.acn_check.proofs.KindUses.{only_true, only_none}
use Rattle.acn_check.proofs.Numbers.{only_no_item}
use Rattle.acn_grammar.proofs.Characters.{same_name-is}
use Rattle.acn_grammar.proofs.WholeTests.{either}

abbrev Items : Type 0
Items = List (List ℕ × ℤ)

item_contains : (items : Items) (name : List ℕ) → is_item items name ≡ true → Contains (map (λ e. e.0) items) name
item_contains [] name h = cc
item_contains (e ∷ items) name h = either {F = Contains (map (λ x. x.0) (e ∷ items)) name} (same_name name e.0) (list_any (λ item. same_name name item.0) items) h
    (λ q. (zero, omega arith, sym (same_name-is name e.0 q)))
    (λ q. let r = item_contains items name q in (suc r.0, (let l = r.1 in omega (arith, l)), r.2))

got_item : (items : Items) (name : List ℕ) (k : ℕ) → k < length (map (λ e. e.0) items) → get_or (map (λ e. e.0) items) k name ≡ name → is_item items name ≡ true
got_item [] name k l e = absurd (omega arith)
got_item (x ∷ items) name zero l e = or_left (same_name name x.0) (list_any (λ item. same_name name item.0) items) (ap (same_name name) e ∙ same_refl name)
got_item (x ∷ items) name (suc k) l e = or_right (same_name name x.0) (list_any (λ item. same_name name item.0) items) (got_item items name k (omega arith) e)

contains_item : (items : Items) (name : List ℕ) → Contains (map (λ e. e.0) items) name → is_item items name ≡ true
contains_item items name c = got_item items name c.0 c.1 c.2

items_is : (o : Option Det) → unwrap_or (option_map (λ (leaf : NumLeaf). leaf.items.items) (option_map (λ d. d.leaf) o)) [] ≡ items_in o
items_is None = refl
items_is (Some d) = refl

not_false : (b : Bool) → (b ≡ true → ⊥) → not b ≡ true
not_false true h = absurd (h refl)
not_false false h = refl

not_both : (b : Bool) → not b ≡ true → b ≡ true → ⊥
not_both true h g = cc
not_both false h g = cc

-- a CHOICE by the item of a slot
record ByItem (form : Form) : Type 0 where
  cases : Alternatives
  slot : ℕ
  form_is : form ≡ choice cases (Item slot)

by_item_of : (ds : List Det) (path : List ℕ) (form : Form) (f : CheckFault) → without_item ds path form ≡ Some f → ByItem form
by_item_of ds path (choice cases (Item s)) f e = record { cases = cases; slot = s; form_is = refl }
by_item_of ds path (choice cases Tests) f e = cc
by_item_of ds path (choice cases (Index w)) f e = cc
by_item_of ds path (num leaf) f e = cc
by_item_of ds path (octets sizing) f e = cc
by_item_of ds path (bits sizing) f e = cc
by_item_of ds path (text leaf) f e = cc
by_item_of ds path (seq _ home) f e = cc
by_item_of ds path (list sizing g) f e = cc
by_item_of ds path (contained sizing g) f e = cc

same_item : (cases cases' : Alternatives) (s s' : ℕ) → choice cases (Item s) ≡ choice cases' (Item s') → (cases ≡ cases') × (s ≡ s')
same_item cases cases' s s' e = (cc, cc)

module _ (root : Grammar) (tree : IsTree root) where
  abbrev table : List Det
  table = dets 0 (lines_of root)

  abbrev items_at : ℕ → Items
  items_at s = items_in (slice_get table s)

  items_are : (s : ℕ) → items_of root s ≡ items_at s
  items_are s = ap (λ o. unwrap_or (option_map (λ (leaf : NumLeaf). leaf.items.items) o) []) (leaf_entry root tree s) ∙ items_is (slice_get table s)

  abbrev one : List ℕ → ℕ → ℕ → (List ℕ × List Test) → Option CheckFault
  one path s i c = only_if (not (is_item (items_at s) c.0)) (no_item path i)

  -- an alternative without an item is found
  missing : (k u i : ℕ) (at : Stand) (cases : Alternatives) (s : ℕ) (path : List ℕ) → NodeAt root k at → at.form ≡ choice cases (Item s) → Evidence root (no_item path i) k u → ((c : List ℕ × List Test) → slice_get (conditions_of cases) i ≡ Some c → one at.path s i c ≡ None) → ⊥
  missing k u i at cases s path is form e all =
      let at' = e.choice_is.at in
      let same = same_node root k at' at e.choice_is.is_at is in
      let form' : at'.form ≡ choice e.cases (Item e.slot) = choice_is root at'.form e.cases (Item e.slot) e.choice_is.form_is in
      let both = same_item e.cases cases e.slot s (sym form' ∙ (ap (λ (x : Stand). x.form) same ∙ form)) in
      let here : slice_get (conditions_of cases) i ≡ Some (e.name, e.tests) = ap (λ cs. slice_get (conditions_of cs) i) (sym both.0) ∙ e.is_alternative in
      let items : items_of root e.slot ≡ items_at s = items_are e.slot ∙ ap items_at both.1 in
      let none = not_false (is_item (items_at s) e.name) (λ has. e.no_item (subst (λ (l : Items). Contains (map (λ x. x.0) l) e.name) (sym items) (item_contains (items_at s) e.name has))) in
      only_none (not (is_item (items_at s) e.name)) (no_item at.path i) none (all (e.name, e.tests) here)

  lower : (i j : ℕ) → Before root (0 ∷ i ∷ 0 ∷ []) (0 ∷ j ∷ 0 ∷ []) → i < j
  lower i j (inl h) = absurd (omega arith)
  lower i j (inr (e, inl h)) = h
  lower i j (inr (e, inr (e', inl h))) = absurd (omega arith)
  lower i j (inr (e, inr (e', inr h))) = absurd h.1

  found_item : (k : ℕ) (at : Stand) (f : CheckFault) (b : ByItem at.form) → NodeAt root k at → Found (one at.path b.slot) 0 (conditions_of b.cases) f → FirstHere root 7 f k
  found_item k at f b is r =
      let same : r.number ≡ r.place = (let c = r.counts in omega (arith, c)) in
      let o = only_true (not (is_item (items_at b.slot) r.item.0)) (no_item at.path r.number) f r.gives in
      let what : no_item at.path r.place ≡ f = ap (no_item at.path) (sym same) ∙ o.1 in
      record {
        use_here = 0;
        kind = ap number_of_fault (sym what);
        holds = subst (λ x. Evidence root x k 0) what (record {
          cases = b.cases;
          slot = b.slot;
          choice_is = record { at = at; is_at = is; path_is = refl; form_is = is_choice root at.form b.cases (Item b.slot) b.form_is };
          name = r.item.0;
          tests = r.item.1;
          is_alternative = r.is_item;
          no_item = λ c. not_both (is_item (items_at b.slot) r.item.0) o.0 (contains_item (items_at b.slot) r.item.0 (subst (λ (l : Items). Contains (map (λ x. x.0) l) r.item.0) (items_are b.slot) c));
        });
        first = λ g u is' e before.
            let g' = only_no_item g is' in
            let less = lower g'.1 r.place (subst (λ x. Before root (tail x u) (0 ∷ r.place ∷ 0 ∷ [])) g'.2 (subst (λ x. Before root (tail g u) (tail x 0)) (sym what) before)) in
            missing k u g'.1 at b.cases b.slot g'.0 is b.form_is (subst (λ x. Evidence root x k u) g'.2 e) (λ c h. r.before g'.1 g'.1 c (omega arith) less h);
      }

  pub item_law : NodeLaw root 7 (no_item_at table)
  item_law = record {
    stands = λ f k u is e. (let g = only_no_item f is in let e' : Evidence root (no_item g.0 g.1) k u = subst (λ x. Evidence root x k u) g.2 e in (e'.choice_is.at, e'.choice_is.is_at));
    found = λ k at f is e.
        let b = by_item_of table at.path at.form f e in
        found_item k at f b is (first_some (one at.path b.slot) 0 (conditions_of b.cases) f (ap (without_item table at.path) (sym b.form_is) ∙ e));
    none = λ k at is e f u is' evidence.
        let g = only_no_item f is' in
        let e' : Evidence root (no_item g.0 g.1) k u = subst (λ x. Evidence root x k u) g.2 evidence in
        let at' = e'.choice_is.at in
        let same = same_node root k at' at e'.choice_is.is_at is in
        let form : at.form ≡ choice e'.cases (Item e'.slot) = sym (ap (λ (x : Stand). x.form) same) ∙ choice_is root at'.form e'.cases (Item e'.slot) e'.choice_is.form_is in
        missing k u g.1 at e'.cases e'.slot g.0 is form e' (λ c h. first_none (one at.path e'.slot) 0 (conditions_of e'.cases) (ap (without_item table at.path) (sym form) ∙ e) g.1 g.1 c (omega arith) h);
  }
