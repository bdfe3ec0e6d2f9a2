-- Faults of nodes by themselves: several conditions on a component, mixed alternatives, too many open slots.
use Rattle.std.proofs.Common.{◌≡◌, ℕ, zero, suc, ◌<◌, true, not, ◌&&◌, ◌||◌, List, [], ◌∷◌, length, Some, None, refl, sym, ap, ◌∙◌, subst, arith, nat_lt}
use Rattle.std.specs.Prelude.{slice_get}
use Rattle.std.specs.List.{list_any}
use Rattle.std.proofs.lemmas.Bool.Decides.{nat_tests}
use Rattle.acn_grammar.specs.Check.{CheckFault, absent_unclear, mixed_choice, too_many_open, a_determinant, one_without, Evidence, IsMixedWith, HasMoreConditions, NodeAt, IsChoice, open_at, number_of_fault}
use Rattle.acn_grammar.specs.Grammar.{Grammar, Form, Alternatives, num, octets, bits, text, seq, list, choice, contained}
use Rattle.acn_grammar.specs.Tree.{has_tests}
use Rattle.acn_grammar.specs.Walk.{Stand, Role, root_node, a_component, an_inserted, an_alternative, an_element, a_content, presence_tests, conditions_of}
use Rattle.acn_grammar.specs.declared.node.ChoiceRule.{ChoiceRule}
use Rattle.acn_grammar.specs.declared.node.ChoiceRule.TheVariants.{Index, Tests, Item}
use Rattle.acn_grammar.specs.declared.node.Test.{Test}
use Rattle.acn_check.specs.Facts.{seen, is_component, tag_of}
use Rattle.acn_check.specs.First.{unclear, mixed_in, mixed_at, by_item, much_open}
use Rattle.acn_check.proofs.KindLaws.{PlainLaw}
use Rattle.acn_check.proofs.KindUses.{only_true, only_none}
use Rattle.acn_check.proofs.Numbers.{only_absent_unclear, only_mixed_choice, only_too_many_open, plain_tail}
use Rattle.std.proofs.lemmas.Bool.{ltb-true, lt-ltb, and_from, and_parts, or_left, or_right}
use Rattle.acn_grammar.proofs.WholeTests.{either}

-- Alternatives with conditions, and without.

abbrev Case : Type 0
Case = List ℕ × List Test

some_with : (cases : List Case) → list_any has_tests cases ≡ true → (i : ℕ) × (one : Case) × (slice_get cases i ≡ Some one) × (0 < length one.1)
some_with [] h = cc
some_with (c ∷ cases) h = either {F = (i : ℕ) × (one : Case) × (slice_get (c ∷ cases) i ≡ Some one) × (0 < length one.1)} (has_tests c) (list_any has_tests cases) h
    (λ q. (zero, c, refl, ltb-true 0 (length c.1) q))
    (λ q. let r = some_with cases q in (suc r.0, r.1, r.2, r.3))

with_some : (cases : List Case) (i : ℕ) (one : Case) → slice_get cases i ≡ Some one → 0 < length one.1 → list_any has_tests cases ≡ true
with_some [] i one e h = cc
with_some (c ∷ cases) zero one e h = (let same : c ≡ one = cc in or_left (has_tests c) (list_any has_tests cases) (lt-ltb 0 (length c.1) (subst (λ (x : Case). 0 < length x.1) (sym same) h)))
with_some (c ∷ cases) (suc i) one e h = or_right (has_tests c) (list_any has_tests cases) (with_some cases i one e h)

no_tests : (c : Case) → not (has_tests c) ≡ true → c.1 ≡ []
no_tests c h = by c.1 h
  where
    none_below : (n : ℕ) → not (nat_lt 0 (suc n)) ≡ true → ⊥
    none_below n h = absurd (grind (arith, nat_tests))

    by : (ts : List Test) → not (nat_lt 0 (length ts)) ≡ true → ts ≡ []
    by [] h = refl
    by (t ∷ ts) h = absurd (none_below (length ts) h)

some_without : (cases : List Case) → list_any (λ c. not (has_tests c)) cases ≡ true → (j : ℕ) × (other : Case) × (slice_get cases j ≡ Some other) × (other.1 ≡ [])
some_without [] h = cc
some_without (c ∷ cases) h = either {F = (j : ℕ) × (other : Case) × (slice_get (c ∷ cases) j ≡ Some other) × (other.1 ≡ [])} (not (has_tests c)) (list_any (λ c. not (has_tests c)) cases) h
    (λ q. (zero, c, refl, no_tests c q))
    (λ q. let r = some_without cases q in (suc r.0, r.1, r.2, r.3))

without_some : (cases : List Case) (j : ℕ) (other : Case) → slice_get cases j ≡ Some other → other.1 ≡ [] → list_any (λ c. not (has_tests c)) cases ≡ true
without_some [] j other e h = cc
without_some (c ∷ cases) zero other e h = (let same : c ≡ other = cc in or_left (not (has_tests c)) (list_any (λ x. not (has_tests x)) cases) (ap (λ (x : Case). not (has_tests x)) same ∙ ap (λ (ts : List Test). not (nat_lt 0 (length ts))) h))
without_some (c ∷ cases) (suc j) other e h = or_right (not (has_tests c)) (list_any (λ x. not (has_tests x)) cases) (without_some cases j other e h)

item_is : (rule : ChoiceRule) → by_item rule ≡ true → (s : ℕ) × (rule ≡ Item s)
item_is (Index w) h = cc
item_is Tests h = cc
item_is (Item s) h = (s, refl)

-- the alternatives and the rule of a CHOICE
pub record AChoice (form : Form) : Type 0 where
  pub cases : Alternatives
  pub rule : ChoiceRule
  pub form_is : form ≡ choice cases rule

pub choice_is : (root : Grammar) (form : Form) (cases : Alternatives) (rule : ChoiceRule) → IsChoice root form cases rule → form ≡ choice cases rule
choice_is root (choice cs r) cases rule h = ap (λ c. choice c r) h.0 ∙ ap (choice cases) h.1
choice_is root (num leaf) cases rule h = absurd h
choice_is root (octets sizing) cases rule h = absurd h
choice_is root (bits sizing) cases rule h = absurd h
choice_is root (text leaf) cases rule h = absurd h
choice_is root (seq _ home) cases rule h = absurd h
choice_is root (list sizing g) cases rule h = absurd h
choice_is root (contained sizing g) cases rule h = absurd h

pub is_choice : (root : Grammar) (form : Form) (cases : Alternatives) (rule : ChoiceRule) → form ≡ choice cases rule → IsChoice root form cases rule
is_choice root form cases rule e = subst (λ x. IsChoice root x cases rule) (sym e) (refl, refl)

mixed_choice_of : (path : List ℕ) (form : Form) (f : CheckFault) → mixed_in path form ≡ Some f → AChoice form
mixed_choice_of path (choice cases rule) f e = record { cases = cases; rule = rule; form_is = refl }
mixed_choice_of path (num leaf) f e = cc
mixed_choice_of path (octets sizing) f e = cc
mixed_choice_of path (bits sizing) f e = cc
mixed_choice_of path (text leaf) f e = cc
mixed_choice_of path (seq _ home) f e = cc
mixed_choice_of path (list sizing g) f e = cc
mixed_choice_of path (contained sizing g) f e = cc

true_more : (role : Role) → (is_component role && nat_lt 1 (length (tag_of role).tests)) ≡ true → HasMoreConditions role
true_more (a_component one) h = ltb-true 1 (length (presence_tests one.presence)) h
true_more root_node h = cc
true_more (an_inserted name slot) h = cc
true_more (an_alternative one) h = cc
true_more an_element h = cc
true_more a_content h = cc

more_true : (role : Role) → HasMoreConditions role → (is_component role && nat_lt 1 (length (tag_of role).tests)) ≡ true
more_true (a_component one) h = lt-ltb 1 (length (presence_tests one.presence)) h
more_true root_node h = absurd h
more_true (an_inserted name slot) h = absurd h
more_true (an_alternative one) h = absurd h
more_true an_element h = absurd h
more_true a_content h = absurd h

module _ (root : Grammar) where
  -- AbsentUnclear

  take_unclear : (k : ℕ) (at : Stand) (f : CheckFault) → NodeAt root k at → unclear k (seen at) ≡ Some f → (number_of_fault f ≡ 5) × Evidence root f k 0
  take_unclear k at f is e =
      let o = only_true (is_component at.role && nat_lt 1 (length (tag_of at.role).tests)) (absent_unclear at.path) f e in
      (ap number_of_fault (sym o.1), subst (λ x. Evidence root x k 0) o.1 (record { at = at; is_at = is; path_is = refl; more = true_more at.role o.0 }))

  give_unclear : (f : CheckFault) (k u : ℕ) → number_of_fault f ≡ 5 → Evidence root f k u → (at : Stand) × NodeAt root k at × (unclear k (seen at) ≡ None → ⊥)
  give_unclear f k u is e =
      let o = only_absent_unclear f is in
      let e' : Evidence root (absent_unclear o.0) k u = subst (λ x. Evidence root x k u) o.1 e in
      (e'.at, e'.is_at, λ none. only_none (is_component e'.at.role && nat_lt 1 (length (tag_of e'.at.role).tests)) (absent_unclear e'.at.path) (more_true e'.at.role e'.more) none)

  pub unclear_law : PlainLaw root 5 unclear
  unclear_law = record {
    plain = λ f u is. plain_tail f u (λ four. absurd (omega arith)) (λ seven. absurd (omega arith));
    take = take_unclear;
    give = give_unclear;
  }

  -- MixedChoice

  take_mixed : (k : ℕ) (at : Stand) (f : CheckFault) → NodeAt root k at → mixed_at k (seen at) ≡ Some f → (number_of_fault f ≡ 8) × Evidence root f k 0
  take_mixed k at f is e =
      let c = mixed_choice_of at.path at.form f e in
      let cases = conditions_of c.cases in
      let o = only_true (list_any has_tests cases && (by_item c.rule || list_any (λ x. not (has_tests x)) cases)) (mixed_choice at.path) f (ap (mixed_in at.path) (sym c.form_is) ∙ e) in
      let t = and_parts (list_any has_tests cases) (by_item c.rule || list_any (λ x. not (has_tests x)) cases) o.0 in
      let one = some_with cases t.0 in
      let beside = either {F = IsMixedWith root c.cases c.rule} (by_item c.rule) (list_any (λ x. not (has_tests x)) cases) t.1 (λ q. let i = item_is c.rule q in a_determinant i.0 i.1) (λ q. let w = some_without cases q in one_without w.0 w.1 w.2 w.3) in (
        ap number_of_fault (sym o.1),
        subst (λ x. Evidence root x k 0) o.1 (record {
          cases = c.cases;
          rule = c.rule;
          choice_is = record { at = at; is_at = is; path_is = refl; form_is = is_choice root at.form c.cases c.rule c.form_is };
          first = one.0;
          one = one.1;
          is_one = one.2;
          some_one = one.3;
          beside = beside;
        }),
      )

  give_mixed : (f : CheckFault) (k u : ℕ) → number_of_fault f ≡ 8 → Evidence root f k u → (at : Stand) × NodeAt root k at × (mixed_at k (seen at) ≡ None → ⊥)
  give_mixed f k u is e =
      let o = only_mixed_choice f is in
      let e' : Evidence root (mixed_choice o.0) k u = subst (λ x. Evidence root x k u) o.1 e in
      let at = e'.choice_is.at in
      let form = choice_is root at.form e'.cases e'.rule e'.choice_is.form_is in
      let cases = conditions_of e'.cases in
      let holds = and_from (list_any has_tests cases) (by_item e'.rule || list_any (λ x. not (has_tests x)) cases) (with_some cases e'.first e'.one e'.is_one e'.some_one) (why e'.rule e'.cases e'.beside) in
      (at, e'.choice_is.is_at, λ none. only_none (list_any has_tests cases && (by_item e'.rule || list_any (λ x. not (has_tests x)) cases)) (mixed_choice at.path) holds (sym (ap (mixed_in at.path) form) ∙ none))
    where
      why : (rule : ChoiceRule) (cases : Alternatives) → IsMixedWith root cases rule → (by_item rule || list_any (λ x. not (has_tests x)) (conditions_of cases)) ≡ true
      why rule cases (a_determinant s is_item) = or_left (by_item rule) (list_any (λ x. not (has_tests x)) (conditions_of cases)) (ap by_item is_item)
      why rule cases (one_without j other is_other none) = or_right (by_item rule) (list_any (λ x. not (has_tests x)) (conditions_of cases)) (without_some (conditions_of cases) j other is_other none)

  pub mixed_law : PlainLaw root 8 mixed_at
  mixed_law = record {
    plain = λ f u is. plain_tail f u (λ four. absurd (omega arith)) (λ seven. absurd (omega arith));
    take = take_mixed;
    give = give_mixed;
  }

  -- TooManyOpen

  take_open : (k : ℕ) (at : Stand) (f : CheckFault) → NodeAt root k at → much_open k (seen at) ≡ Some f → (number_of_fault f ≡ 10) × Evidence root f k 0
  take_open k at f is e =
      let o = only_true (nat_lt 256 (open_at at)) (too_many_open at.path (open_at at)) f e in
      (ap number_of_fault (sym o.1), subst (λ x. Evidence root x k 0) o.1 (record { at = at; is_at = is; path_is = refl; count_is = refl; many = ltb-true 256 (open_at at) o.0 }))

  give_open : (f : CheckFault) (k u : ℕ) → number_of_fault f ≡ 10 → Evidence root f k u → (at : Stand) × NodeAt root k at × (much_open k (seen at) ≡ None → ⊥)
  give_open f k u is e =
      let o = only_too_many_open f is in
      let e' : Evidence root (too_many_open o.0 o.1) k u = subst (λ x. Evidence root x k u) o.2 e in
      let many = lt-ltb 256 (open_at e'.at) (let h = e'.count_is in let g = e'.many in omega (arith, h, g)) in
      (e'.at, e'.is_at, λ none. only_none (nat_lt 256 (open_at e'.at)) (too_many_open e'.at.path (open_at e'.at)) many none)

  pub open_law : PlainLaw root 10 much_open
  open_law = record {
    plain = λ f u is. plain_tail f u (λ four. absurd (omega arith)) (λ seven. absurd (omega arith));
    take = take_open;
    give = give_open;
  }
